use Rattle.design_netlist.proofs.Vocabulary.{◌≡◌, length, AreFirstWords}
use Rattle.design_netlist.proofs.drives.first_words.Given as goal

abbrev pub invariant-words : goal.invariant-words
invariant-words l = record { len : length l.firsts.items ≡ l.count; firsts : AreFirstWords l.words l.i l.count l.firsts.items }
