use Rattle.design_netlist.proofs.Vocabulary.{◌≡◌, ◌++◌, texts_of, joined, front}
use Rattle.design_netlist.proofs.NameLemmas.{measure}
use Rattle.design_netlist.proofs.names.way_back.Given as goal

abbrev pub invariant-back : goal.invariant-back
invariant-back l = front (texts_of l.beginnings) l.fn.last ≡ front (texts_of l.beginnings) l.next ++ joined l.beginnings l.places.items

abbrev pub decreases-back : goal.decreases-back
decreases-back l = measure l.next
