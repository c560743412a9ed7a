use Rattle.design_netlist.proofs.Vocabulary.{◌≡◌, ◌++◌, vec_len, joined}
use Rattle.design_netlist.proofs.names.put_texts.Given as goal

abbrev pub invariant-places : goal.invariant-places
invariant-places l = l.text.items ++ joined l.beginnings l.places.items ≡ l.fn.text.items ++ joined l.beginnings l.fn.back.items

abbrev pub decreases-places : goal.decreases-places
decreases-places l = vec_len l.places
