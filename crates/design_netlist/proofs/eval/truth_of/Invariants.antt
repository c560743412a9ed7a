use Rattle.design_netlist.proofs.Vocabulary.{◌≡◌, ◌<◌, ℕ, get_or, false, map, [], matches, bit_at}
use Rattle.design_netlist.proofs.eval.truth_of.Given as goal

abbrev pub invariant-rows : goal.invariant-rows
invariant-rows l = (j : ℕ) → j < l.k → matches (get_or l.rows j []) (map (bit_at l.values) l.ins) ≡ false
