use Rattle.design_netlist.proofs.Vocabulary.{◌≡◌, ◌<◌, ℕ, length, [], New, state_at, IsSearching}
use Rattle.design_netlist.proofs.search.number_covers.Given as goal

abbrev pub invariant-roots : goal.invariant-roots
invariant-roots l = record {
  searching : IsSearching l.covers l.search (length l.covers);
  ended : l.search.groups.items ≡ [];
  seen : (u : ℕ) → u < l.root → state_at l.search.states.items u ≡ New → ⊥;
}
