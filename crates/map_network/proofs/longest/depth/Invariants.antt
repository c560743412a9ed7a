use Rattle.map_network.proofs.Vocabulary.{ℕ, ◌≡◌, ◌<◌, [], IsSearching, mark_at}
use Rattle.map_network.specs.declared.longest.Mark.TheVariants.{New}
use Rattle.map_network.proofs.longest.depth.Given as goal

abbrev pub invariant-tables : goal.invariant-tables
invariant-tables l = record {
  searching : IsSearching l.network l.search;
  ended : l.search.path.items ≡ [];
  seen : (j : ℕ) → j < l.table → mark_at l.search.marks.items j ≡ New → ⊥;
}
