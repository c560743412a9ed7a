use Rattle.map_network.proofs.Vocabulary.{ℕ, ◌≡◌, ◌<◌, None, new_table, source_at}
use Rattle.map_network.proofs.longest.new_among.Given as goal

abbrev pub invariant-ins : goal.invariant-ins
invariant-ins l = (k : ℕ) → k < l.k → new_table l.marks (source_at l.ins k) ≡ None
