use Rattle.design_netlist.proofs.Vocabulary.{◌≡◌, ◌<◌, ℕ, Some, cover_at, driver_at, number_at, search_number, state_at}
use Rattle.design_netlist.proofs.cycles.is_on_cycle.Given as goal

abbrev pub invariant-ins : goal.invariant-ins
invariant-ins l = (k d : ℕ) → k < l.k → driver_at l.drivers (number_at (cover_at l.covers l.cover).ins k) ≡ Some d → search_number (state_at l.states.items d) ≡ search_number (state_at l.states.items l.cover) → ⊥
