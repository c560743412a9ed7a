use Rattle.map_eval.proofs.Vocabulary.{◌≡◌, ℕ, [], length, pins_at}
use Rattle.map_eval.proofs.pins.no_pins.Given as goal

abbrev pub invariant-signals : goal.invariant-signals
invariant-signals l = (length l.lists.items ≡ l.counter) × ((s : ℕ) → pins_at l.lists.items s ≡ [])
