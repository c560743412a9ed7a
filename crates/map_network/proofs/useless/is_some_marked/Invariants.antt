use Rattle.map_network.proofs.Vocabulary.{◌≡◌, ◌<◌, ℕ, false, is_dropped}
use Rattle.map_network.proofs.useless.is_some_marked.Given as goal

abbrev pub invariant-marks : goal.invariant-marks
invariant-marks l = (i : ℕ) → i < l.j → is_dropped l.marks i ≡ false
