use Rattle.rig_port.proofs.Vocabulary.{◌≡◌, ℕ, ◌<◌, ◌++◌, List, false, length, drop, get_or, Pins, pin_text}
use Rattle.rig_port.proofs.turn.read_pins.Given as goal

abbrev pub invariant-pins : goal.invariant-pins
invariant-pins l = (length l.read ≡ length l.initial.read)
    × ((pins : Pins) (rest : List ℕ) → length pins ≡ length l.initial.read → drop l.at l.reply ≡ pin_text pins ++ rest →
    (j : ℕ) → j < l.k → get_or l.read j false ≡ get_or pins j false)
