use Rattle.base_text.proofs.Vocabulary.{◌≡◌, ℕ, ◌<◌, ◌≤◌, ◌-◌, false, get_or, length, is_blank}
use Rattle.base_text.proofs.bytes.blank_place.Given as goal

abbrev pub invariant-loop-place : goal.invariant-loop-place
invariant-loop-place l = (l.place ≤ length l.bytes) × ((k : ℕ) → k < l.place → is_blank (get_or l.bytes k 0) ≡ false)

abbrev pub decreases-loop-place : goal.decreases-loop-place
decreases-loop-place l = length l.bytes - l.place
