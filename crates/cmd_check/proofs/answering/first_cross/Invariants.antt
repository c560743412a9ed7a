use Rattle.cmd_check.proofs.Vocabulary.{◌≡◌, ◌<◌, ℕ, true, IsFreeCross, is_closed}
use Rattle.cmd_check.proofs.answering.first_cross.Given as goal

abbrev pub invariant-crosses : goal.invariant-crosses
invariant-crosses l = (y : ℕ) → y < l.x → is_closed l.config.config y ≡ true → IsFreeCross l.list.shape l.list.list y
