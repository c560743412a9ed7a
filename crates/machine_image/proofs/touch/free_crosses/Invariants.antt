use Rattle.machine_image.proofs.Vocabulary.{◌<◌, ℕ, get_or, Cross, IsFreeCross}
use Rattle.machine_image.proofs.touch.free_crosses.Given as goal

abbrev pub invariant-crosses : goal.invariant-crosses
invariant-crosses l = (j : ℕ) (d : Cross) → j < l.i → IsFreeCross l.defects.shape l.defects.list (get_or l.crosses j d).0
