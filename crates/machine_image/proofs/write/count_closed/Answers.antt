use Rattle.machine_image.proofs.Vocabulary.{◌+◌, [], ◌∷◌, refl, ap, arith, if◌then◌else◌, is_closed}
use Rattle.machine_image.proofs.Written.{count_step}
use Rattle.machine_image.proofs.write.count_closed.Goals as goal

pub crosses-preserved : goal.crosses-preserved
crosses-preserved c =
    let g = c.args.config.now.config in (
      count_step (λ x. if is_closed g x then x ∷ [] else []) c.crosses.x (c.crosses.x + 1) c.crosses.count (c.crosses.count + c.count_cross-count.result) refl c.crosses.invariant.0 (ap (λ n. c.crosses.count + n) c.count_cross-count.ensures.count),
      omega (arith, c.crosses.invariant.1, c.count_cross-count.ensures.few),
    )
