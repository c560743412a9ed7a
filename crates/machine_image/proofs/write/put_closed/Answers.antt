use Rattle.machine_image.proofs.Vocabulary.{◌+◌, [], ◌∷◌, refl, if◌then◌else◌, is_closed, four}
use Rattle.machine_image.proofs.Written.{put_piece}
use Rattle.machine_image.proofs.write.put_closed.Goals as goal

pub crosses-preserved : goal.crosses-preserved
crosses-preserved c =
    let g = c.args.config.now.config in
    put_piece four (λ x. if is_closed g x then x ∷ [] else []) c.args.out.now.items c.crosses.out.items c.put_cross.new.out.items c.crosses.x (c.crosses.x + 1) c.crosses.invariant refl c.in_ok-put_cross.ensures
