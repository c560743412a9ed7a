use Rattle.cmd_steps.proofs.Vocabulary.{holds, reads_image}
use Rattle.cmd_steps.proofs.Taking.{took-stop, took-value}
use Rattle.cmd_steps.proofs.image.image_of_text.Goals as goal

pub returns-in-Ok : goal.returns-in-Ok
returns-in-Ok c =
    let e = c.in-Ok.ensures in
    λ o. took-value (reads_image (holds c.args.text.now) c.args.shape.now) c.in-Ok.image o (e.found.shape, e.found.image, e.found)

pub returns-in-Err-At : goal.returns-in-Err-At
returns-in-Err-At c =
    λ o. took-stop (reads_image (holds c.args.text.now) c.args.shape.now) _ o (rw c.in-Err-At.field-0-is at c.in-Err-At.ensures.refused) tt

pub returns-in-Err-Memory : goal.returns-in-Err-Memory
returns-in-Err-Memory c = λ o. took-stop (reads_image (holds c.args.text.now) c.args.shape.now) _ o tt tt
