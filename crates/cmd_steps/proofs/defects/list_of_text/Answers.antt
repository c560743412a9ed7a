use Rattle.cmd_steps.proofs.Vocabulary.{sym, holds, reads_defects}
use Rattle.cmd_steps.proofs.Taking.{took-stop, took-value}
use Rattle.cmd_steps.proofs.defects.list_of_text.Goals as goal

pub returns-in-Ok : goal.returns-in-Ok
returns-in-Ok c =
    let e = c.in-Ok.ensures in
    λ o. took-value (reads_defects (holds c.args.text.now) c.args.shape.now) c.in-Ok.list o (e.found.0.shape, record { text = e.found.0; within = e.found.1; only = λ other is. sym (e.only other is e.found.1) })

pub returns-in-Err-At : goal.returns-in-Err-At
returns-in-Err-At c =
    let e = rw c.in-Err-At.field-0-is at c.in-Err-At.ensures in
    λ o. took-stop (reads_defects (holds c.args.text.now) c.args.shape.now) _ o (e.refused, e.only) tt

pub returns-in-Err-Memory : goal.returns-in-Err-Memory
returns-in-Err-Memory c = λ o. took-stop (reads_defects (holds c.args.text.now) c.args.shape.now) _ o tt tt
