use Rattle.cmd_steps.proofs.Vocabulary.{sym, holds, reads_machine}
use Rattle.cmd_steps.proofs.Taking.{took-stop, took-value}
use Rattle.cmd_steps.proofs.machine.shape_of_text.Goals as goal

pub returns-in-Ok : goal.returns-in-Ok
returns-in-Ok c =
    let e = c.in-Ok.ensures in
    λ o. took-value (reads_machine (holds c.args.text.now)) c.in-Ok.shape o (record { text = e.found.0; within = e.found.1; only = λ counts is. sym (e.only counts is e.found.1) })

pub returns-in-Err-At : goal.returns-in-Err-At
returns-in-Err-At c =
    let e = rw c.in-Err-At.field-0-is at c.in-Err-At.ensures in
    λ o. took-stop (reads_machine (holds c.args.text.now)) _ o (e.refused, e.only) tt

pub returns-in-Err-Memory : goal.returns-in-Err-Memory
returns-in-Err-Memory c = λ o. took-stop (reads_machine (holds c.args.text.now)) _ o tt tt
