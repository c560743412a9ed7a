use Rattle.cmd_steps.proofs.Vocabulary.{refl, holds, reads_text}
use Rattle.cmd_steps.proofs.{Taking.took-stop, Taking.took-value, TextLemmas.text-stops}
use Rattle.cmd_steps.proofs.design.with_netlist.Goals as goal

pub returns-in-Ok : goal.returns-in-Ok
returns-in-Ok c =
    λ o.
    let took = rw c.deref.ensures.value at (c.in-Ok.ensures o) in
    rw c.new.ensures (took-value (reads_text c.args.file (holds c.args.text.items)) _ o (record { design = took.gives; file = refl }))

pub returns-in-Err : goal.returns-in-Err
returns-in-Err c =
    λ o.
    let took = rw c.deref.ensures.value at (c.in-Err.ensures o) in
    took-stop (reads_text c.args.file (holds c.args.text.items)) _ o (text-stops c.args.file (holds c.args.text.items) _ took.stops) took.counted
