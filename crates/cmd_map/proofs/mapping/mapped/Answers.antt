use Rattle.cmd_map.proofs.Vocabulary.{ap, Err, took-nothing, took-value, maps}
use Rattle.cmd_map.proofs.mapping.mapped.Goals as goal

pub returns-in-Ok : goal.returns-in-Ok
returns-in-Ok c =
    let e = c.in-Ok.ensures in
    λ o. took-value (maps c.args.read.now) c.in-Ok.text o (record { remapped = e.remapped; narrow = rw c.as_slice.ensures at e.narrow })

pub returns-in-Err : goal.returns-in-Err
returns-in-Err c = λ o. took-nothing (maps c.args.read.now) _ o (ap (λ s. Err s) c.from.ensures) tt
