use Rattle.cmd_repair.proofs.Vocabulary.{err_from_is_err_and, nothing, line-last}
use Rattle.cmd_steps.proofs.Values.{value-stops, value-lacks, value-gives}
use Rattle.cmd_repair.proofs.command.repair_and_write.Goals as goal

pub returns-in_err-take_few : goal.returns-in_err-take_few
returns-in_err-take_few g c =
    let p = err_from_is_err_and c.from_residual.result c.from_residual.ensures.1 in
    λ files begun store rig near. rw (p.1, p.2) (value-stops (c.in_err-take_few.ensures.took _) near)

pub returns-in_err-made : goal.returns-in_err-made
returns-in_err-made g c =
    let p = err_from_is_err_and c.from_residual-in_err-made.result c.from_residual-in_err-made.ensures.1 in
    λ files begun store rig near.
    rw (p.1, p.2) (value-gives (c.in_ok-take_few.ensures.took _) (value-stops (c.in_err-made.ensures.took _) near))

pub returns-in_err-bytes : goal.returns-in_err-bytes
returns-in_err-bytes g c =
    let p = err_from_is_err_and c.from_residual-in_err-bytes.result c.from_residual-in_err-bytes.ensures.1 in
    λ files begun store rig near.
    rw (p.1, p.2) (value-gives (c.in_ok-take_few.ensures.took _) (value-lacks (c.in_ok-made.ensures.took _) tt near))

pub returns : goal.returns
returns g c =
    let puts = rw (c.deref.ensures.value, c.in_ok-bytes.ensures) at c.write.ensures.puts in
    λ files begun store rig near.
    value-gives (c.in_ok-take_few.ensures.took _) (value-gives (c.in_ok-made.ensures.took _) (line-last _ _ _ _ _ _ _ puts near))

pub repaired-requires-clause-few : goal.repaired-requires-clause-few
repaired-requires-clause-few g c = (c.in_ok-take_few.ensures.took nothing).gives
