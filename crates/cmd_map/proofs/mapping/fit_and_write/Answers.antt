use Rattle.cmd_map.proofs.Vocabulary.{err_from_is_err_and, line-last, value-stops, value-gives}
use Rattle.cmd_map.proofs.mapping.fit_and_write.Goals as goal

pub returns-in_err-text : goal.returns-in_err-text
returns-in_err-text g c =
    let p = err_from_is_err_and c.from_residual.result c.from_residual.ensures.1 in
    λ files begun store rig near. rw (p.1, p.2) (value-stops (c.in_err-text.ensures _) near)

pub returns : goal.returns
returns g c =
    let puts = rw c.as_slice.ensures at c.write.ensures.puts in
    λ files begun store rig near. value-gives (c.in_ok-text.ensures _) (line-last _ _ _ _ _ _ _ puts near)
