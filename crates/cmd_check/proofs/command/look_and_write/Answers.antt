use Rattle.cmd_check.proofs.Vocabulary.{refl, err-is, kept-gives, line-kept, kept-lacks, took-value, answers}
use Rattle.cmd_check.proofs.command.look_and_write.Goals as goal

pub returns-in_err-answer : goal.returns-in_err-answer
returns-in_err-answer g c =
    λ files begun store rig near. kept-lacks _ _ _ _ _ (err-is _ c.from_residual.ensures.1) tt (near, refl)

pub returns-in_err-text : goal.returns-in_err-text
returns-in_err-text g c =
    λ files begun store rig near. kept-lacks _ _ _ _ _ (err-is _ c.from_residual-in_err-text.ensures.1) tt (near, refl)

pub returns : goal.returns
returns g c =
    let puts = rw (c.deref.ensures.value, c.in_ok-text.ensures, c.shape.ensures.shape, c.requires) at c.write.ensures.puts in
    let x = c.in_ok-answer.answer in
    λ files begun store rig near.
    kept-gives _ _ _ _ x x _ _ _ _ (took-value (answers c.args.list.now c.args.image.now) x _ c.in_ok-answer.ensures.answer) (λ is. is) refl
    (line-kept _ _ _ _ _ _ _ puts (near, refl))
