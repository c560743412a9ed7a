use Rattle.run_image.proofs.Vocabulary.{refl, inl, err_from_is_err_and, outside, took-nothing, prepares}
use Rattle.run_image.proofs.ImageLemmas.{load-took, load-stopped}
use Rattle.run_image.proofs.image.prepare.Goals as goal

pub returns-in_err-buffers-clause-took : goal.returns-in_err-buffers-clause-took
returns-in_err-buffers-clause-took g c =
    let p = err_from_is_err_and c.from_residual.result c.from_residual.ensures.1 in
    let box = c.args.rig.now in
    let rig = (goal.Rig-dyn g (box.vtable, box.value)).rig_state box.value in
    λ store sink. rw (p.1, p.2) (took-nothing (prepares rig rig) _ (outside store rig sink) refl (tt, inl refl))

pub returns-in_err-run-clause-took : goal.returns-in_err-run-clause-took
returns-in_err-run-clause-took g c =
    let p = err_from_is_err_and c.from_residual-in_err-run.result c.from_residual-in_err-run.ensures.1 in
    let e = c.in_err-run.ensures in
    λ store sink. rw (p.1, p.2) (load-stopped _ _ e.machine e.narrows e.tells store sink e.later _ e.not_counted e.refused)

pub returns-clause-took : goal.returns-clause-took
returns-clause-took g c =
    let e = c.in_ok-run.ensures in
    λ store sink. load-took _ _ e.machine e.narrows e.tells store sink e.later _ e.counted
