use Rattle.cmd_run.proofs.Vocabulary.{[], ◌∷◌, refl, machine-stops, attach-stops}
use Rattle.std.proofs.lemmas.Result.{err_from_is_err_and}
use Rattle.cmd_steps.proofs.Making.{nothing}
use Rattle.cmd_run.proofs.{Following.attached-shape, Following.no-image, Following.rows-follow, RunLaws.run-lawful}
use Rattle.cmd_run.proofs.command.run.Goals as goal

pub returns-clause-lawful : goal.returns-clause-lawful
returns-clause-lawful g c = run-lawful _ _ _ _

pub returns-in_err-shape-clause-lawful : goal.returns-in_err-shape-clause-lawful
returns-in_err-shape-clause-lawful g c = run-lawful _ _ _ _

pub returns-in_err-attach-clause-lawful : goal.returns-in_err-attach-clause-lawful
returns-in_err-attach-clause-lawful g c = run-lawful _ _ _ _

pub returns-in_err-image-clause-lawful : goal.returns-in_err-image-clause-lawful
returns-in_err-image-clause-lawful g c = run-lawful _ _ _ _

pub returns-in_err-shape-clause-does : goal.returns-in_err-shape-clause-does
returns-in_err-shape-clause-does g c =
    let p = err_from_is_err_and c.from_residual.result c.from_residual.ensures.1 in
    let e = c.in_err-shape.ensures in
    rw (p.1, p.2) (machine-stops c.args.machine.now c.args.name.now _ _ _ _ _ _ _ _ _ refl (e.took _ _)
    ((e.took nothing.rig nothing.sink).place, refl))

pub returns-in_err-attach-clause-does : goal.returns-in_err-attach-clause-does
returns-in_err-attach-clause-does g c =
    let p = err_from_is_err_and c.from_residual-in_err-attach.result c.from_residual-in_err-attach.ensures.1 in
    let read = c.in_ok-shape.ensures in
    let e = c.in_err-attach.ensures in
    rw (p.1, p.2) (attach-stops c.args.machine.now c.args.name.now _ _ _ _ _ _ _ _ c.in_ok-shape.shape (read.took _ _) e.asked _ _ refl
    (e.took _ _) ((read.took nothing.rig nothing.sink).place, e.loads))

pub returns-in_err-image-clause-does : goal.returns-in_err-image-clause-does
returns-in_err-image-clause-does g c =
    let p = err_from_is_err_and c.from_residual-in_err-image.result c.from_residual-in_err-image.ensures.1 in
    let e = c.in_ok-attach.ensures in
    rw (p.1, p.2) (no-image (c.in_ok-shape.ensures.took _ _) e.asked e.loads (e.took _ _) (c.in_err-image.ensures.took _ _))

pub run_image-requires : goal.run_image-requires
run_image-requires g c =
    let box1 = c.attach.new.rig in
    let r1 = (goal.Rig-dyn g (box1.vtable, box1.value)).rig_state box1.value in
    attached-shape r1 c.in_ok-shape.shape c.args.name.now c.in_ok-image.image (c.in_ok-attach.ensures.took nothing.store nothing.sink).gives
    (c.in_ok-image.ensures.took nothing.rig nothing.sink).gives.0

pub returns-clause-does : goal.returns-clause-does
returns-clause-does g c =
    let e = c.in_ok-attach.ensures in
    rows-follow (c.in_ok-shape.ensures.took _ _) e.asked e.loads (e.took _ _) (c.in_ok-image.ensures.took _ _)
    (c.run_image.ensures.follows (c.args.image.now ∷ c.args.machine.now ∷ []) (g.S.Store.store_state c.args.store.now) _)
