use Rattle.cmd_check.proofs.Vocabulary.{◌∷◌, [], refl, reads_image, err-is, nothing}
use Rattle.cmd_steps.proofs.AttachedReads.{file-unread, file-read}
use Rattle.cmd_steps.proofs.Machines.{machine-stops, attach-stops}
use Rattle.diag_list.proofs.ListedLemmas.{attached-shape}
use Rattle.cmd_check.proofs.{CheckLaws.check-lawful, Following.tested-since}
use Rattle.cmd_check.proofs.command.check.Goals as goal

pub returns-in_err-shape : goal.returns-in_err-shape
returns-in_err-shape g c =
    let e = c.in_err-shape.ensures in
    record {
      lawful = check-lawful c.args.machine.now c.args.name.now c.args.image.now;
      does = machine-stops _ _ _ _ _ _ _ _ _ _ _ (err-is _ c.from_residual.ensures.1) (e.took _ _)
          ((e.took nothing.rig nothing.sink).place, refl);
    }

pub returns-in_err-attach : goal.returns-in_err-attach
returns-in_err-attach g c =
    let read = c.in_ok-shape.ensures.took in
    let e = c.in_err-attach.ensures in
    record {
      lawful = check-lawful c.args.machine.now c.args.name.now c.args.image.now;
      does = attach-stops _ _ _ _ _ _ _ _ _ _ c.in_ok-shape.shape (read _ _) e.asked _ _ (err-is _ c.from_residual-in_err-attach.ensures.1)
          (e.took _ _) ((read nothing.rig nothing.sink).place, e.loads);
    }

pub returns-in_err-image : goal.returns-in_err-image
returns-in_err-image g c =
    let e = c.in_ok-attach.ensures in
    record {
      lawful = check-lawful c.args.machine.now c.args.name.now c.args.image.now;
      does = file-unread _ _ _ (λ m told. reads_image told m) _ _ _ _ _ _ _ _ _ _ c.in_ok-shape.shape (c.in_ok-shape.ensures.took _ _)
          e.asked (e.took _ _) _ _ (err-is _ c.from_residual-in_err-image.ensures.1) (c.in_err-image.ensures.took _ _)
          (λ at. (at, e.loads));
    }

pub judge-requires : goal.judge-requires
judge-requires g c =
    let box1 = c.attach.new.rig in
    let r1 = (goal.Rig-dyn g (box1.vtable, box1.value)).rig_state box1.value in
    record {
      attached = attached-shape r1 c.in_ok-shape.shape c.args.name.now (c.in_ok-attach.ensures.took nothing.store nothing.sink).gives;
      image = (c.in_ok-image.ensures.took nothing.rig nothing.sink).gives.0;
    }

pub returns : goal.returns
returns g c =
    let e = c.in_ok-attach.ensures in
    let s0 = g.S.Store.store_state c.args.store.now in
    let files = c.args.image.now ∷ c.args.machine.now ∷ [] in
    record {
      lawful = check-lawful c.args.machine.now c.args.name.now c.args.image.now;
      does = file-read _ _ _ (λ m told. reads_image told m) _ _ _ _ _ _ _ _ _ _ c.in_ok-shape.shape (c.in_ok-shape.ensures.took _ _)
          e.asked (e.took _ _) c.in_ok-image.image _ _ (c.in_ok-image.ensures.took _ _)
          (λ read. tested-since files s0 c.in_ok-image.image _ _ _ _ e.loads (c.judge.ensures files s0 _ read.place));
    }
