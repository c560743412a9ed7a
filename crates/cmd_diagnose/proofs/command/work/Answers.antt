use Rattle.cmd_diagnose.proofs.Vocabulary.{refl, few-listed}
use Rattle.std.proofs.lemmas.Result.{err_from_is_err_and}
use Rattle.diag_list.proofs.ListedLemmas.{attached-shape}
use Rattle.cmd_diagnose.proofs.Following.{no-machine, unattached, unlisted, listed}
use Rattle.cmd_diagnose.proofs.command.work.Goals as goal

pub returns-in_err-shape : goal.returns-in_err-shape
returns-in_err-shape g c = record {
  does =
      let p = err_from_is_err_and c.from_residual.result c.from_residual.ensures.1 in
      rw (p.1, p.2) (no-machine c.args.machine.now c.args.name.now _ _ _ _ _ _ refl (c.in_err-shape.ensures.took _ _));
}

pub returns-in_err-attach : goal.returns-in_err-attach
returns-in_err-attach g c = record {
  does =
      let p = err_from_is_err_and c.from_residual-in_err-attach.result c.from_residual-in_err-attach.ensures.1 in
      rw (p.1, p.2) (unattached c.args.machine.now c.args.name.now _ _ _ _ _ c.in_ok-shape.shape (c.in_ok-shape.ensures.took _ _) c.in_err-attach.ensures.asked c.in_err-attach.ensures.loads c.in_err-attach.ensures.unused _ _ refl (c.in_err-attach.ensures.took _ _));
}

pub write_settled-requires : goal.write_settled-requires
write_settled-requires g c =
    let box1 = c.attach.new.rig in
    let r1 = (goal.Rig-dyn g (box1.vtable, box1.value)).rig_state box1.value in
    attached-shape r1 c.in_ok-shape.shape c.args.name.now (c.in_ok-attach.ensures.took (g.S.Store.store_state c.read_shape.new.store) (g.K.Sink.sink_state c.args.sink.now)).gives

pub returns-in_err-write_settled : goal.returns-in_err-write_settled
returns-in_err-write_settled g c = record {
  does =
      let p = err_from_is_err_and c.from_residual-in_err-write_settled.result c.from_residual-in_err-write_settled.ensures.1 in
      let e = c.in_err-write_settled.ensures in
      let a = c.in_ok-attach.ensures in
      rw (p.1, p.2) (unlisted c.args.machine.now c.args.name.now _ _ _ _ _ c.in_ok-shape.shape (c.in_ok-shape.ensures.took _ _) a.asked a.loads a.unused (a.took _ _) _ _ e.machine (few-listed _ _ _ a.unused a.loads e.machine e.cycles) _ _ refl (e.written _));
}

pub returns : goal.returns
returns g c = record {
  does =
      let e = c.in_ok-write_settled.ensures in
      let a = c.in_ok-attach.ensures in
      listed c.args.machine.now c.args.name.now _ _ _ _ _ c.in_ok-shape.shape (c.in_ok-shape.ensures.took _ _) a.asked a.loads a.unused (a.took _ _) _ _ e.machine (few-listed _ _ _ a.unused a.loads e.machine e.cycles) _ _ (e.written _);
}
