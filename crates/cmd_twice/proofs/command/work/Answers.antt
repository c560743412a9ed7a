use Rattle.cmd_twice.proofs.Vocabulary.{[], ◌∷◌, refl, Design}
use Rattle.std.proofs.lemmas.Result.{err_from_is_err_and}
use Rattle.diag_list.proofs.ListedLemmas.{attached-shape}
use Rattle.run_image.proofs.Bodies.{unread, unattached, attached-then, undrawn, drawn-then}
use Rattle.cmd_twice.proofs.command.work.Goals as goal

pub returns-in_err-shape : goal.returns-in_err-shape
returns-in_err-shape g c = record {
  does =
      let p = err_from_is_err_and c.from_residual.result c.from_residual.ensures.1 in
      rw (p.1, p.2) (unread c.args.words.now.machine.now c.args.words.now.name.now _ _ _ _ _ _ _ _ refl (c.in_err-shape.ensures.took _ _));
}

pub returns-in_err-attach : goal.returns-in_err-attach
returns-in_err-attach g c = record {
  does =
      let p = err_from_is_err_and c.from_residual-in_err-attach.result c.from_residual-in_err-attach.ensures.1 in
      let e = c.in_err-attach.ensures in
      rw (p.1, p.2) (unattached c.args.words.now.machine.now c.args.words.now.name.now _ _ _ _ _ _ _ c.in_ok-shape.shape (c.in_ok-shape.ensures.took _ _)
      e.asked e.loads _ _ refl (e.took _ _));
}

pub returns-in_err-netlist : goal.returns-in_err-netlist
returns-in_err-netlist g c = record {
  does =
      let p = err_from_is_err_and c.from_residual-in_err-netlist.result c.from_residual-in_err-netlist.ensures.1 in
      let e = c.in_ok-attach.ensures in
      rw (p.1, p.2) (attached-then c.args.words.now.machine.now c.args.words.now.name.now _ _ _ _ _ _ _ c.in_ok-shape.shape (c.in_ok-shape.ensures.took _ _)
      e.asked e.loads _ _ (e.took _ _) (λ has. undrawn has Design c.args.words.now.design.now _ _ _ _ _ refl (c.in_err-netlist.ensures.took _ _)));
}

pub list_and_run-requires : goal.list_and_run-requires
list_and_run-requires g c =
    let box1 = c.attach.new.rig in
    let r1 = (goal.Rig-dyn g (box1.vtable, box1.value)).rig_state box1.value in
    attached-shape r1 c.in_ok-shape.shape c.args.words.now.name.now (c.in_ok-attach.ensures.took (g.S.Store.store_state c.read_shape.new.store) (g.K.Sink.sink_state c.args.sink.now)).gives

pub returns : goal.returns
returns g c = record {
  does =
      let e = c.in_ok-attach.ensures in
      attached-then c.args.words.now.machine.now c.args.words.now.name.now _ _ _ _ _ _ _ c.in_ok-shape.shape (c.in_ok-shape.ensures.took _ _)
      e.asked e.loads _ _ (e.took _ _) (λ has.
      drawn-then has Design c.args.words.now.design.now _ _ _ c.in_ok-netlist.netlist _ _ (c.in_ok-netlist.ensures.took _ _) (λ all.
      c.list_and_run.ensures.follows _ _ (c.args.words.now.design.now ∷ c.args.words.now.machine.now ∷ []) (g.S.Store.store_state c.args.store.now)
      all.loads all.failures all.read.place all.read.contents));
}
