use Rattle.run_image.proofs.Vocabulary.{refl, arith, err_from_is_err_and}
use Rattle.diag_list.proofs.ListedLemmas.{list-shape}
use Rattle.run_image.proofs.Following.{list-fails, listed-then}
use Rattle.run_image.proofs.laid.list_and_run.Goals as goal

pub returns-in_err-list : goal.returns-in_err-list
returns-in_err-list g c = record {
  follows = λ before failures files begun loads few at same.
      let p = err_from_is_err_and c.from_residual.result c.from_residual.ensures.1 in
      rw (p.1, p.2) (list-fails (g.L.Lays.laid c.args.what.now) c.args.shape.now before (record { begun = begun; failures = failures; files = files; vectors = c.args.vectors.now }) _ _ _ _ _ loads c.in_err-list.ensures.machine at _ _ refl (c.in_err-list.ensures.written _));
}

pub lay_and_run-requires : goal.lay_and_run-requires
lay_and_run-requires g c =
    let box0 = c.args.rig.now in
    let r0 = (goal.Rig-dyn g (box0.vtable, box0.value)).rig_state box0.value in
    let box1 = c.write_list.new.rig in
    let r1 = (goal.Rig-dyn g (box1.vtable, box1.value)).rig_state box1.value in
    let written = c.in_ok-list.ensures.written (g.S.Store.store_state c.args.store.now) in
    list-shape r0 r1 c.args.shape.now c.in_ok-list.list c.in_ok-list.ensures.machine written.0.gives.shape c.requires

pub returns : goal.returns
returns g c = record {
  follows = λ before failures files begun loads few at same.
      let box0 = c.args.rig.now in
      let r0 = (goal.Rig-dyn g (box0.vtable, box0.value)).rig_state box0.value in
      let written = c.in_ok-list.ensures.written (g.S.Store.store_state c.args.store.now) in
      listed-then (g.L.Lays.laid c.args.what.now) c.args.shape.now before (record { begun = begun; failures = failures; files = files; vectors = c.args.vectors.now }) _ _ _ _ _ loads c.in_ok-list.ensures.machine at c.in_ok-list.list written _ _
      (c.lay_and_run.ensures.follows r0.loads failures files begun (c.args.shape.now, written.0.gives) (omega (arith, few, written.0.later.rig)) at same);
}
