use Rattle.run_image.proofs.Vocabulary.{◌∙◌, ap, sym, refl, Some, err_from_is_err_and, Shape}
use Rattle.run_image.proofs.Following.{lay-stops, lay-runs}
use Rattle.run_image.proofs.laid.lay_and_run.Goals as goal

pub returns-in_err-image : goal.returns-in_err-image
returns-in_err-image g c = record {
  follows = λ before failures files begun listed few at same.
      let p = err_from_is_err_and c.from_residual.result c.from_residual.ensures.1 in
      rw (p.1, p.2) (lay-stops (g.L.Lays.laid c.args.what.now) c.args.list.now (record { begun = begun; failures = failures; files = files; vectors = c.args.vectors.now }) _ _ _ refl (c.in_err-image.ensures.took _) at);
}

pub run_copies-requires-clause-shape : goal.run_copies-requires-clause-shape
run_copies-requires-clause-shape g c =
    let box = c.args.rig.now in
    let r = (goal.Rig-dyn g (box.vtable, box.value)).rig_state box.value in
    let took = c.in_ok-image.ensures.took (record { store = g.S.Store.store_state c.args.store.now; rig = r; sink = g.K.Sink.sink_state c.args.sink.now }) in
    let on = g.met.L.Lays.right c.args.what.now c.args.list.now c.in_ok-image.image took.gives in
    c.requires ∙ ap (λ (m : Shape). Some m) (sym on.shape)

pub run_copies-requires-clause-shares : goal.run_copies-requires-clause-shares
run_copies-requires-clause-shares g c =
    let box = c.args.rig.now in
    let r = (goal.Rig-dyn g (box.vtable, box.value)).rig_state box.value in
    let took = c.in_ok-image.ensures.took (record { store = g.S.Store.store_state c.args.store.now; rig = r; sink = g.K.Sink.sink_state c.args.sink.now }) in
    let on = g.met.L.Lays.right c.args.what.now c.args.list.now c.in_ok-image.image took.gives in
    rw c.copies.ensures on.shares

pub returns : goal.returns
returns g c = record {
  follows = λ before failures files begun listed few at same.
      let took = c.in_ok-image.ensures.took _ in
      let on = g.met.L.Lays.right c.args.what.now c.args.list.now c.in_ok-image.image took.gives in
      lay-runs (g.L.Lays.laid c.args.what.now) c.args.list.now (record { begun = begun; failures = failures; files = files; vectors = c.args.vectors.now }) listed.0 before c.in_ok-image.image c.copies.result _ _ _ listed.1 c.copies.ensures took on same
      (c.run_copies.ensures.follows files begun failures at few);
}
