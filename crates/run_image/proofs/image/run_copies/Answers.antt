use Rattle.run_image.proofs.Vocabulary.{◌≤◌, refl, arith, err_from_is_err_and, outside}
use Rattle.run_image.proofs.ImageLemmas.{load-stops, load-gives}
use Rattle.run_image.proofs.image.run_copies.Goals as goal

pub returns-in_err-rows : goal.returns-in_err-rows
returns-in_err-rows g c =
    let p = err_from_is_err_and c.from_residual.result c.from_residual.ensures.1 in
    let e = c.in_err-rows.ensures in
    record { follows = λ files begun failures stands few. rw (p.1, p.2) (load-stops c.args.copies c.args.image c.args.vectors.now files begun failures _ _ stands _ _ refl e.machine (e.took _ _)) }

pub run_rows-requires : goal.run_rows-requires
run_rows-requires g c = c.in_ok-rows.ensures.loaded

pub returns : goal.returns
returns g c =
    let s0 = g.S.Store.store_state c.args.store.now in
    let a = g.K.Sink.sink_state c.args.sink.now in
    let box0 = c.args.rig.now in
    let r0 = (goal.Rig-dyn g (box0.vtable, box0.value)).rig_state box0.value in
    let box1 = c.prepare.new.rig in
    let r1 = (goal.Rig-dyn g (box1.vtable, box1.value)).rig_state box1.value in
    let e = c.in_ok-rows.ensures in
    let took = e.took s0 a in
    record {
      follows = λ files begun failures stands few.
          let still : failures ≤ r1.failures = omega (arith, few, took.later.rig) in
          load-gives c.args.copies c.args.image c.args.vectors.now files begun failures (outside s0 r0 a) (outside s0 r1 a) stands c.in_ok-rows.rows c.in_ok-rows.rows.copies c.in_ok-rows.rows.image _ _ e.machine took e.copies e.image
          (c.run_rows.ensures.follows files begun failures r0.loads stands still);
    }
