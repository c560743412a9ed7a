use Rattle.run_image.proofs.Vocabulary.{[], refl, err_from_is_err_and, nothing, most_rows}
use Rattle.cmd_steps.proofs.StartLemmas.{begun-file}
use Rattle.run_image.proofs.{Driving.driven-start, RowLemmas.session-is}
use Rattle.run_image.proofs.ImageLemmas.{open-stops, line-stops, rows-follow}
use Rattle.run_image.proofs.image.run_rows.Goals as goal

pub returns-in_err-open_vectors : goal.returns-in_err-open_vectors
returns-in_err-open_vectors g c =
    let p = err_from_is_err_and c.from_residual.result c.from_residual.ensures.1 in
    let rows = c.args.rows.now in
    let a = g.K.Sink.sink_state c.args.sink.now in
    record {
      follows = λ files begun failures before stands few. rw (p.1, p.2) (open-stops rows.copies rows.image c.args.vectors.now files begun failures before _ stands _ _ _ refl (c.in_err-open_vectors.ensures.took _ a) (refl, refl));
    }

pub returns-in_err-write : goal.returns-in_err-write
returns-in_err-write g c =
    let p = err_from_is_err_and c.from_residual-in_err-write.result c.from_residual-in_err-write.ensures.1 in
    let rows = c.args.rows.now in
    let a = g.K.Sink.sink_state c.args.sink.now in
    let box = c.args.rig.now in
    let r1 = (goal.Rig-dyn g (box.vtable, box.value)).rig_state box.value in
    let opened = c.in_ok-open_vectors.ensures in
    let session = session-is r1 r1 rows.image [] [] refl (driven-start most_rows rows.image r1 c.requires.begins) in
    record {
      follows = λ files begun failures before stands few. rw (p.1, p.2) (line-stops rows.copies rows.image c.args.vectors.now files begun failures before _ stands _ (opened.took r1 a) (refl, refl) _ _ _ refl c.in_err-write.ensures.puts (opened.begun, session));
    }

pub write_rows-requires : goal.write_rows-requires
write_rows-requires g c =
    let opened = c.in_ok-open_vectors.ensures in
    let took = opened.took nothing.rig nothing.sink in
    record {
      begun = (c.args.vectors.now, opened.begun, rw took.later.contents took.gives, opened.unread);
      loaded = c.requires;
    }

pub returns : goal.returns
returns g c =
    let rows = c.args.rows.now in
    let s0 = g.S.Store.store_state c.args.store.now in
    let s1 = g.S.Store.store_state c.open_vectors.new.store in
    let a = g.K.Sink.sink_state c.args.sink.now in
    let box = c.args.rig.now in
    let r1 = (goal.Rig-dyn g (box.vtable, box.value)).rig_state box.value in
    let opened = c.in_ok-open_vectors.ensures in
    let took = opened.took r1 a in
    let file = begun-file s1 s0.contents c.args.vectors.now took.later.contents opened.begun in
    record {
      follows = λ files begun failures before stands few.
          let follows = c.write_rows.ensures.follows failures few in
          rows-follow rows.copies rows.image c.args.vectors.now files begun failures before _ stands _ took (refl, refl) _ _ _ _ file c.in_ok-write.ensures.puts follows.machines follows;
    }
