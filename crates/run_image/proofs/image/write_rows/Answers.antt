use Rattle.run_image.proofs.Vocabulary.{refl, arith, err_from_is_err_and}
use Rattle.run_image.proofs.CycleLemmas.{batch-smaller, few-together}
use Rattle.run_image.proofs.RowLemmas.{IsDriving-start, IsDriving-more, batch-of, end-of, pins-are, read-stops, makes-stop, ends-so}
use Rattle.run_image.proofs.image.write_rows.Goals as goal

pub file-init : goal.file-init
file-init g c = IsDriving-start c.args.rows.now _ c.requires.loaded c.requires.begun

pub next_batch-requires-clause-open : goal.next_batch-requires-clause-open
next_batch-requires-clause-open g c = rw c.file.invariant.written.taking.place refl

pub end_rows-requires-clause-pins : goal.end_rows-requires-clause-pins
end_rows-requires-clause-pins g c =
    let r0 = (goal.Rig-dyn g (c.args.rig.now.vtable, c.args.rig.now.value)).rig_state c.args.rig.now.value in
    pins-are _ _ r0.failures _ (omega arith) c.file.rows _ c.file.invariant c.next_batch.new.rows c.in_ok-count.ensures.same

pub make_rows-requires-clause-few : goal.make_rows-requires-clause-few
make_rows-requires-clause-few g c = few-together _ _ c.in_ok-count.ensures.few

pub make_rows-requires-clause-pins : goal.make_rows-requires-clause-pins
make_rows-requires-clause-pins g c =
    let r0 = (goal.Rig-dyn g (c.args.rig.now.vtable, c.args.rig.now.value)).rig_state c.args.rig.now.value in
    pins-are _ _ r0.failures _ (omega arith) c.file.rows _ c.file.invariant c.next_batch.new.rows c.in_ok-count.ensures.same

pub file-preserved : goal.file-preserved
file-preserved g c =
    let b = c.in_ok-count.ensures in
    let m = c.in_ok-make_rows.ensures in
    let s1 = g.S.Store.store_state c.next_batch.new.store in
    let k1 = g.K.Sink.sink_state c.next_batch.new.sink in
    let k2 = g.K.Sink.sink_state c.make_rows.new.sink in
    let r0 = (goal.Rig-dyn g (c.args.rig.now.vtable, c.args.rig.now.value)).rig_state c.args.rig.now.value in
    let box2 = c.make_rows.new.rig in
    let r2 = (goal.Rig-dyn g (box2.vtable, box2.value)).rig_state box2.value in
    let batch = batch-of c.in_ok-count.count c.next_batch.new.rows _ _ c.if-count-eq0.false b.gives in
    IsDriving-more _ _ r0.failures _ (omega arith) c.file.rows _ c.file.invariant c.next_batch.new.rows s1 k1 b.stays b.same b.fits c.in_ok-count.count b.few batch
    r2 m.machine m.loads m.narrows m.tells m.failures m.makes.readings m.makes.drives c.make_rows.new.rows k2 m.same m.vectors m.fits m.left m.makes.adds

pub file-smaller : goal.file-smaller
file-smaller g c =
    let batch = batch-of c.in_ok-count.count c.next_batch.new.rows _ _ c.if-count-eq0.false c.in_ok-count.ensures.gives in
    batch-smaller c.in_ok-count.count c.next_batch.new.rows c.make_rows.new.rows _ _ batch c.in_ok-make_rows.ensures.vectors

pub returns-in_err-count : goal.returns-in_err-count
returns-in_err-count g c =
    let p = err_from_is_err_and c.from_residual.result c.from_residual.ensures.1 in
    let n = c.in_err-count.ensures in
    let s1 = g.S.Store.store_state c.next_batch.new.store in
    let k1 = g.K.Sink.sink_state c.next_batch.new.sink in
    record { follows = λ failures few. rw (p.1, p.2) (read-stops _ _ failures _ few c.file.rows _ c.file.invariant s1 k1 n.stays _ c.next_batch.new.rows n.refused) }

pub returns-in_err-make_rows : goal.returns-in_err-make_rows
returns-in_err-make_rows g c =
    let p = err_from_is_err_and c.from_residual-in_err-make_rows.result c.from_residual-in_err-make_rows.ensures.1 in
    let b = c.in_ok-count.ensures in
    let m = c.in_err-make_rows.ensures in
    let s1 = g.S.Store.store_state c.next_batch.new.store in
    let k1 = g.K.Sink.sink_state c.next_batch.new.sink in
    let k2 = g.K.Sink.sink_state c.make_rows.new.sink in
    let box2 = c.make_rows.new.rig in
    let r2 = (goal.Rig-dyn g (box2.vtable, box2.value)).rig_state box2.value in
    let batch = batch-of c.in_ok-count.count c.next_batch.new.rows _ _ c.if-count-eq0.false b.gives in
    record {
      follows = λ failures few.
          rw (p.1, p.2) (makes-stop _ _ failures _ few c.file.rows _ c.file.invariant c.next_batch.new.rows s1 k1 b.stays b.same b.fits c.in_ok-count.count b.few batch
          r2 m.machine m.loads m.narrows m.tells m.failures _ c.make_rows.new.rows.block.text k2 m.refused);
    }

pub returns-then-count-eq0 : goal.returns-then-count-eq0
returns-then-count-eq0 g c =
    let b = c.in_ok-count.ensures in
    let e = c.end_rows.ensures in
    let s1 = g.S.Store.store_state c.next_batch.new.store in
    let k1 = g.K.Sink.sink_state c.next_batch.new.sink in
    let box2 = c.end_rows.new.rig in
    let r2 = (goal.Rig-dyn g (box2.vtable, box2.value)).rig_state box2.value in
    let ends = end-of c.in_ok-count.count c.next_batch.new.rows _ _ c.if-count-eq0.true b.gives in
    record {
      follows = λ failures few.
          ends-so _ _ failures _ few c.file.rows _ c.file.invariant s1 k1 b.stays c.next_batch.new.rows.block.text c.next_batch.new.rows.vectors ends.0 ends.1
          r2 e.machine e.loads e.narrows e.tells e.failures c.end_rows.result c.next_batch.new.rows b.same e.sent e.refused;
    }
