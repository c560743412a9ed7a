use Rattle.cmd_bench.proofs.Vocabulary.{◌∙◌, [], refl, ap, length, arith, err_from_is_err_and, Rows, driven-start, bench_rows}
use Rattle.cmd_bench.proofs.RunLemmas.{running-more, running-width, run-done, load-stopped, row-stopped}
use Rattle.cmd_bench.proofs.work.run_work.Goals as goal

pub rows-init : goal.rows-init
rows-init g c =
    let e = c.in_ok-run.ensures in (
      record {
        rows = [];
        driven = driven-start bench_rows c.args.image.now _ e.begins;
        count = refl;
        ones_are = refl;
        few = omega arith;
        machine = e.machine;
        later = e.later;
        loads = e.counted;
        narrows = e.narrows;
        tells = e.tells;
      },
      e.run,
    )

pub next_ones-requires : goal.next_ones-requires
next_ones-requires g c =
    let so_far = c.rows.invariant in
    record {
      pins = running-width _ _ c.rows.run _ _ _ _ so_far.1 so_far.0;
      one = ap (λ (r : Rows). length r.inputs) so_far.1 ∙ c.requires.one;
      two = ap (λ (r : Rows). length r.outputs) so_far.1 ∙ c.requires.two;
    }

pub rows-preserved : goal.rows-preserved
rows-preserved g c =
    let so_far = c.rows.invariant in
    let e = c.in_ok-ones.ensures in
    (running-more _ _ c.rows.run _ _ _ _ so_far.1 so_far.0 _ _ e.row e.machine e.later e.loads e.narrows e.tells, e.same ∙ so_far.1)

pub returns-in_err-run-clause-took : goal.returns-in_err-run-clause-took
returns-in_err-run-clause-took g c = λ store sink.
    let p = err_from_is_err_and c.from_residual.result c.from_residual.ensures.1 in
    let e = c.in_err-run.ensures in
    rw (p.1, p.2) (load-stopped c.args.n c.args.image.now _ _ store sink _ e.machine e.narrows e.tells e.later e.not_counted e.refused)

pub returns-in_err-ones-clause-took : goal.returns-in_err-ones-clause-took
returns-in_err-ones-clause-took g c = λ store sink.
    let p = err_from_is_err_and c.from_residual-in_err-ones.result c.from_residual-in_err-ones.ensures.1 in
    let e = c.in_err-ones.ensures in
    rw (p.1, p.2) (row-stopped c.args.n c.args.image.now _ _ store sink _ _ c.rows.k c.rows.ones (omega (arith, c.rows-test.true)) c.rows.invariant.0 e.machine e.narrows e.tells e.later e.loads e.refused)

pub returns-clause-took : goal.returns-clause-took
returns-clause-took g c = λ store sink. run-done c.args.n c.args.image.now _ _ store sink c.rows.k c.rows.ones (omega (arith, c.rows-test.false, c.rows.auto.k-end)) c.rows.invariant.0
