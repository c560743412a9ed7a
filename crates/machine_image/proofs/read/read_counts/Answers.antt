use Rattle.machine_image.proofs.Vocabulary.{◌+◌, refl, subst, ap, length, get_or, arith, counts_of, count_fault, IsField, IsRefusedField}
use Rattle.machine_image.proofs.Steps.{count_step, count_refused, counts_done}
use Rattle.machine_image.proofs.read.read_counts.Goals as goal

pub returns-in-Err-clause-refused : goal.returns-in-Err-clause-refused
returns-in-Err-clause-refused c =
    count_refused c.args.shape.now c.args.bytes.now c.args.start (counts_of c.args.shape.now) c.counts.at c.counts.i c.in-Err.fault c.counts.invariant.0
    (omega (arith, c.counts-test.true, ap length c.counts.invariant.1))
    (subst (λ z. IsRefusedField 2 (count_fault (get_or z c.counts.i 0)) c.args.bytes.now c.counts.at c.in-Err.fault) c.counts.invariant.1 c.in-Err.ensures.refused)

pub counts-preserved : goal.counts-preserved
counts-preserved c = (
  count_step c.args.shape.now c.args.bytes.now c.args.start (counts_of c.args.shape.now) c.counts.at (c.counts.at + 2) c.counts.i c.in_default.field-0 c.counts.invariant.0
      (omega (arith, c.counts-test.true, ap length c.counts.invariant.1)) refl
      (subst (λ z. IsField 2 (count_fault (get_or z c.counts.i 0)) c.args.bytes.now c.counts.at c.in_default.field-0) c.counts.invariant.1 c.in_default.ensures.found),
  c.counts.invariant.1,
)

pub returns-clause-found : goal.returns-clause-found
returns-clause-found c = counts_done c.args.shape.now c.args.bytes.now c.args.start (counts_of c.args.shape.now) c.counts.at c.counts.i c.counts.invariant.0 (omega (arith, c.counts-test.false, ap length c.counts.invariant.1))
