use Rattle.std.proofs.Common.{◌∙◌, ap, length, arith}
use Rattle.map_eval.proofs.busy.take_bits.Goals as goal

pub tables-preserved : goal.tables-preserved
tables-preserved c = (
  c.take_bit.ensures.len ∙ c.tables.invariant.0,
  λ i h. c.take_bit.ensures.taken i h (c.tables.invariant.1 i h),
)

pub returns-clause-taken : goal.returns-clause-taken
returns-clause-taken c = λ inputs have. (
    let e = ap length c.as_slice-table-end.ensures in
    let f = c.tables-test.false in
    record { taken = λ t lt l. (c.tables.invariant.1 inputs have).taken t (omega (arith, lt)) l })
