use Rattle.std.proofs.Common.{◌∙◌, ap, length, arith}
use Rattle.map_eval.proofs.busy.settle_bits.Goals as goal

pub tables-preserved : goal.tables-preserved
tables-preserved c = record {
  len = c.settle_bit.ensures.len ∙ c.tables.invariant.len;
  inputs = λ i h. c.settle_bit.ensures.inputs i (c.tables.invariant.inputs i h);
  latched = λ t l. c.settle_bit.ensures.latched t l ∙ c.tables.invariant.latched t l;
  settled = λ i h. c.settle_bit.ensures.settled i (c.tables.invariant.inputs i h) (c.tables.invariant.settled i h);
}

pub returns-clause-settled : goal.returns-clause-settled
returns-clause-settled c = λ inputs have t lt one. (
    let e = ap length c.as_slice-table-end.ensures in
    let f = c.tables-test.false in
    c.tables.invariant.settled inputs have t (omega (arith, lt)) one)
