use Rattle.std.proofs.Common.{arith}
use Rattle.map_eval.proofs.TurnLemmas.{turn_none, table_low, low_next, turn_next, mark_more}
use Rattle.map_eval.proofs.state.turn_pins.Goals as goal

pub bounds-addresses-table : goal.bounds-addresses-table
bounds-addresses-table c = let l = table_low c.args.pins.now c.pins.k _ c.requires.pins c.pins-test.true in let e = c.pins.invariant.turned.len in omega arith

pub bounds-addresses-table-in-pins : goal.bounds-addresses-table-in-pins
bounds-addresses-table-in-pins c = let l = table_low c.args.pins.now c.pins.k _ c.requires.pins c.pins-test.true in let e = c.pins.invariant.turned.len in omega arith

pub bounds-masks-table : goal.bounds-masks-table
bounds-masks-table c = let l = table_low c.args.pins.now c.pins.k _ c.requires.pins c.pins-test.true in let e = c.requires.masks in omega arith

pub change-requires-clause-before : goal.change-requires-clause-before
change-requires-clause-before c = let l = table_low c.args.pins.now c.pins.k _ c.requires.pins c.pins-test.true in let e = c.pins.invariant.turned.len in c.pins.invariant.turned.low _ (omega arith)

pub change-requires-clause-after : goal.change-requires-clause-after
change-requires-clause-after c = low_next c.args.pins.now c.pins.k c.args.addresses.now c.pins.addresses c.turned-after.result c.requires.pins c.requires.apart c.pins-test.true c.pins.invariant.turned c.turned-after.ensures.low c.turned-after.ensures.this c.turned-after.ensures.others

pub turn_mark-requires-clause-within : goal.turn_mark-requires-clause-within
turn_mark-requires-clause-within c = let l = table_low c.args.pins.now c.pins.k _ c.requires.pins c.pins-test.true in let e = c.requires.marks in let f = c.pins.invariant.len in omega arith

pub pins-preserved : goal.pins-preserved
pins-preserved c = record {
  turned = turn_next c.args.pins.now c.pins.k c.args.addresses.now c.pins.addresses c.turned-after.result c.requires.pins c.requires.apart c.pins-test.true c.pins.invariant.turned c.turned-after.ensures.low c.turned-after.ensures.this c.turned-after.ensures.others;
  len = (let e = c.turn_mark.ensures.len in let f = c.pins.invariant.len in omega arith);
  marked = λ m. mark_more _ _ _ _ _ _ _ (let l = table_low c.args.pins.now c.pins.k _ c.requires.pins c.pins-test.true in let e = c.pins.invariant.turned.len in omega arith) (c.pins.invariant.marked m) c.change.ensures.turned c.turn_mark.ensures.this c.turn_mark.ensures.others;
}
