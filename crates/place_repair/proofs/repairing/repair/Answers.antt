use Rattle.place_repair.proofs.Vocabulary.{subst, IsMet}
use Rattle.place_repair.proofs.Repaired.{short_tables, short_pins}
use Rattle.place_repair.proofs.repairing.repair.Goals as goal

pub returns-then-tables-clause-fail : goal.returns-then-tables-clause-fail
returns-then-tables-clause-fail c = short_tables c.args.defects.now.list c.args.image.now c.in_ok-seats.seats c.need_of-tables.result c.short_of.result c.in_ok-seats.ensures c.need_of-tables.ensures c.if-tables.true c.short_of.ensures

pub returns-then-pins-clause-fail : goal.returns-then-pins-clause-fail
returns-then-pins-clause-fail c =
    short_pins c.args.defects.now.list c.args.image.now c.in_ok-seats.seats c.need_of-pins.result c.short_of-then-pins.result c.in_ok-seats.ensures (subst IsMet c.need_of-tables.ensures c.if-tables.false) c.need_of-pins.ensures c.if-pins.true c.short_of-then-pins.ensures

pub laid-requires-clause-tables : goal.laid-requires-clause-tables
laid-requires-clause-tables c = subst IsMet c.need_of-tables.ensures c.if-tables.false

pub laid-requires-clause-pins : goal.laid-requires-clause-pins
laid-requires-clause-pins c = subst IsMet c.need_of-pins.ensures c.if-pins.false
