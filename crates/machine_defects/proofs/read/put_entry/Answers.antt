use Rattle.machine_defects.proofs.Vocabulary.{sym, subst, IsAdded, IsBeyond, IsFreeEntry}
use Rattle.machine_defects.proofs.Entries.{added_wire, added_cross, added_table, free_ends, free_pins}
use Rattle.machine_defects.proofs.read.put_entry.Goals as goal

pub returns-in-Wire : goal.returns-in-Wire
returns-in-Wire c = subst (λ e. IsAdded c.args.list.now e c.list_wire.new.self) (sym c.in-Wire.is) (added_wire c.args.list.now c.list_wire.new.self c.in-Wire.wire.0 c.list_wire.ensures (subst (IsBeyond c.args.list.now) c.in-Wire.is c.requires.beyond))

pub returns-in-Cross : goal.returns-in-Cross
returns-in-Cross c = subst (λ e. IsAdded c.args.list.now e c.list_cross.new.self) (sym c.in-Cross.is) (added_cross c.args.list.now c.list_cross.new.self c.in-Cross.cross.0 c.list_cross.ensures (free_ends c.args.list.now c.in-Cross.cross.0 (subst (IsFreeEntry c.args.list.now) c.in-Cross.is c.requires.free)))

pub returns-in-Table : goal.returns-in-Table
returns-in-Table c = subst (λ e. IsAdded c.args.list.now e c.list_table.new.self) (sym c.in-Table.is) (added_table c.args.list.now c.list_table.new.self c.in-Table.table.0 c.list_table.ensures (free_pins c.args.list.now c.in-Table.table.0 (subst (IsFreeEntry c.args.list.now) c.in-Table.is c.requires.free)))
