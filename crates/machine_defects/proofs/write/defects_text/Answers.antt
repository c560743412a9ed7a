use Rattle.std.proofs.Common.{◌≡◌, refl}
use Rattle.machine_defects.specs.Text.{text_of}
use Rattle.machine_defects.proofs.{Writing.text_is, write.defects_text.Goals.In_ok-extend_from_slice}
use Rattle.machine_defects.proofs.write.defects_text.Goals as goal

spelled : (c : In_ok-extend_from_slice) → c.extend_from_slice.new.self.items ≡ text_of c.args.list.now
spelled c = text_is c.args.list.now c.shape-shape.result c.new-text.result.items c.put_heads.new.text.items c.put_wires.new.text.items c.put_crosses.new.text.items c.put_tables.new.text.items c.extend_from_slice.new.self.items
    c.shape-shape.ensures.shape c.new-text.ensures.items c.in_ok-put_heads.ensures c.in_ok-put_wires.ensures c.in_ok-put_crosses.ensures c.in_ok-put_tables.ensures c.in_ok-extend_from_slice.ensures.items

pub returns-clause-text : goal.returns-clause-text
returns-clause-text c = spelled c

pub returns-clause-right : goal.returns-clause-right
returns-clause-right c = record { shape = refl; right = c.shape-shape.ensures.kept; spelled = spelled c }
