use Rattle.machine_defects.proofs.Vocabulary.{◌∙◌, sym, ap, DefectList}
use Rattle.std.specs.FinSet as set
use Rattle.machine_defects.proofs.Marks.{in_marked}
use Rattle.machine_defects.proofs.list.Defects.lists_wire.Goals as goal

pub returns : goal.returns
returns c = c.has.ensures ∙ sym (in_marked c.self.inside.kept.wires c.args.w.0) ∙ ap (λ (d : DefectList). set.contains d.list.wires c.args.w.0) c.self.view_is
