use Rattle.machine_defects.proofs.Vocabulary.{None, sym, ap, subst, Shape, DefectList, IsDefectList, IsReadTo}
use Rattle.machine_defects.proofs.Reading.{no_start, no_second, reads_from, none_right}
use Rattle.machine_defects.proofs.read.read_within.Goals as goal

pub returns-in_default-clause-refused : goal.returns-in_default-clause-refused
returns-in_default-clause-refused c = no_start c.args.shape.now c.args.bytes.now c.in_default.ensures

pub returns-in-Err-clause-refused : goal.returns-in-Err-clause-refused
returns-in-Err-clause-refused c = no_second c.args.shape.now c.args.bytes.now c.in-Some.left.now c.in-Err.kind c.in-Some.ensures c.in-Err.ensures

pub read_entries-requires-clause-begun : goal.read_entries-requires-clause-begun
read_entries-requires-clause-begun c =
    let m = c.args.shape.now in
    let is = c.in-Ok-none.ensures in
    subst (λ (n : Shape). IsReadTo n c.args.bytes.now c.in-Ok.below.now c.in-Ok-none.list None) (sym (ap (λ (v : DefectList). v.shape) is))
    (reads_from m c.args.bytes.now c.in-Some.left.now c.in-Ok.below.now c.in-Ok-none.list (subst IsDefectList (sym is) (none_right m)) is c.in-Some.ensures c.in-Ok.ensures)
