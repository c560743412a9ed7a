use Rattle.place_repair.proofs.Vocabulary.{sym, subst, Shape, IsFreeTable, IsBrokenBy, IsBrokenHere}
use Rattle.place_repair.proofs.{Marking.marked_none, Marking.marked_same, Using.not_true_and}
use Rattle.place_repair.proofs.keeping.mark_table.Goals as goal

pub returns-then-free_table : goal.returns-then-free_table
returns-then-free_table c =
    marked_none (IsBrokenHere c.args.defects.now.list c.args.config.now.config c.args.nets.now.lowest c.args.table.0) c.args.marks.now
    (λ k r. r.0 (subst (λ (m : Shape). IsFreeTable m c.args.defects.now.list c.args.table.0) c.requires.shape (c.free_table.ensures.0 c.if-free_table.true)))

pub returns : goal.returns
returns c =
    let g = c.args.config.now.config in
    marked_same (IsBrokenBy g c.args.nets.now.lowest c.args.table.0 7) (IsBrokenHere c.args.defects.now.list g c.args.nets.now.lowest c.args.table.0) c.args.marks.now c.mark_pins.new.marks c.mark_pins.ensures
    (λ k r. (λ free. not_true_and c.if-free_table.false (c.free_table.ensures.1 (subst (λ (m : Shape). IsFreeTable m c.args.defects.now.list c.args.table.0) (sym c.requires.shape) free)), r))
    (λ k r. r.1)
