use Rattle.place_repair.proofs.Vocabulary.{◌≡◌, ℕ, sym, ap, ◌∙◌, subst, Shape, ends_of, IsFreeCross, IsUnfreeCrossOf, HasWire}
use Rattle.place_repair.proofs.{Marking.marked_none, Marking.marked_same, Using.not_true_and}
use Rattle.place_repair.proofs.keeping.mark_cross.Goals as goal

pub returns-then-free_cross : goal.returns-then-free_cross
returns-then-free_cross c =
    let g = c.args.config.now.config in
    marked_none (IsUnfreeCrossOf c.args.defects.now.list g c.args.nets.now.lowest c.args.cross.0) c.args.marks.now
    (λ k r. r.0 (subst (λ (m : Shape). IsFreeCross m c.args.defects.now.list c.args.cross.0) c.requires.shape (c.free_cross.ensures.0 c.if-free_cross.true)))

pub returns : goal.returns
returns c =
    let g = c.args.config.now.config in
    let tap : c.ends.result.0.0 ≡ (ends_of g.shape c.args.cross.0).0 = ap (λ (p : ℕ × ℕ). p.0) c.ends.ensures.ends ∙ ap (λ (m : Shape). (ends_of m c.args.cross.0).0) c.shape.ensures.shape in
    marked_same (λ k. HasWire g c.args.nets.now.lowest k c.ends.result.0.0) (IsUnfreeCrossOf c.args.defects.now.list g c.args.nets.now.lowest c.args.cross.0) c.args.marks.now c.mark_net.new.marks c.mark_net.ensures
    (λ k wire. (λ free. not_true_and c.if-free_cross.false (c.free_cross.ensures.1 (subst (λ (m : Shape). IsFreeCross m c.args.defects.now.list c.args.cross.0) (sym c.requires.shape) free)), subst (HasWire g c.args.nets.now.lowest k) tap wire))
    (λ k r. subst (HasWire g c.args.nets.now.lowest k) (sym tap) r.1)
