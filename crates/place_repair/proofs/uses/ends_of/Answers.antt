use Rattle.std.proofs.Common.{◌≡◌, ℕ, Bool, false, List, length, replicate, sym, ap, ◌∙◌, subst}
use Rattle.place_repair.proofs.Vocabulary.{take_at, length-replicate, wires_of, AreMarks, IsMarked, IsEnd}
use Rattle.place_repair.proofs.Marking.{all_marks}
use Rattle.place_repair.proofs.uses.ends_of.Goals as goal

pub mark_ends-requires : goal.mark_ends-requires
mark_ends-requires c =
    let none : c.deref_mut.result.now ≡ replicate (wires_of c.args.config.now.config.shape) false = c.deref_mut.ensures.value ∙ c.in_ok-marks.ensures ∙ ap (λ k. replicate k false) (c.wires.ensures.wires ∙ ap wires_of c.shape.ensures.shape) in
    ap length none ∙ length-replicate (wires_of c.args.config.now.config.shape) false

pub returns : goal.returns
returns c =
    let g = c.args.config.now.config in
    let n : ℕ = wires_of g.shape in
    let len : length c.mark_ends.new.marks ≡ c.in_ok-marks.marks.len = c.mark_ends.ensures.sized ∙ c.deref_mut.ensures.len in
    let none : c.deref_mut.result.now ≡ replicate n false = c.deref_mut.ensures.value ∙ c.in_ok-marks.ensures ∙ ap (λ k. replicate k false) (c.wires.ensures.wires ∙ ap wires_of c.shape.ensures.shape) in
    subst (AreMarks n (IsEnd g)) (sym (take_at _ _ _ len)) (all_marks n (IsEnd g) c.mark_ends.new.marks (subst (λ (xs : List Bool). IsMarked (IsEnd g) xs c.mark_ends.new.marks) none c.mark_ends.ensures))
