use Rattle.place_repair.proofs.Vocabulary.{◌≡◌, ◌⊎◌, ◌<◌, ℕ, sym, ◌∙◌, subst, IsMarked, IsThis}
use Rattle.place_repair.proofs.Marking.{marked_both}
use Rattle.place_repair.proofs.uses.mark_cross.Goals as goal

pub mark-requires : goal.mark-requires
mark-requires c = subst (λ n. c.ends.result.0.0 < n) (sym c.requires.sized) c.ends.ensures.tap

pub mark-requires-2 : goal.mark-requires-2
mark-requires-2 c = subst (λ n. c.ends.result.1.0 < n) (sym (c.mark.ensures.sized ∙ c.requires.sized)) c.ends.ensures.line

pub returns : goal.returns
returns c =
    subst (λ (p : ℕ × ℕ). IsMarked (λ w. (p.0 ≡ w) ⊎ (p.1 ≡ w)) c.args.marks.now c.mark-2.new.marks) c.ends.ensures.ends
    (marked_both (IsThis c.ends.result.0.0) (IsThis c.ends.result.1.0) c.args.marks.now c.mark.new.marks c.mark-2.new.marks c.mark.ensures c.mark-2.ensures)
