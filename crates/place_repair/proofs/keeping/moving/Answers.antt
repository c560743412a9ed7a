use Rattle.std.proofs.Common.{◌≡◌, ℕ, Bool, false, List, length, replicate, sym, ap, ◌∙◌, subst}
use Rattle.place_repair.proofs.Vocabulary.{take_at, length-replicate, Configuration, AreNetsOf, IsBroken, AreMarks, IsMarked, AreMoves}
use Rattle.place_repair.proofs.{Unbroken.broken_moves, Marking.all_marks}
use Rattle.place_repair.proofs.keeping.moving.Goals as goal

pub mark_broken-requires-clause-nets : goal.mark_broken-requires-clause-nets
mark_broken-requires-clause-nets c = subst (λ (g : Configuration). AreNetsOf g c.args.nets.now) (sym c.config.ensures.config) c.requires.nets

pub mark_broken-requires-clause-sized : goal.mark_broken-requires-clause-sized
mark_broken-requires-clause-sized c = ap length (c.deref_mut.ensures.value ∙ c.in_ok-marks.ensures) ∙ length-replicate (length c.as_slice.result.now) false ∙ ap length c.as_slice.ensures

pub mark_broken-requires-clause-shape : goal.mark_broken-requires-clause-shape
mark_broken-requires-clause-shape c = c.requires.shape ∙ ap (λ (g : Configuration). g.shape) (sym c.config.ensures.config)

pub returns : goal.returns
returns c =
    let i = c.args.image.now in
    let d = c.args.defects.now.list in
    let lowest : List ℕ = c.args.nets.now.lowest in
    let len : length c.mark_broken.new.marks ≡ c.in_ok-marks.marks.len = c.mark_broken.ensures.sized ∙ c.deref_mut.ensures.len in
    let none : c.deref_mut.result.now ≡ replicate (length lowest) false = c.deref_mut.ensures.value ∙ c.in_ok-marks.ensures ∙ ap (λ (xs : List ℕ). replicate (length xs) false) c.as_slice.ensures in
    let marked : AreMarks (length lowest) (IsBroken d i.config lowest) c.mark_broken.new.marks = all_marks (length lowest) (IsBroken d i.config lowest) c.mark_broken.new.marks
    (subst (λ (xs : List Bool). IsMarked (IsBroken d i.config lowest) xs c.mark_broken.new.marks) none (subst (λ (g : Configuration). IsMarked (IsBroken d g lowest) c.deref_mut.result.now c.mark_broken.new.marks) c.config.ensures.config c.mark_broken.ensures)) in
    subst (AreMoves d i lowest) (sym (take_at _ _ _ len)) (broken_moves d i c.config.ensures.right (c.the_numbering_is_sound.ensures.numbered i.config.shape) lowest c.requires.nets.lowest_are (c.the_tests_are_right.ensures.crosses i.config.shape d) (c.the_tests_are_right.ensures.tables i.config.shape d) c.mark_broken.new.marks marked)
