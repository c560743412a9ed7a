use Rattle.std.proofs.Common.{◌≡◌, ℕ, Bool, List, length, sym, ap, ◌∙◌, subst}
use Rattle.place_repair.proofs.Vocabulary.{take_at, wires_of, Configuration, Uses, AreMarks, IsMarked, IsSeatPin, IsEnd}
use Rattle.place_repair.proofs.Using.{uses_marked}
use Rattle.place_repair.proofs.uses.used_by.Goals as goal

pub mark_seats-requires : goal.mark_seats-requires
mark_seats-requires c = ap length c.deref_mut.ensures.value ∙ c.in_ok-marks.ensures.sized ∙ ap (λ (g : Configuration). wires_of g.shape) c.config.ensures.config

pub returns : goal.returns
returns c =
    let i = c.args.image.now in
    let n : ℕ = wires_of i.config.shape in
    let len : length c.mark_seats.new.marks ≡ c.in_ok-marks.marks.len = c.mark_seats.ensures.sized ∙ c.deref_mut.ensures.len in
    let ends : AreMarks n (IsEnd i.config) c.in_ok-marks.marks.items = subst (λ (g : Configuration). AreMarks (wires_of g.shape) (IsEnd g) c.in_ok-marks.marks.items) c.config.ensures.config c.in_ok-marks.ensures in
    subst (AreMarks n (Uses i)) (sym (take_at _ _ _ len)) (uses_marked i c.in_ok-marks.marks.items c.mark_seats.new.marks ends (subst (λ (xs : List Bool). IsMarked (IsSeatPin i) xs c.mark_seats.new.marks) c.deref_mut.ensures.value c.mark_seats.ensures))
