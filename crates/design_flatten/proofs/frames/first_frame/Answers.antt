use Rattle.design_flatten.proofs.Vocabulary.{◌∙◌, ap, sym, map, Model, with_places, through, lines_at, at_first, first_model, lean_in}
use Rattle.design_flatten.proofs.{FrameLemmas.place_is, LeanLemmas.lean_first, LeanLemmas.ordered_lean}
use Rattle.design_flatten.proofs.frames.first_frame.Goals as goal

pub returns-clause-names : goal.returns-clause-names
returns-clause-names c =
    let ms = c.args.bodies.now.models.now in
    c.requires.names ∙ sym (ap (λ (m : Model). m.names) (lean_first ms ms))

pub returns-clause-lines : goal.returns-clause-lines
returns-clause-lines c =
    let ms = c.args.bodies.now.models.now in
    let m = first_model ms in
    let place = place_is c.new.result c.new.ensures.used c.new.ensures.none in
    let lines = ap (map lean_in) c.deref.ensures.value ∙ c.requires.lines ∙ sym (ordered_lean ms m) in
    (λ i. map (through (place i) (c.requires.names i)) (with_places 0 (lines i)))
    ∙ sym (ap (λ x. lines_at x at_first) (lean_first ms ms))
