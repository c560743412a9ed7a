use Rattle.design_flatten.proofs.Vocabulary.{◌∙◌, ap, sym, map, Model}
use Rattle.design_flatten.specs.Vocabulary.{place_of, with_places, through, lines_at, without_ports, model_named, lean_model, lean_in}
use Rattle.design_flatten.proofs.{FrameLemmas.pieces_at, LeanLemmas.lean_named, LeanLemmas.pieces_lean}
use Rattle.design_flatten.proofs.frames.frame_of.Goals as goal

pub returns-clause-names : goal.returns-clause-names
returns-clause-names c =
    let ms = c.args.bodies.now.models.now in
    c.get-body.ensures.names ∙ sym (ap (λ (m : Model). m.names) (lean_named ms ms c.args.model.now))

pub returns-clause-lines : goal.returns-clause-lines
returns-clause-lines c way =
    let ms = c.args.bodies.now.models.now in
    let w = c.args.model.now in
    let is = c.get-body.ensures in
    let at = place_of c.args.given way in
    let m = model_named ms w in
    let lines = ap (map lean_in) c.deref.ensures.value ∙ is.lines ∙ sym (pieces_lean ms m) in
    (λ i. map (through at (is.names i)) (with_places 0 (lines i)))
    ∙ sym (pieces_at (lean_model ms m) at) ∙ sym (ap (λ x. without_ports (lines_at x at)) (lean_named ms ms w))
