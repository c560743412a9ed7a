use Rattle.base_text.proofs.Vocabulary.{◌≡◌, ◌∙◌, [], sym, eqb-true, nil_from_length}
use Rattle.base_text.proofs.LinesLemmas.{no_lines}
use Rattle.base_text.proofs.lines.next_of.Goals as goal

pub returns-clause-found : goal.returns-clause-found
returns-clause-found c =
    let empty : c.lines.rest.now ≡ [] = nil_from_length c.lines.rest.now (eqb-true _ _ (sym c.lines-test.ensures)) in
    let none = no_lines c.args.joined c.lines.next c.lines.rest.now empty in
    (c.lines.invariant.left ∙ none, none)
