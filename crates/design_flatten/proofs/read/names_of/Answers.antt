use Rattle.design_flatten.proofs.Vocabulary.{◌∙◌, ap, sym, subst, map, printed, AreAllOrigins, replaced_in, lines_of}
use Rattle.design_flatten.proofs.PrintLemmas.{all_origins}
use Rattle.design_flatten.proofs.read.names_of.Goals as goal

pub returns : goal.returns
returns c =
    let ms = c.args.models.now in
    let s = c.args.found.now in
    let h = c.requires.kept in
    let all = all_origins ms s.origins.items (replaced_in s) (lines_of ms s) h.count h.origins h.substituted in
    c.in_ok-names.ensures ms (subst (AreAllOrigins ms) (sym c.deref.ensures.value) all) c.first_names.ensures ∙ ap (map (printed ms)) (c.requires.signals ∙ h.sink.signals)
