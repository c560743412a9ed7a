use Rattle.design_flatten.proofs.Vocabulary.{◌≡◌, ◌∙◌, ap, sym, subst, map, false, None, option_copied, looked_up}
use Rattle.design_flatten.specs.Vocabulary.{pair_of, is_among, formal_fault, names_of, IsKnown}
use Rattle.design_flatten.proofs.UseLemmas.{none_named}
use Rattle.design_flatten.proofs.formals.fault_of.Goals as goal

pub returns-in-None : goal.returns-in-None
returns-in-None c =
    let ms = c.args.catalog.now.models.now in
    let w = c.args.used.now.model.now in
    let none : looked_up c.args.catalog.now w ≡ None = sym c.get.ensures ∙ ap option_copied c.in-None.is in
    let absent : is_among (names_of ms) w ≡ false = subst (IsKnown ms w) none (c.requires w) in
    c.first_formal.ensures ∙ ap (λ m. formal_fault m (map pair_of c.args.used.now.pairs.now)) (sym (none_named ms w absent))
