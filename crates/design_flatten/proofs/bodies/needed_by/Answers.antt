use Rattle.design_flatten.proofs.Vocabulary.{◌≡◌, ◌∙◌, ap, sym, subst, map, false, Some, None, List, ℕ, IfOk, filter, option_copied}
use Rattle.design_flatten.proofs.Vocabulary.{PairDef, is_among, names_of, IsKnown, names_within, is_needed, looked_up}
use Rattle.design_flatten.proofs.{NameLemmas.among_set, UseLemmas.none_named, BodyLemmas.none_needed}
use Rattle.design_flatten.proofs.bodies.needed_by.Goals as goal

pub returns-in-Some : goal.returns-in-Some
returns-in-Some c =
    let ms = c.args.catalog.now.models.now in
    let m = c.args.model.now in
    let found : looked_up c.args.catalog.now m ≡ Some c.in-Some.known.now = sym c.get.ensures ∙ ap option_copied c.in-Some.is in
    let known = subst (IsKnown ms m) found (c.requires m) in
    let same : (w : List ℕ) → is_among c.in-Some.known.now.needs w ≡ is_needed ms m w = λ w.
    ap (λ ns. is_among ns w) known.3 ∙ among_set (names_within c.in-Some.known.now.model.now) w ∙ ap (λ x. is_among (names_within x) w) known.1 in
    let tests : (λ (p : PairDef). is_among c.in-Some.known.now.needs p.formal) ≡ (λ (p : PairDef). is_needed ms m p.formal) = λ i p. same p.formal i in
    subst (λ f. IfOk c.pairs_among.result (λ v. map (λ p. p.now) v.items ≡ filter f c.args.pairs.now)) tests c.pairs_among.ensures

pub returns-in-None : goal.returns-in-None
returns-in-None c =
    let ms = c.args.catalog.now.models.now in
    let m = c.args.model.now in
    let none : looked_up c.args.catalog.now m ≡ None = sym c.get.ensures ∙ ap option_copied c.in-None.is in
    let absent : is_among (names_of ms) m ≡ false = subst (IsKnown ms m) none (c.requires m) in
    ap (map (λ p. p.now)) c.new.ensures.items ∙ sym (none_needed ms m c.args.pairs.now (none_named ms m absent))
