use Rattle.std.proofs.Common.{◌≡◌, ◌∙◌, ◌+◌, ◌++◌, ◌∷◌, ap, sym, [], take, drop, true, false}
use Rattle.design_flatten.specs.Vocabulary.{is_among, first_wrong, with_name, with_names, formals_in}
use Rattle.design_flatten.proofs.FormalLemmas.{right_one, formals_left, formals_taken, set_more}
use Rattle.design_flatten.proofs.formals.first_wrong.Goals as goal

pub pairs-preserved : goal.pairs-preserved
pairs-preserved c =
    let ps = c.args.pairs.now in
    let ports = c.args.ports.now in
    let i = c.pairs.pair-index in
    let set = c.pairs.given in
    let f = c.pair-item.result.formal in
    let name = c.as_slice-formal.ensures in
    let port : is_among ports f ≡ true = ap (is_among ports) (sym name) ∙ sym c.contains.ensures ∙ c.if-not-contains.false in
    let new : is_among set f ≡ false = ap (is_among set) (sym name) ∙ sym c.contains-else-not-contains.ensures ∙ c.if-contains.false in
    let added : c.add.new.self ≡ with_name set f = c.in_ok-add.ensures ∙ ap (with_name set) name in
    let rest = formals_in (drop (i + 1) ps) in
    let cut : formals_in (drop i ps) ≡ f ∷ rest = formals_left ps i c.pair-item.result c.pairs-test.true ∙ ap (λ p. p.formal ∷ rest) (sym c.pair-item.is) in
    let taken : formals_in (take (i + 1) ps) ≡ formals_in (take i ps) ++ f ∷ [] = formals_taken ps i c.pair-item.result c.pairs-test.true ∙ ap (λ p. formals_in (take i ps) ++ p.formal ∷ []) (sym c.pair-item.is) in
    record {
      left = ap (λ s. first_wrong ports s rest) added ∙ right_one ports set f rest port new ∙ ap (first_wrong ports set) (sym cut) ∙ c.pairs.invariant.left;
      given = added ∙ ap (λ s. with_name s f) c.pairs.invariant.given ∙ sym (ap (with_names []) taken ∙ set_more (formals_in (take i ps)) f);
    }
