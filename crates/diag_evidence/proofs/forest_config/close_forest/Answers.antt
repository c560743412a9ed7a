use Rattle.diag_evidence.proofs.Vocabulary.{◌<◌, ◌∙◌, List, All, ap, subst, sym, Cross, Configuration, crosses_of, cross_numbers, Closes}
use Rattle.diag_evidence.proofs.{Footing.laid_below, Footing.closed_forest, Sessions.on_ok}
use Rattle.diag_evidence.proofs.forest_config.close_forest.Goals as goal

pub turn_to-requires : goal.turn_to-requires
turn_to-requires c =
    subst (λ (xs : List Cross). All (λ c'. c'.0 < crosses_of c.args.config.now.config.shape) xs) (sym c.crosses-crosses.ensures.crosses)
    (subst (λ m. All (λ c'. c'.0 < crosses_of m) c.args.forest.now.crosses) (sym c.requires) (laid_below c.args.forest.now c.crosses-crosses.ensures.forest))

pub close_all-requires : goal.close_all-requires
close_all-requires c =
    subst (λ (xs : List Cross). All (λ c'. c'.0 < crosses_of c.clear.new.self.config.shape) xs) (sym c.crosses-crosses.ensures.crosses)
    (subst (λ m. All (λ c'. c'.0 < crosses_of m) c.args.forest.now.crosses) (sym c.requires ∙ sym c.turn_to.ensures ∙ ap (λ (g : Configuration). g.shape) (sym c.clear.ensures.cleared)) (laid_below c.args.forest.now c.crosses-crosses.ensures.forest))

pub returns : goal.returns
returns c = on_ok c.close_all.result c.close_all.ensures (λ more. closed_forest c.turn_to.new.config.config.shape c.args.forest.now c.clear.new.self.config _ c.clear.ensures.cleared (c.turn_to.ensures ∙ c.requires)
    (subst (λ (xs : List Cross). Closes (cross_numbers xs) c.clear.new.self.config c.close_all.new.config.config) c.crosses-crosses.ensures.crosses more))
