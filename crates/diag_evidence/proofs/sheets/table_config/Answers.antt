use Rattle.std.proofs.Common.{◌<◌, List, All, sym, subst, ◌∙◌, ap}
use Rattle.diag_evidence.proofs.Vocabulary.{Cross, crosses_of, Configuration, cleared, Closes, cross_numbers}
use Rattle.diag_evidence.proofs.{Addresses.laid_below, Settings.laid_tables}
use Rattle.diag_evidence.proofs.sheets.table_config.Goals as goal

pub close_all-requires : goal.close_all-requires
close_all-requires c =
    let shape = ap (λ (g : Configuration). g.shape) c.in_ok-config.ensures.cleared ∙ c.shape.ensures.shape in
    subst (λ (xs : List Cross). All (λ (x : Cross). x.0 < crosses_of c.in_ok-config.config.config.shape) xs) (sym c.crosses.ensures.crosses)
    (subst (λ m. All (λ (x : Cross). x.0 < crosses_of m) c.args.forest.now.crosses) (sym shape) (laid_below c.args.forest.now c.crosses.ensures.forest))

pub returns : goal.returns
returns c =
    laid_tables c.args.forest.now c.args.tables.now c.args.setting _ _ _ (c.in_ok-config.ensures.cleared ∙ ap cleared c.shape.ensures.shape)
    (subst (λ (xs : List Cross). Closes (cross_numbers xs) c.in_ok-config.config.config c.close_all.new.config.config) c.crosses.ensures.crosses c.in_ok-close_all.ensures) c.switch_all.ensures
