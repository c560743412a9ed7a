use Rattle.machine_image.proofs.Vocabulary.{◌<◌, subst, sym, ap, ◌∙◌, is_some, Table, tables_of, IsFreeTable, setting_of}
use Rattle.machine_image.proofs.{Keyed.of_set, Keyed.to_set, Touching.on_below}
use Rattle.machine_image.proofs.touch.tables_are_free.Goals as goal

pub free_tables-requires : goal.free_tables-requires
free_tables-requires c =
    let e = c.config-config.ensures.config in
    of_set (λ (x : Table). x.0) c.tables_on.result.now (λ q. is_some (setting_of c.config-config.result.now.config q)) c.tables_on.ensures (λ q. q < tables_of c.args.defects.now.shape)
    (λ q is. subst (λ m. q < tables_of m) (sym c.requires) (on_below c.args.image.now.config c.config-config.ensures.right.config q (ap (λ g. is_some (setting_of g q)) (sym e) ∙ is)))

pub returns : goal.returns
returns c =
    let e = c.config-config.ensures.config in
    let m = c.args.defects.now.shape in
    let d = c.args.defects.now.list in (
      λ t x is. subst (λ z. IsFreeTable z d x) c.requires (to_set (λ (x : Table). x.0) c.tables_on.result.now (λ q. is_some (setting_of c.config-config.result.now.config q)) c.tables_on.ensures (λ q. IsFreeTable m d q) (c.free_tables.ensures.0 t) x (ap (λ g. is_some (setting_of g x)) e ∙ is)),
      λ h. c.free_tables.ensures.1 (of_set (λ (x : Table). x.0) c.tables_on.result.now (λ q. is_some (setting_of c.config-config.result.now.config q)) c.tables_on.ensures (λ q. IsFreeTable m d q) (λ q is. subst (λ z. IsFreeTable z d q) (sym c.requires) (h q (ap (λ g. is_some (setting_of g q)) (sym e) ∙ is)))),
    )
