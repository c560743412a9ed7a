use Rattle.place_repair.proofs.Vocabulary.{◌≡◌, sym, ap, ◌∙◌, subst, IsSome, false≢true, Shape, IsFreeTable, Configuration, setting_of}
use Rattle.place_repair.proofs.Using.{not_true_and, on_is, is_on}
use Rattle.place_repair.proofs.seats.is_gone.Goals as goal

pub returns-then-free_table : goal.returns-then-free_table
returns-then-free_table c = (
  λ t. absurd (false≢true t),
  λ gone. absurd (gone.1 (subst (λ (m : Shape). IsFreeTable m c.args.defects.now.list c.args.table.0) c.requires.shape (c.free_table.ensures.0 c.if-free_table.true))),
)

pub returns : goal.returns
returns c =
    let set : c.setting.result ≡ setting_of c.args.image.now.config c.args.table.0 = c.setting.ensures ∙ ap (λ (g : Configuration). setting_of g c.args.table.0) c.config.ensures.config in (
      λ t. (
        subst IsSome set (on_is c.setting.result (sym c.is_some.ensures ∙ t)),
        λ free. not_true_and c.if-free_table.false (c.free_table.ensures.1 (subst (λ (m : Shape). IsFreeTable m c.args.defects.now.list c.args.table.0) (sym c.requires.shape) free)),
      ),
      λ gone. c.is_some.ensures ∙ is_on c.setting.result (subst IsSome (sym set) gone.0),
    )
