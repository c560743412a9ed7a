use Rattle.std.proofs.Common.{◌≡◌, ℕ, sym, ap, ◌∙◌, subst}
use Rattle.place_repair.proofs.Vocabulary.{false≢true, Shape, table_wire, IsFreeTable, Configuration, setting_of, IsUnusedTo}
use Rattle.place_repair.proofs.{Sparing.off_is, Sparing.is_off, Sparing.unused_of, Sparing.of_unused, Using.not_true_and}
use Rattle.place_repair.proofs.seats.is_spare.Goals as goal

pub returns-then-not-free_table : goal.returns-then-not-free_table
returns-then-not-free_table c = (
  λ t. absurd (false≢true t),
  λ spare. absurd (not_true_and c.if-not-free_table.true (c.free_table.ensures.1 (subst (λ (m : Shape). IsFreeTable m c.args.defects.now.list c.args.table.0) (sym c.requires.shape) spare.free))),
)

pub returns-then-is_some : goal.returns-then-is_some
returns-then-is_some c =
    let set : c.setting.result ≡ setting_of c.args.image.now.config c.args.table.0 = c.setting.ensures ∙ ap (λ (g : Configuration). setting_of g c.args.table.0) c.config.ensures.config in
    (λ t. absurd (false≢true t), λ spare. absurd (is_off c.setting.result (sym c.is_some.ensures ∙ c.if-is_some.true) (set ∙ spare.off)))

pub returns : goal.returns
returns c =
    let i = c.args.image.now in
    let t : ℕ = c.args.table.0 in
    let set : c.setting.result ≡ setting_of i.config t = c.setting.ensures ∙ ap (λ (g : Configuration). setting_of g t) c.config.ensures.config in
    let shape : c.shape.result ≡ i.config.shape = c.shape.ensures.shape ∙ c.requires.shape in (
      λ yes.
          let unused : IsUnusedTo c.args.used.now i.config.shape t 7 = subst (λ (m : Shape). IsUnusedTo c.args.used.now m t 7) shape (c.is_unused.ensures.0 yes) in
          record {
            within = c.requires.within;
            free = subst (λ (m : Shape). IsFreeTable m c.args.defects.now.list t) c.requires.shape (c.free_table.ensures.0 c.if-not-free_table.false);
            off = sym set ∙ off_is c.setting.result (sym c.is_some.ensures ∙ c.if-is_some.false);
            unused = λ k l. unused_of i c.args.used.now c.requires.used (table_wire i.config.shape t k) (unused k l);
          },
      λ spare. c.is_unused.ensures.1 (subst (λ (m : Shape). IsUnusedTo c.args.used.now m t 7) (sym shape) (λ k l. of_unused i c.args.used.now c.requires.used (table_wire i.config.shape t k) (spare.unused k l))),
    )
