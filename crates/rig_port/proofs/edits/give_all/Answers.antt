use Rattle.rig_port.proofs.Vocabulary.{◌≡◌, ◌∙◌, length, ap, arith, tables_of, setting_of}
use Rattle.rig_port.proofs.{Edited.more_edits, Settings.given_next, Settings.given_length, Settings.all_given}
use Rattle.rig_port.proofs.edits.give_all.Goals as goal

pub tables-preserved : goal.tables-preserved
tables-preserved c =
    let many : length c.tables.set.config.tables ≡ tables_of c.args.config.now.config.shape
    = c.tables.invariant.3 ∙ c.shape-shape.ensures.right.tables ∙ ap tables_of c.requires in
    let end : c.tables-t-end.result ≡ tables_of c.args.config.now.config.shape = c.tables-t-end.ensures.tables ∙ ap tables_of c.shape-shape-2.ensures.shape in (
      c.in_ok-give.ensures.shape ∙ c.tables.invariant.0,
      more_edits c.args.set.now.config c.tables.set.config c.give.new.set.config c.args.line.now.items c.tables.line.items c.give.new.line.items
          c.tables.invariant.0 c.tables.invariant.1 c.in_ok-give.ensures.made,
      ap (λ g. g.closed) c.in_ok-give.ensures.given ∙ c.tables.invariant.2,
      ap (λ g. length g.tables) c.in_ok-give.ensures.given ∙ given_length c.tables.set.config c.tables.t c.setting.result ∙ c.tables.invariant.3,
      (λ j lt. ap (λ g. setting_of g j) c.in_ok-give.ensures.given
          ∙ given_next c.tables.set.config c.args.config.now.config c.tables.t c.setting.result (omega (arith, many, end, c.tables-test.true)) c.setting.ensures
          c.tables.invariant.4 j lt),
    )

pub returns-clause-given : goal.returns-clause-given
returns-clause-given c =
    let end : c.tables-t-end.result ≡ tables_of c.args.config.now.config.shape = c.tables-t-end.ensures.tables ∙ ap tables_of c.shape-shape-2.ensures.shape in
    all_given c.tables.set.config c.args.config.now.config (tables_of c.args.config.now.config.shape)
    (c.tables.invariant.3 ∙ c.shape-shape.ensures.right.tables ∙ ap tables_of c.requires) c.shape-shape-2.ensures.right.tables
    (λ j lt. c.tables.invariant.4 j (omega (arith, end, c.tables-test.false, lt)))
