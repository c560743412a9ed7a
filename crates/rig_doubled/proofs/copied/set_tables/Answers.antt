use Rattle.std.proofs.Common.{◌≡◌, ◌∙◌, ◌<◌, ◌++◌, List, Option, None, ap, sym, take, drop, set, length, arith}
use Rattle.rig_doubled.proofs.Vocabulary.{tables_of, Configuration, Roomy, with_setting}
use Rattle.machine_config.specs.declared.Setting.{Setting}
use Rattle.rig_doubled.proofs.Copying.{seam}
use Rattle.rig_doubled.proofs.copied.set_tables.Goals as goal

pub tables-preserved : goal.tables-preserved
tables-preserved c =
    let g = c.args.config.now.config in
    let old = c.args.copy.now.config in
    let t = c.tables.t in
    let count : c.tables-t-end.result ≡ length g.tables = c.tables-t-end.ensures.tables ∙ ap tables_of c.shape-shape.ensures.shape ∙ sym c.shape-shape.ensures.right.tables in
    let other : length old.tables ≡ length g.tables = c.shape-same.ensures.right.tables ∙ ap tables_of c.requires ∙ sym c.shape-shape.ensures.right.tables in
    let own : t < length g.tables = omega (arith, c.tables-test.true, count) in
    let same : t < length old.tables = omega (arith, own, other) in
    ap (λ (r : Roomy). r.config) c.set_table.ensures
    ∙ ap (λ (h : Configuration). with_setting h t c.setting.result) c.tables.invariant
    ∙ ap (λ (o : Option Setting). record old { tables = set (take t g.tables ++ drop t old.tables) t o }) c.setting.ensures
    ∙ ap (λ (l : List (Option Setting)). record old { tables = l }) (seam g.tables old.tables t None own same)
