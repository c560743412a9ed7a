use Rattle.std.proofs.Common.{◌≡◌, ◌+◌, ◌-◌, ◌<◌, suc, Some, refl, subst, sym, ap, ◌∙◌, length, arith}
use Rattle.machine_image.proofs.Vocabulary.{length-set, tables_of, with_setting, InTables, FaultIn, AreTables, IsTable}
use Rattle.machine_image.proofs.Steps.{tables_start, table_refused, table_step, tables_done}
use Rattle.machine_image.proofs.read.read_tables.Goals as goal

pub tables-init : goal.tables-init
tables-init c =
    let g = c.args.config.now.config in
    (tables_start g.shape c.args.bytes.now c.args.at.now c.args.count (c.args.count - 0) g (omega arith) c.requires.within c.requires.off, c.shape-shape.ensures.right.tables, refl, c.shape-shape.ensures.shape)

pub returns-in-Err-clause-refused : goal.returns-in-Err-clause-refused
returns-in-Err-clause-refused c =
    let m = c.args.config.now.config.shape in
    table_refused m c.args.bytes.now c.args.at.now c.args.count c.tables.at (c.args.count - c.tables.counter) (c.args.count - (c.tables.counter + 1)) c.tables.least c.tables.config.config c.tables.invariant.0 (omega (arith, c.tables-test.true))
    c.in-Err.fault (λ left. subst (λ z. FaultIn (λ l k. InTables z c.args.bytes.now l k c.tables.at (suc left) c.tables.least) c.in-Err.fault) c.shape-shape.ensures.shape (c.in-Err.ensures.refused left))

pub tables-preserved : goal.tables-preserved
tables-preserved c =
    let m = c.args.config.now.config.shape in
    let g = c.tables.config.config in
    let t = c.in-Ok.read.0.0 in
    let s = c.in-Ok.read.1 in
    let new : c.switch_on.new.self.config ≡ with_setting g t (Some s) = ap (λ r. r.config) c.switch_on.ensures in
    let shape : g.shape ≡ m = ap (λ r. r.shape) c.tables.invariant.2 in
    let is : IsTable m c.args.bytes.now c.tables.at c.tables.least t s = subst (λ z. IsTable z c.args.bytes.now c.tables.at c.tables.least t s) c.shape-shape.ensures.shape c.in-Ok.ensures.found in
    let below : t < tables_of m = subst (λ z. t < tables_of z) c.shape-shape.ensures.shape c.in-Ok.ensures.within in
    let more = table_step m c.args.bytes.now c.args.at.now c.args.count c.tables.at (c.args.count - c.tables.counter) (c.args.count - (c.tables.counter + 1)) c.tables.least g c.tables.invariant.0 (omega (arith, c.tables-test.true))
    (c.tables.at + 11) (t + 1) t s refl (omega arith) is below shape (c.tables.invariant.1 ∙ ap tables_of (sym shape)) in (
      subst (λ z. AreTables m c.args.bytes.now c.args.at.now (c.tables.at + 11) c.args.count (c.args.count - (c.tables.counter + 1)) (t + 1) z) (sym new) more,
      ap (λ z. length z.tables) new ∙ length-set g.tables t (Some s) ∙ c.tables.invariant.1,
      new ∙ ap (λ z. with_setting z t (Some s)) c.tables.invariant.2 ∙ ap (λ z. record c.args.config.now.config { tables = z.tables }) (sym new),
      c.shape-shape.ensures.shape,
    )

pub returns-clause-found : goal.returns-clause-found
returns-clause-found c =
    tables_done c.args.config.now.config.shape c.args.bytes.now c.args.at.now c.args.count c.tables.at (c.args.count - c.tables.counter) c.tables.least c.tables.config.config c.tables.invariant.0 (omega (arith, c.tables-test.false))
