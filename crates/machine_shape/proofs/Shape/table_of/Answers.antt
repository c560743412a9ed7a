use Rattle.machine_shape.proofs.Vocabulary.{◌≡◌, ◌<◌, ◌+◌, ◌∙◌, length, sym, ap, subst, arith, Level}
use Rattle.machine_shape.specs.Vocabulary.{path_of, levels_of, tables_of, start, tables_in, table_name, IsRead, IsReadable}
use Rattle.machine_shape.proofs.{Totals.tables_are, Called.letters}
use Rattle.machine_shape.proofs.CalledTables.{children_at, table_readable, table_read, table_named}
use Rattle.machine_shape.proofs.Shape.table_of.Goals as goal

-- the level that an index past the end would give
abbrev none : Level
none = record { ports = 0; lines = 0; children = 0 }

pub returns-in_default-clause-none : goal.returns-in_default-clause-none
returns-in_default-clause-none c = λ t h n. c.in_default.ensures.none
    (subst (λ ls. IsReadable ls letters c.args.name.now) (sym c.levels_of-levels.ensures.levels) (subst (IsReadable (levels_of c.args.self.now) letters) n (table_readable c.args.self.now t h)))

pub returns-then-way-ne3-clause-none : goal.returns-then-way-ne3-clause-none
returns-then-way-ne3-clause-none c = λ t h n.
    let read = subst (λ ls. IsRead ls letters c.args.name.now (path_of c.in-Some.read.way) c.in-Some.read.last) c.levels_of-levels.ensures.levels c.in-Some.ensures.some in
    c.if-way-ne3.true (ap length c.steps_of-way.ensures ∙ (table_read c.args.self.now c.args.name.now (path_of c.in-Some.read.way) c.in-Some.read.last t read h n).0)

pub returns-in-None-clause-none : goal.returns-in-None-clause-none
returns-in-None-clause-none c = λ t h n.
    let read = subst (λ ls. IsRead ls letters c.args.name.now (path_of c.in-Some.read.way) c.in-Some.read.last) c.levels_of-levels.ensures.levels c.in-Some.ensures.some in
    let r = table_read c.args.self.now c.args.name.now (path_of c.in-Some.read.way) c.in-Some.read.last t read h n in
    let k = children_at c.args.self.now (path_of c.in-Some.read.way) none c.levels_of-levels.result c.levels_of-levels.ensures.levels read.spot r.0 in
    c.in-None.ensures.none r.1.0 (subst (λ e. r.1.0 < e) (sym k) r.1.1) (c.after-word.ensures ∙ r.1.2)

found : (c : goal.After-first_table) → (c.first_table.result + c.in-Some-read_numbered.k < tables_of c.args.self.now) × (table_name c.args.self.now (c.first_table.result + c.in-Some-read_numbered.k) ≡ c.args.name.now)
found c =
    let read = subst (λ ls. IsRead ls letters c.args.name.now (path_of c.in-Some.read.way) c.in-Some.read.last) c.levels_of-levels.ensures.levels c.in-Some.ensures.some in
    let three : length (path_of c.in-Some.read.way) ≡ 3 = sym (ap length c.steps_of-way.ensures) ∙ c.if-way-ne3.false in
    let k = children_at c.args.self.now (path_of c.in-Some.read.way) none c.levels_of-levels.result c.levels_of-levels.ensures.levels read.spot three in
    let n = table_named c.args.self.now c.args.name.now (path_of c.in-Some.read.way) c.in-Some.read.last c.in-Some-read_numbered.k read three
    (subst (λ e. c.in-Some-read_numbered.k < e) k c.in-Some-read_numbered.ensures.some.1) (sym c.after-word.ensures ∙ c.in-Some-read_numbered.ensures.some.0) in
    let first = c.first_table.ensures ∙ ap (start tables_in (levels_of c.args.self.now)) c.steps_of-way.ensures in
    subst (λ j. (j + c.in-Some-read_numbered.k < tables_of c.args.self.now) × (table_name c.args.self.now (j + c.in-Some-read_numbered.k) ≡ c.args.name.now)) (sym first) n

pub overflow_add-result : goal.overflow_add-result
overflow_add-result c = let f = found c in let w = tables_are c.args.self.now in omega (arith, f.0, w.1)

pub returns-in-Some-read_numbered-clause-some : goal.returns-in-Some-read_numbered-clause-some
returns-in-Some-read_numbered-clause-some c = found c
