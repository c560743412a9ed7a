use Rattle.machine_shape.proofs.Vocabulary.{◌≡◌, ◌≢◌, ◌+◌, ◌<◌, ◌^◌, ◌∙◌, length, sym, ap, subst, arith, ⊎_elim}
use Rattle.machine_shape.specs.Vocabulary.{path_of, levels_of, wires_of, place_of, start, wires_in, part_name, wire_name, IsRead, IsReadable}
use Rattle.machine_shape.proofs.Totals.{wires_are}
use Rattle.machine_shape.proofs.Called.{letters, readable, read_one, named_below, empty_of, below_is, small_own}
use Rattle.machine_shape.proofs.reads.inner_wire.Goals as goal

pub returns-in_default-clause-none : goal.returns-in_default-clause-none
returns-in_default-clause-none c = λ w h n.
    ⊎_elim (λ e. e) (λ r. absurd (c.in_default.ensures.none (subst (λ ls. IsReadable ls letters c.args.name.now) (sym c.levels_of-levels.ensures.levels) (subst (IsReadable (levels_of c.args.shape) letters) n r)))) (readable c.args.shape w h)

pub returns-then-way-eq0-clause-none : goal.returns-then-way-eq0-clause-none
returns-then-way-eq0-clause-none c = λ w h n.
    let read = subst (λ ls. IsRead ls letters c.args.name.now (path_of c.in-Some.read.way) c.in-Some.read.last) c.levels_of-levels.ensures.levels c.in-Some.ensures.some in
    ⊎_elim (λ e. e) (λ x. x.0 ∙ sym c.steps_of-way.ensures ∙ empty_of c.steps_of-way.result.now c.if-way-eq0.true) (read_one c.args.shape c.args.name.now (path_of c.in-Some.read.way) c.in-Some.read.last read w h n)

pub read_part-requires-clause-small : goal.read_part-requires-clause-small
read_part-requires-clause-small c =
    let read = subst (λ ls. IsRead ls letters c.args.name.now (path_of c.in-Some.read.way) c.in-Some.read.last) c.levels_of-levels.ensures.levels c.in-Some.ensures.some in
    let e = below_is c.args.shape (path_of c.in-Some.read.way) c.steps_of-way.result.now c.levels_of-levels.result c.below.result.now c.levels_of-levels.ensures.levels c.steps_of-way.ensures read.spot c.below.ensures in
    subst (λ ls. wires_in ls < 2 ^ 32) (sym e) (small_own c.args.shape (path_of c.in-Some.read.way) read.spot)

found : (c : goal.After-first_wire) → (c.first_wire.result + c.in-Some-read_part.k < wires_of c.args.shape) × (wire_name c.args.shape (c.first_wire.result + c.in-Some-read_part.k) ≡ c.args.name.now)
found c =
    let read = subst (λ ls. IsRead ls letters c.args.name.now (path_of c.in-Some.read.way) c.in-Some.read.last) c.levels_of-levels.ensures.levels c.in-Some.ensures.some in
    let e = below_is c.args.shape (path_of c.in-Some.read.way) c.steps_of-way.result.now c.levels_of-levels.result c.below.result.now c.levels_of-levels.ensures.levels c.steps_of-way.ensures read.spot c.below.ensures in
    let some = subst (λ n. length n ≢ 0) c.steps_of-way.ensures c.if-way-eq0.false in
    let n = named_below c.args.shape c.args.name.now (path_of c.in-Some.read.way) c.in-Some.read.last c.in-Some-read_part.k read some
    (subst (λ ls. c.in-Some-read_part.k < wires_in ls) e c.in-Some-read_part.ensures.some.0)
    (sym c.after-word.ensures ∙ c.in-Some-read_part.ensures.some.1 ∙ ap (λ ls. part_name 111 ls c.in-Some-read_part.k) e) in
    let first = c.first_wire.ensures ∙ ap (start wires_in (levels_of c.args.shape)) c.steps_of-way.ensures in
    subst (λ k. (k + c.in-Some-read_part.k < wires_of c.args.shape) × (wire_name c.args.shape (k + c.in-Some-read_part.k) ≡ c.args.name.now)) (sym first) n

pub overflow_add-result : goal.overflow_add-result
overflow_add-result c = let f = found c in let w = wires_are c.args.shape in omega (arith, f.0, w.1)

pub returns-in-Some-read_part-clause-some : goal.returns-in-Some-read_part-clause-some
returns-in-Some-read_part-clause-some c = found c

pub returns-in-None-clause-none : goal.returns-in-None-clause-none
returns-in-None-clause-none c = λ w h n.
    let read = subst (λ ls. IsRead ls letters c.args.name.now (path_of c.in-Some.read.way) c.in-Some.read.last) c.levels_of-levels.ensures.levels c.in-Some.ensures.some in
    let e = below_is c.args.shape (path_of c.in-Some.read.way) c.steps_of-way.result.now c.levels_of-levels.result c.below.result.now c.levels_of-levels.ensures.levels c.steps_of-way.ensures read.spot c.below.ensures in
    ⊎_elim (λ e. e)
    (λ x. absurd (c.in-None.ensures.none (place_of c.args.shape w).position (subst (λ ls. (place_of c.args.shape w).position < wires_in ls) (sym e) x.2) (c.after-word.ensures ∙ x.1 ∙ ap (λ ls. part_name 111 ls (place_of c.args.shape w).position) (sym e))))
    (read_one c.args.shape c.args.name.now (path_of c.in-Some.read.way) c.in-Some.read.last read w h n)
