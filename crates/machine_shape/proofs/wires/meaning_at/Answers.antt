use Rattle.machine_shape.proofs.Vocabulary.{◌≡◌, ◌<◌, ◌≤◌, [], ◌∷◌, length, drop, refl, sym, ap, ◌∙◌, subst, arith, slice_index_or, Level}
use Rattle.machine_shape.specs.Walk.{Levels, ports_in, nodes_in}
use Rattle.machine_shape.proofs.Barred.{rest-drop, spot_short}
use Rattle.machine_shape.proofs.{Called.empty_of, Meanings.as_table, Meanings.as_line, Meanings.as_pin, Meanings.as_port}
use Rattle.machine_shape.proofs.wires.meaning_at.Goals as goal

head_ports : (xs : Levels) (d : Level) → 1 ≤ length xs → (slice_index_or xs 0 d).ports ≡ ports_in xs
head_ports [] d h = absurd (omega arith)
head_ports (l ∷ ls) d h = refl

has_node : (xs : Levels) → 1 ≤ length xs → 0 < nodes_in xs
has_node [] h = absurd (omega arith)
has_node (l ∷ ls) h = omega arith

pub below-requires : goal.below-requires
below-requires c = let s = spot_short c.requires.spot in let e = ap length c.levels_of-levels.ensures.levels in omega arith

pub returns-in-empty : goal.returns-in-empty
returns-in-empty c =
    let below = (c.below.ensures ∙ ap (drop (length c.args.way.now)) c.levels_of-levels.ensures.levels
    ∙ sym (rest-drop c.requires.spot)) in
    let none : c.below.result.now ≡ [] = empty_of c.below.result.now (let h = c.in-empty.len_below in omega arith) in
    as_table c.args.shape c.args.position c.args.way.now c.requires.spot c.requires.within _ (sym below ∙ none) c.first_table.ensures

pub returns-then-level-position : goal.returns-then-level-position
returns-then-level-position c =
    let below = (c.below.ensures ∙ ap (drop (length c.args.way.now)) c.levels_of-levels.ensures.levels
    ∙ sym (rest-drop c.requires.spot)) in
    as_line c.args.shape c.args.position c.args.way.now c.requires.spot c.requires.within _ _
    (subst (λ (ls : Levels). 0 < nodes_in ls) below (has_node c.below.result.now c.in-len1-up.len_at_least)) c.node_number.ensures
    (head_ports c.below.result.now (record { ports = 0; lines = 0; children = 0 }) c.in-len1-up.len_at_least
    ∙ ap ports_in below) c.if-level-position.true

pub returns-then-way-eq0 : goal.returns-then-way-eq0
returns-then-way-eq0 c =
    let below = (c.below.ensures ∙ ap (drop (length c.args.way.now)) c.levels_of-levels.ensures.levels
    ∙ sym (rest-drop c.requires.spot)) in
    let ports = head_ports c.below.result.now (record { ports = 0; lines = 0; children = 0 }) c.in-len1-up.len_at_least
    ∙ ap ports_in below in
    as_pin c.args.shape c.args.position c.args.way.now c.requires.spot c.requires.within (empty_of c.args.way.now c.if-way-eq0.true)
    (let h = c.if-level-position.false in omega arith)

pub returns-else-way-eq0 : goal.returns-else-way-eq0
returns-else-way-eq0 c =
    let below = (c.below.ensures ∙ ap (drop (length c.args.way.now)) c.levels_of-levels.ensures.levels
    ∙ sym (rest-drop c.requires.spot)) in
    let ports = head_ports c.below.result.now (record { ports = 0; lines = 0; children = 0 }) c.in-len1-up.len_at_least
    ∙ ap ports_in below in
    as_port c.args.shape c.args.position c.args.way.now c.requires.spot c.requires.within _ c.if-way-eq0.false
    (subst (λ (ls : Levels). 0 < nodes_in ls) below (has_node c.below.result.now c.in-len1-up.len_at_least)) c.node_number.ensures
    (let h = c.if-level-position.false in omega arith)
