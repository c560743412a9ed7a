use Rattle.std.proofs.Common.{◌≡◌, ◌<◌, false, get_or, sym, ap, ◌∙◌, subst, arith}
use Rattle.place_repair.proofs.Vocabulary.{false≢true, on_ok_weaker, IsAdded, IsMovedTo}
use Rattle.place_repair.proofs.Hanging.{has_end, mark_read, mark_within, one_net_has}
use Rattle.place_repair.proofs.Adding.{added_none, added_to}
use Rattle.place_repair.proofs.terminals.add_moved.Goals as goal

pub index-moves-requires : goal.index-moves-requires
index-moves-requires c = omega (arith, mark_within c.args.plan.now.moves.items c.requires.plan.moves_sized c.in-Some.ensures.some.0)

pub add-requires : goal.add-requires
add-requires c = subst (λ n. c.in-Some.net < n) (sym c.requires.sized) c.in-Some.ensures.some.0

pub returns-in-None : goal.returns-in-None
returns-in-None c =
    let g = c.args.config.now.config in
    let p = c.args.plan.now in
    added_none (IsMovedTo g p c.args.from.0 c.args.to.0) c.args.lists.now
    (λ k w m. c.in-None.ensures.none (has_end g (c.the_numbering_is_sound.ensures.numbered g.shape) c.shape-shape.ensures.right p.nets.lowest c.requires.plan.nets_are.lowest_are k c.args.from.0 m.1))

pub returns-then-not-moves : goal.returns-then-not-moves
returns-then-not-moves c =
    let g = c.args.config.now.config in
    let p = c.args.plan.now in
    let mark = mark_read p.moves.items c.in-Some.net c.requires.plan.moves_sized c.in-Some.ensures.some.0 c.index-moves.ensures in
    added_none (IsMovedTo g p c.args.from.0 c.args.to.0) c.args.lists.now
    (λ k w m.
    let same : k ≡ c.in-Some.net = one_net_has g (c.the_numbering_is_sound.ensures.numbered g.shape) c.shape-shape.ensures.right p.nets.lowest c.requires.plan.nets_are.lowest_are k c.in-Some.net c.args.from.0 m.1 c.in-Some.ensures.some in
    false≢true (sym c.if-not-moves.true ∙ mark ∙ ap (λ z. get_or p.moves.items z false) (sym same) ∙ m.0))

pub returns-else-not-moves : goal.returns-else-not-moves
returns-else-not-moves c =
    let g = c.args.config.now.config in
    let p = c.args.plan.now in
    let mark = mark_read p.moves.items c.in-Some.net c.requires.plan.moves_sized c.in-Some.ensures.some.0 c.index-moves.ensures in
    on_ok_weaker c.add.result
    (λ e. subst (IsAdded (IsMovedTo g p c.args.from.0 c.args.to.0) c.args.lists.now) (sym e)
    (added_to g p c.args.from.0 c.args.to.0 c.in-Some.net c.args.lists.now (sym mark ∙ c.if-not-moves.false) c.in-Some.ensures.some
    (λ k wire. one_net_has g (c.the_numbering_is_sound.ensures.numbered g.shape) c.shape-shape.ensures.right p.nets.lowest c.requires.plan.nets_are.lowest_are k c.in-Some.net c.args.from.0 wire c.in-Some.ensures.some)
    (subst (λ n. c.in-Some.net < n) (sym c.requires.sized) c.in-Some.ensures.some.0)))
    c.add.ensures
