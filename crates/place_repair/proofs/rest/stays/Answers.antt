use Rattle.place_repair.proofs.Vocabulary.{◌≡◌, ℕ, false, get_or, sym, ap, ◌∙◌, arith, false≢true, not-true, not_from_false}
use Rattle.place_repair.proofs.Hanging.{has_end, mark_read, mark_within, one_net_has}
use Rattle.place_repair.proofs.rest.stays.Goals as goal

pub index-moves-requires : goal.index-moves-requires
index-moves-requires c = omega (arith, mark_within c.args.plan.now.moves.items c.requires.plan.moves_sized c.in-Some.ensures.some.0)

pub returns-in-None : goal.returns-in-None
returns-in-None c =
    let g = c.args.config.now.config in
    let nets = c.requires.plan.nets_are in
    (λ t. absurd (false≢true t), λ stays. absurd (c.in-None.ensures.none (has_end g (c.the_numbering_is_sound.ensures.numbered g.shape) c.shape-shape.ensures.right c.args.plan.now.nets.lowest nets.lowest_are stays.0 c.args.wire.0 stays.2)))

pub returns-in-Some : goal.returns-in-Some
returns-in-Some c =
    let g = c.args.config.now.config in
    let p = c.args.plan.now in
    let net : ℕ = c.in-Some.net in
    let mark = mark_read p.moves.items net c.requires.plan.moves_sized c.in-Some.ensures.some.0 c.index-moves.ensures in (
      λ t. (net, sym mark ∙ not-true c.index-moves.result.now t, c.in-Some.ensures.some),
      λ stays.
          let same : stays.0 ≡ net = one_net_has g (c.the_numbering_is_sound.ensures.numbered g.shape) c.shape-shape.ensures.right p.nets.lowest c.requires.plan.nets_are.lowest_are stays.0 net c.args.wire.0 stays.2 c.in-Some.ensures.some in
          not_from_false c.index-moves.result.now (mark ∙ ap (λ k. get_or p.moves.items k false) (sym same) ∙ stays.1),
    )
