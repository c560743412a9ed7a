use Rattle.place_repair.proofs.Vocabulary.{◌≡◌, ◌++◌, ◌∷◌, [], sym, ap, ◌∙◌, arith, range_with_len}
use Rattle.place_repair.proofs.Grouping.{range_more}
use Rattle.place_repair.proofs.groups.own_places.Goals as goal

pub loop-wire-preserved : goal.loop-wire-preserved
loop-wire-preserved c = c.in_ok-push.ensures.items ∙ ap (λ xs. xs ++ c.loop-wire.wire ∷ []) c.loop-wire.invariant ∙ sym (range_more c.loop-wire.wire)

pub returns : goal.returns
returns c = c.loop-wire.invariant ∙ ap (range_with_len 0) (let e : c.loop-wire.wire ≡ c.args.count = omega arith in e)
