use Rattle.design_flatten.proofs.Vocabulary.{◌∙◌, ◌++◌, ◌∷◌, [], ap, sym, map, take, map_push, take_more, shared_as}
use Rattle.design_flatten.proofs.printed.all_shared.Goals as goal

pub signals-preserved : goal.signals-preserved
signals-preserved c ms all first =
    let P = shared_as ms in
    let ss = c.args.signals.now in
    let i = c.signals.signal-index in
    c.in_ok-push.ensures.items
    ∙ (λ j. c.signals.invariant ms all first j ++ (c.in_ok-shared.ensures ms all first) j ∷ [])
    ∙ sym (map_push P (take i ss) _) ∙ ap (map P) (sym (take_more ss i _ c.signals-test.true))
