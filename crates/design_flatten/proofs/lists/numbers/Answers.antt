use Rattle.design_flatten.proofs.Vocabulary.{◌∙◌, ap, sym, map, take, ◌++◌, ◌∷◌, [], map_push, take_more, signal_number}
use Rattle.design_flatten.proofs.lists.numbers.Goals as goal

pub words-preserved : goal.words-preserved
words-preserved c =
    let N = signal_number c.args.signals.now in
    let ws = c.args.words.now in
    let i = c.words.word-index in
    c.in_ok-push.ensures.items ∙ ap (λ xs. xs ++ c.number.result ∷ []) c.words.invariant ∙ ap (λ x. map N (take i ws) ++ x ∷ []) c.number.ensures
    ∙ sym (map_push N (take i ws) _) ∙ ap (map N) (sym (take_more ws i _ c.words-test.true))
