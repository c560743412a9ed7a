use Rattle.design_flatten.proofs.Vocabulary.{◌∙◌, sym, fold_more, word, sooner, places_of, signal_number}
use Rattle.design_flatten.proofs.words.among_inputs.Goals as goal

pub ins-preserved : goal.ins-preserved
ins-preserved c =
    let F = sooner (places_of c.args.firsts.now) in
    c.sooner-best.ensures
    ∙ (λ i. F (c.ins.invariant i) (word c.args.line (c.number.ensures i)))
    ∙ sym (fold_more (λ b s. F b (word c.args.line (signal_number c.args.signals.now s))) c.args.found c.args.ins.now c.ins.k _ c.ins-test.true)
