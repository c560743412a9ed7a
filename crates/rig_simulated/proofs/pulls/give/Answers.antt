use Rattle.rig_simulated.proofs.Vocabulary.{◌≡◌, ◌<◌, ◌∙◌, ℕ, length, get_or, arith, get_or_default}
use Rattle.rig_simulated.proofs.Pulling.{plain, differs_if, counted_now}
use Rattle.rig_simulated.proofs.pulls.give.Goals as goal

pub returns-clause-counted : goal.returns-clause-counted
returns-clause-counted c =
    let w = c.requires.outs c.args.place plain c.requires.place in
    let x : ℕ = (get_or c.args.gates.now c.args.place plain).out in
    let within : x < length c.args.pulls.now.items = omega (arith, w, c.requires.counted.len) in
    let is : c.index.result.now ≡ get_or c.args.pulls.now.items x 0 = c.index.ensures ∙ get_or_default c.args.pulls.now.items x _ 0 within in
    counted_now c.args.gates.now c.args.place c.requires.place plain c.args.output c.args.pulls.now.items c.args.low.now c.requires.counted c.requires.outs (differs_if _ _ c.if-gate-output.false) c.recount-count.result
    (λ e. c.recount-count.ensures.lets_go e ∙ is) (λ e. let r = c.recount-count.ensures.pulls e in omega (arith, r, is))
