use Rattle.diag_check.proofs.Vocabulary.{◌<◌, arith, refl, marked_within}
use Rattle.diag_check.proofs.look.has_each.Goals as goal

pub returns : goal.returns
returns c = (
  λ _ w h.
      let end = c.len-w-end.ensures in
      let within : w < c.wires.w = (let l = marked_within c.args.used.now w h in omega (arith, l, end)) in
      c.wires.invariant w within h,
  λ _. refl,
)
