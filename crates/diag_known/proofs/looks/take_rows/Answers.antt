use Rattle.diag_known.proofs.Crosswise.{above_looked, across_still}
use Rattle.diag_known.proofs.{Grounding.founds_then, Settling.on_ok_so}
use Rattle.diag_known.specs.Vocabulary.{across_of}
use Rattle.diag_known.proofs.looks.take_rows.Goals as goal

pub returns-clause-founds : goal.returns-clause-founds
returns-clause-founds c = on_ok_so c.take_across-3.result c.take_across-3.ensures.founds (λ next. founds_then c.in_ok-take_across.ensures.founds next)

pub returns-clause-above : goal.returns-clause-above
returns-clause-above c =
    let m = c.args.facts.now.shape in
    let a = c.args.look.across in
    let u = c.args.look.from.0 in
    on_ok_so c.take_across-3.result c.take_across-3.ensures.founds
    (λ next n up. across_still next a u n (across_of m a n) (above_looked a u c.args.node.0 c.in-Some.above.0 n c.shape.ensures c.in-Some.ensures.some.0 up c.in_ok-take_across.ensures.looked))
