use Rattle.diag_known.proofs.{Crosswise.found_at, Crosswise.looked_one, Settling.on_ok_so}
use Rattle.diag_known.specs.Vocabulary.{ends_by}
use Rattle.diag_known.proofs.looks.take_to.Goals as goal

pub returns-clause-looked : goal.returns-clause-looked
returns-clause-looked c =
    let m = c.args.facts.now.shape in
    let u = c.args.look.from.0 in
    let found = found_at c.shape.ensures c.in-Some.ensures.found in
    on_ok_so c.take_link.result c.take_link.ensures.settled
    (λ settled. looked_one u c.args.to.0 c.in-Some.cross.0 (ends_by c.args.look.across u c.args.to.0) (c.the_crosspoints_are_sound.ensures.crosses m) found.0 found.1 settled)
