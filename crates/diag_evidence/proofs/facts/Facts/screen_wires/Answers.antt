use Rattle.diag_evidence.proofs.Marked.{unfit_new, unclear_new, unfit_all, unclear_all, unfit_same, unclear_same}
use Rattle.diag_evidence.proofs.facts.Facts.screen_wires.Goals as goal

pub pins_at-requires : goal.pins_at-requires
pins_at-requires g c = c.requires.hangs.each

pub returns-clause-newly_each : goal.returns-clause-newly_each
returns-clause-newly_each g c = λ f e.
    unfit_new _ c.args.self.now c.args.forest.now c.args.hangs.now c.look.new.reads.rows c.shape-shape.ensures.forest c.requires.forest c.requires.hangs.each c.requires.hangs.wires (c.in_ok-look.ensures.looked_each f e) c.mark_unfit.ensures.marked

pub returns-clause-newly_too_each : goal.returns-clause-newly_too_each
returns-clause-newly_too_each g c = λ f e.
    unclear_new _ c.args.self.now c.args.forest.now c.args.hangs.now c.look.new.reads.rows c.shape-shape.ensures.forest c.requires.forest c.requires.hangs.each c.requires.hangs.wires (c.in_ok-look.ensures.looked_each f e) c.mark_unfit.ensures.marked

pub returns-clause-unfit_each : goal.returns-clause-unfit_each
returns-clause-unfit_each g c = λ f e known all before. unfit_same _ c.args.self.now c.look.new.self known c.mark_unfit.new.unfit c.in_ok-look.ensures.same
    (unfit_all _ c.args.self.now c.args.forest.now c.args.unfit.now c.mark_unfit.new.unfit
    (unfit_new _ c.args.self.now c.args.forest.now c.args.hangs.now c.look.new.reads.rows c.shape-shape.ensures.forest c.requires.forest c.requires.hangs.each c.requires.hangs.wires (c.in_ok-look.ensures.looked_each f e) c.mark_unfit.ensures.marked)
    known all before)

pub returns-clause-unclear_each : goal.returns-clause-unclear_each
returns-clause-unclear_each g c = λ f e before. unclear_same _ c.args.self.now c.look.new.self c.mark_unfit.new.unclear c.in_ok-look.ensures.same
    (unclear_all _ c.args.self.now c.args.unclear.now c.mark_unfit.new.unclear
    (unclear_new _ c.args.self.now c.args.forest.now c.args.hangs.now c.look.new.reads.rows c.shape-shape.ensures.forest c.requires.forest c.requires.hangs.each c.requires.hangs.wires (c.in_ok-look.ensures.looked_each f e) c.mark_unfit.ensures.marked)
    before)

pub returns-clause-told_each : goal.returns-clause-told_each
returns-clause-told_each g c = λ f e. record { look = c.in_ok-look.ensures.looked_each f e; marks = c.mark_unfit.ensures.marked }

pub returns-clause-marked : goal.returns-clause-marked
returns-clause-marked g c = c.mark_unfit.ensures.marked
