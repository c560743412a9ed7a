use Rattle.place_route.proofs.Vocabulary.{take, get_or, take_more, Visit, visit_for}
use Rattle.place_route.proofs.Lining.{no_lines, lines_more}
use Rattle.place_route.proofs.lines.lines_of.Goals as goal

abbrev no_visit : Visit
no_visit = visit_for 0 0 0

pub loop-visit-init : goal.loop-visit-init
loop-visit-init c = no_lines _ c.new-lines.ensures.empty

pub loop-visit-preserved : goal.loop-visit-preserved
loop-visit-preserved c = rw (take_more c.args.visits.now c.loop-visit.visit-index no_visit c.loop-visit-test.true) (lines_more (take c.loop-visit.visit-index c.args.visits.now) (get_or c.args.visits.now c.loop-visit.visit-index no_visit) c.loop-visit.lines c.put_line.new.lines c.loop-visit.invariant c.in_ok-put_line.ensures)
