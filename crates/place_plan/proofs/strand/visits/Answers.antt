use Rattle.place_plan.proofs.Places.{one_strand}
use Rattle.place_plan.proofs.strand.visits.Goals as goal

pub returns-clause-no : goal.returns-clause-no
returns-clause-no c never = one_strand c.args.tree.now.shape (c.the_numbering_is_sound.ensures.tree c.args.tree.now.shape) c.args.wires.now c.args.node _ (c.has_other.ensures.no never)
