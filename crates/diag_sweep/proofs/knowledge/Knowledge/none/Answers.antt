use Rattle.std.proofs.Common.{◌∙◌, sym, subst}
use Rattle.diag_known.proofs.Later.{known_none}
use Rattle.diag_sweep.proofs.Vocabulary.{false≢true, Shape, AreMarksFor}
use Rattle.diag_sweep.proofs.Cohering.{true_of_none}
use Rattle.diag_sweep.proofs.knowledge.Knowledge.none.Goals as goal

pub returns-clause-coherent : goal.returns-clause-coherent
returns-clause-coherent c = record {
  known = known_none (c.in_ok-verified.ensures.shape ∙ sym c.in_ok-facts.ensures.shape) c.in_ok-verified.ensures.none;
  all = λ w on. absurd (false≢true (sym (c.in_ok-facts.ensures.nothing.apart w) ∙ on));
  marks = subst (λ (m : Shape). AreMarksFor m c.in_ok-marks.marks) (sym c.in_ok-facts.ensures.shape) c.in_ok-marks.ensures.marks;
}

pub returns-clause-right : goal.returns-clause-right
returns-clause-right c = true_of_none c.in_ok-verified.verified.steps (λ f. c.kept_facts_are_sound.ensures.nothing _ f c.in_ok-facts.ensures.nothing) c.in_ok-marks.ensures.stuck c.in_ok-marks.ensures.unfit c.in_ok-marks.ensures.unclear c.in_ok-marks.ensures.wrong
