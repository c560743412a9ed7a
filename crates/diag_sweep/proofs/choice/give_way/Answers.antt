use Rattle.diag_sweep.proofs.Vocabulary.{◌∙◌, ap, length, length-replicate, subst, sym, wires_of, AreMarksFor, Shape, known_apart, known_retaken, retaken_all}
use Rattle.diag_evidence.proofs.Keeping.{holds_retaken, retaken_but, retaken_shape}
use Rattle.diag_sweep.proofs.{Chosen.marks_cleared, Chosen.none_unfit, Chosen.true_of_any, Chosen.unfit_none, Marking.true_back}
use Rattle.diag_sweep.proofs.choice.give_way.Goals as goal

pub standing-requires : goal.standing-requires
standing-requires c = record { apart = known_apart c.in_ok-stay.stay c.requires.coherent.known (c.in_ok-stay.ensures.len ∙ ap wires_of c.requires.coherent.known.shape) c.in_ok-stay.ensures.known }

pub retake-requires : goal.retake-requires
retake-requires c = c.wires.ensures.len ∙ ap wires_of c.in_ok-knowledge.ensures.known.shape

pub returns-clause-coherent : goal.returns-clause-coherent
returns-clause-coherent c = record {
  known = known_retaken c.retake.ensures.retaken c.wires.ensures.whole c.in_ok-knowledge.ensures.known;
  all = retaken_all c.retake.ensures.retaken c.wires.ensures.known;
  marks = subst (λ (m : Shape). AreMarksFor m (record c.args.knowledge.now.marks { unfit = c.clear.new.self })) (sym (retaken_shape c.retake.ensures.retaken)) (marks_cleared c.clear.new.self (ap length c.clear.ensures ∙ length-replicate _ _) c.requires.coherent.marks);
}

pub returns-clause-fewer : goal.returns-clause-fewer
returns-clause-fewer c = λ w has. c.in_ok-stay.ensures.known w (c.in_ok-knowledge.ensures.within w has)

pub returns-clause-but : goal.returns-clause-but
returns-clause-but c = retaken_but c.retake.ensures.retaken

pub returns-clause-right : goal.returns-clause-right
returns-clause-right c = λ told t. true_back (retaken_shape c.retake.ensures.retaken) (λ f _. c.retake.ensures.explained f) (true_of_any c.clear.new.self _ c.clear.ensures told t)

pub returns-clause-unfit : goal.returns-clause-unfit
returns-clause-unfit c = none_unfit _ c.clear.new.self _ c.clear.ensures

pub returns-clause-dropped : goal.returns-clause-dropped
returns-clause-dropped c = λ _. unfit_none c.clear.new.self _ c.clear.ensures
