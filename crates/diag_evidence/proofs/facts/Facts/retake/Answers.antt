use Rattle.diag_evidence.proofs.Vocabulary.{◌≡◌, ◌∙◌, length, sym, ap, wires_of, Kept}
use Rattle.diag_evidence.proofs.Keeping.{retakes, holds_retaken}
use Rattle.diag_evidence.proofs.facts.Facts.retake.Goals as goal

pub keep-requires : goal.keep-requires
keep-requires c = c.requires ∙ ap (λ (k : Kept). wires_of k.shape) (sym c.self.view_is) ∙ sym c.self.invariant.0.apart

pub returns-clause-retaken : goal.returns-clause-retaken
returns-clause-retaken c = rw (← c.self.view_is) (retakes _ c.args.wires.now _ c.keep.ensures.both)

pub returns-clause-explained : goal.returns-clause-explained
returns-clause-explained c = rw (← c.self.view_is) (holds_retaken (retakes _ c.args.wires.now _ c.keep.ensures.both))
