-- What choices have made so far of what a diagnosis has at hand.
use Rattle.diag_machine.proofs.Vocabulary.{◌≡◌, ◌≤◌, RigState, Knowledge, ProgressButPairs, worth}
use Rattle.diag_machine.specs.declared.whole.DiagnosisState.{DiagnosisState}

pub record HasChosen (first now : RigState) (was is : Knowledge) (old new : DiagnosisState) : Type 0 where
  pub progress : ProgressButPairs first now was is
  pub field : new.field ≡ old.field
  pub pays : worth new.field is.facts is.marks now.loads new.choices.left ≤ worth old.field was.facts was.marks first.loads old.choices.left
  pub paid : new.choices.paid ≡ old.choices.paid
