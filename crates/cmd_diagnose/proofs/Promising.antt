-- The promises of a `diagnose`, from how it ended.
use Rattle.cmd_diagnose.proofs.Vocabulary.{◌≡◌, ℕ, List, inl, inr, Outside, around, MakesFewCycles, diagnose_job}
use Rattle.cmd_steps.proofs.Done.{EndedAs, whatever, done-as}
use Rattle.diag_list.proofs.WrongWords.{wrong-loads}
use Rattle.cmd_diagnose.specs.Promises.{diagnose_words, DiagnosePromises}
use Rattle.cmd_diagnose.proofs.Headlines.{diagnosed, few-loads}

few-cycles : (machine name : List ℕ) (status : ℕ) (old new : Outside) → EndedAs (diagnose_job machine name) old new status → MakesFewCycles old.rig new.rig
few-cycles machine name status old new (inl wrong) = inl wrong.machines
few-cycles machine name status old new (inr ended) = ended.machines.1

pub diagnose-promises : (words : List (List ℕ)) (status : ℕ) (old new : Outside)
    → ((machine name : List ℕ) → words ≡ diagnose_words machine name → EndedAs (diagnose_job machine name) old new status)
    → DiagnosePromises words status old new
diagnose-promises words status old new ended = record {
  diagnosed = λ machine name is zero. done-as old new (ended machine name is) zero (diagnosed machine name old new);
  loads = λ machine name is. whatever old new (ended machine name is) (wrong-loads machine name _ old new)
      (λ s. few-loads machine name (around old) (around new) s.text s.next s.at);
  cycles = λ machine name is. few-cycles machine name status old new (ended machine name is);
}
