-- The promises of a `check`, from how it ended.
use Rattle.cmd_check.proofs.Vocabulary.{◌≡◌, ℕ, List, Outside, check_job}
use Rattle.cmd_steps.proofs.Done.{EndedAs, done-as}
use Rattle.cmd_check.specs.Promises.{check_words, CheckPromises}
use Rattle.cmd_check.proofs.Headlines.{checked}

pub check-promises : (words : List (List ℕ)) (status : ℕ) (old new : Outside)
    → ((machine name image : List ℕ) → words ≡ check_words machine name image → EndedAs (check_job machine name image) old new status)
    → CheckPromises words status old new
check-promises words status old new ended = record {
  checked = λ machine name image is zero. done-as old new (ended machine name image is) zero (checked machine name image old new);
}
