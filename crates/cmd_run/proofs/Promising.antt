-- The promises of a `run`, from how it ended.
use Rattle.cmd_run.proofs.Vocabulary.{◌≡◌, ℕ, List, Outside, run_job}
use Rattle.cmd_steps.proofs.Done.{EndedAs, done-as}
use Rattle.cmd_run.specs.Promises.{run_words, RunPromises}
use Rattle.cmd_run.proofs.Headlines.{ran}

pub run-promises : (words : List (List ℕ)) (status : ℕ) (old new : Outside)
    → ((machine name image vectors : List ℕ) → words ≡ run_words machine name image vectors → EndedAs (run_job machine name image vectors) old new status)
    → RunPromises words status old new
run-promises words status old new ended = record {
  ran = λ machine name image vectors is zero. done-as old new (ended machine name image vectors is) zero (ran machine name image vectors old new);
}
