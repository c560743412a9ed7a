-- The promises of an `eval`, from how it ended.
use Rattle.cmd_eval.proofs.Vocabulary.{◌≡◌, ℕ, List, Outside, eval_job}
use Rattle.cmd_steps.proofs.Done.{EndedAs, done-as}
use Rattle.cmd_eval.specs.Promises.{eval_words, EvalPromises}
use Rattle.cmd_eval.proofs.Headlines.{evaled}

pub eval-promises : (words : List (List ℕ)) (status : ℕ) (old new : Outside)
    → ((design vectors : List ℕ) → words ≡ eval_words design vectors → EndedAs (eval_job design vectors) old new status)
    → EvalPromises words status old new
eval-promises words status old new ended = record {
  evaled = λ design vectors is zero. done-as old new (ended design vectors is) zero (evaled design vectors old new);
}
