-- The promises of a `pair`, from how it ended.
use Rattle.std.proofs.Common.{◌≡◌, ℕ, List}
use Rattle.cmd_steps.specs.Outside.{Outside}
use Rattle.cmd_steps.proofs.Done.{EndedAs, whatever, done-as}
use Rattle.diag_list.proofs.WrongWords.{wrong-loads}
use Rattle.run_image.proofs.WrongWords.{wrong-begins}
use Rattle.cmd_pair.specs.{Pair.pair_job, Promises.pair_words, Promises.PairPromises}
use Rattle.cmd_pair.proofs.Headlines.{begins, paired, few-loads}

pub pair-promises : (words : List (List ℕ)) (status : ℕ) (old new : Outside)
    → ((machine name first second vectors : List ℕ) → words ≡ pair_words machine name first second vectors → EndedAs (pair_job machine name first second vectors) old new status)
    → PairPromises words status old new
pair-promises words status old new ended = record {
  listed = λ machine name first second vectors is. whatever old new (ended machine name first second vectors is) (wrong-begins machine name old new) (begins machine name first second vectors old new);
  paired = λ machine name first second vectors is zero. (done-as old new (ended machine name first second vectors is) zero (paired machine name first second vectors old new)).0;
  room = λ machine name first second vectors is zero. (done-as old new (ended machine name first second vectors is) zero (paired machine name first second vectors old new)).1;
  loads = λ machine name first second vectors is. whatever old new (ended machine name first second vectors is) (wrong-loads machine name _ old new) (few-loads machine name first second vectors old new);
}
