-- The promises of a `repair`, from how it ended.
use Rattle.cmd_repair.proofs.Vocabulary.{◌≡◌, ℕ, List, Outside, repair_job}
use Rattle.cmd_steps.proofs.Done.{EndedAs, done-as}
use Rattle.cmd_repair.specs.Promises.{repair_words, RepairPromises}
use Rattle.cmd_repair.proofs.Headlines.{repaired}

pub repair-promises : (words : List (List ℕ)) (status : ℕ) (old new : Outside)
    → ((machine defects image : List ℕ) → words ≡ repair_words machine defects image → EndedAs (repair_job machine defects image) old new status)
    → RepairPromises words status old new
repair-promises words status old new ended = record {
  repaired = λ machine defects image is zero. done-as old new (ended machine defects image is) zero (repaired machine defects image old new);
}
