-- The promises of a `go`, from how it ended.
use Rattle.std.proofs.Common.{◌≡◌, ℕ, List}
use Rattle.cmd_steps.specs.Outside.{Outside}
use Rattle.cmd_steps.proofs.Done.{EndedAs, whatever, done-as}
use Rattle.diag_list.proofs.WrongWords.{wrong-loads}
use Rattle.run_image.proofs.WrongWords.{wrong-begins}
use Rattle.cmd_go.specs.{Go.go_job, Promises.go_words, Promises.GoPromises}
use Rattle.cmd_go.proofs.Headlines.{begins, gone, few-loads}

pub go-promises : (words : List (List ℕ)) (status : ℕ) (old new : Outside)
    → ((machine name design vectors : List ℕ) → words ≡ go_words machine name design vectors → EndedAs (go_job machine name design vectors) old new status)
    → GoPromises words status old new
go-promises words status old new ended = record {
  listed = λ machine name design vectors is. whatever old new (ended machine name design vectors is) (wrong-begins machine name old new) (begins machine name design vectors old new);
  gone = λ machine name design vectors is zero. (done-as old new (ended machine name design vectors is) zero (gone machine name design vectors old new)).0;
  room = λ machine name design vectors is zero. (done-as old new (ended machine name design vectors is) zero (gone machine name design vectors old new)).1;
  loads = λ machine name design vectors is. whatever old new (ended machine name design vectors is) (wrong-loads machine name _ old new) (few-loads machine name design vectors old new);
}
