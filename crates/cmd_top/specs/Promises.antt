-- What the program promises: at every end, and of each command.
use Rattle.std.specs.Prelude.{◌≡◌, ℕ, List}
use Rattle.cmd_steps.specs.Vocabulary.{Outside, Ended, HasNoJob, job_of}
use Rattle.cmd_eval.specs.Promises.{EvalPromises}
use Rattle.cmd_compile.specs.Promises.{CompilePromises}
use Rattle.cmd_run.specs.Promises.{RunPromises}
use Rattle.cmd_diagnose.specs.Promises.{DiagnosePromises}
use Rattle.cmd_go.specs.Promises.{GoPromises}
use Rattle.cmd_bench.specs.Promises.{BenchPromises}
use Rattle.cmd_check.specs.Promises.{CheckPromises}
use Rattle.cmd_repair.specs.Promises.{RepairPromises}
use Rattle.cmd_pair.specs.Promises.{PairPromises}
use Rattle.cmd_twice.specs.Promises.{TwicePromises, twice_words}
use Rattle.cmd_top.specs.Words.{asked_by}

-- Of these words, to this status: what was asked, what was written, what stays, and the cause of the status; and what each command
-- promises where the words are its own
pub record Promises (words : List (List ℕ)) (status : ℕ) (old new : Outside) : Type 0 where
  pub ends : Ended (HasNoJob (asked_by words)) (job_of (asked_by words)) old new status
  pub of_eval : EvalPromises words status old new
  pub of_compile : CompilePromises words status old new
  pub of_run : RunPromises words status old new
  pub of_diagnose : DiagnosePromises words status old new
  pub of_go : GoPromises words status old new
  pub of_bench : BenchPromises words status old new
  pub of_check : CheckPromises words status old new
  pub of_repair : RepairPromises words status old new
  pub of_pair : PairPromises words status old new
  pub of_twice : TwicePromises words status old new
  -- and no other comes to status 7
  pub only_twice : status ≡ 7 →
      (machine name design vectors : List ℕ) × (words ≡ twice_words machine name design vectors)
