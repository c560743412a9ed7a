-- The promises of a `compile`, from how it ended.
use Rattle.std.proofs.Common.{◌≡◌, ℕ, List}
use Rattle.cmd_steps.specs.Outside.{Outside}
use Rattle.cmd_steps.proofs.Done.{EndedAs, done-as}
use Rattle.cmd_compile.specs.{Compile.compile_job, Promises.compile_words, Promises.CompilePromises}
use Rattle.cmd_compile.proofs.Headlines.{compiled}

pub compile-promises : (words : List (List ℕ)) (status : ℕ) (old new : Outside)
    → ((machine defects design : List ℕ) → words ≡ compile_words machine defects design → EndedAs (compile_job machine defects design) old new status)
    → CompilePromises words status old new
compile-promises words status old new ended = record {
  compiled = λ machine defects design is zero. done-as old new (ended machine defects design is) zero (compiled machine defects design old new);
}
