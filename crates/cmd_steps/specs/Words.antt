-- The words of a command line, and the job that they ask for.
use Rattle.std.specs.Prelude.{ℕ, Bool, true, false, List, [], ◌∷◌, ◌==◌, slice_index_or, Result}
use Rattle.cmd_steps.specs.{Outside.Outside, Jobs.Job, Jobs.wrong_words, Jobs.IsLawful, Jobs.Does, declared.refusal.Stop.Stop}

-- the word at a place
abbrev pub word_at : List (List ℕ) → ℕ → List ℕ
word_at words k = slice_index_or words k []

-- the word begins with `-`
abbrev pub is_dashed : List ℕ → Bool
is_dashed [] = false
is_dashed (byte ∷ bytes) = byte == 45

-- what words ask for: a job, or none where they are wrong
pub data Asked : Type 1 where
  no_job : Asked
  a_job : Job → Asked

abbrev pub HasNoJob : Asked → Type 0
HasNoJob no_job = Unit {0}
HasNoJob (a_job job) = ⊥

-- wrong words are a job too
abbrev pub job_of : Asked → Job
job_of no_job = wrong_words
job_of (a_job job) = job

-- of two, by a test
abbrev pub asked_if : Bool → Asked → Asked → Asked
asked_if true this that = this
asked_if false this that = that

-- The job that was asked for was done, to this end, and it is one that leads to no end that it shouldn't; or there was none
pub record DoesAsked {T : Type 0} (asked : Asked) (result : Result T Stop) (old new : Outside) : Type 0 where
  pub lawful : IsLawful (job_of asked)
  pub does : Does (HasNoJob asked) (job_of asked) result old new
