-- What the mapper promises, at every end and at status 0.
use Rattle.std.specs.Prelude.{◌≡◌, ◌≤◌, ◌⊎◌, ℕ, List, [], ◌∷◌}
use Rattle.base_io.specs.Counts.{Rose}
use Rattle.cmd_steps.specs.Vocabulary.{Outside, around, Ended, HasNoJob, job_of}
use Rattle.cmd_map.specs.{Words.asked_by, Headline.IsMapped, Headline.IsFitted}

-- the statuses: 4 is none
abbrev pub IsStatus : ℕ → Type 0
IsStatus status = (status ≤ 3) ⊎ ((status ≡ 5) ⊎ (status ≡ 6))

-- Of these words, to this status: what was asked, what was written, what stays and the cause of the status; and what is done at
-- status 0
pub record MapPromises (words : List (List ℕ)) (status : ℕ) (old new : Outside) : Type 0 where
  pub ends : Ended (HasNoJob (asked_by words)) (job_of (asked_by words)) old new status
  pub mapped : (design : List ℕ) → words ≡ design ∷ [] → status ≡ 0 → IsMapped design old new
  pub fitted : (machine defects design : List ℕ) → words ≡ machine ∷ defects ∷ design ∷ [] → status ≡ 0 →
      IsFitted machine defects design old new
  -- right texts, and room where it is asked for, give status 0 or out of memory, unless a count of the store or the sink rose
  pub complete : (job_of (asked_by words)).right (around old) (around new) [] →
      ((status ≡ 0) ⊎ (status ≡ 6)) ⊎ (Rose old.store.failures new.store.failures ⊎ Rose old.sink.failures new.sink.failures)
