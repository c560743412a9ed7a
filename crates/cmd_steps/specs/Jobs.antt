-- What a command is: one record for each.
use Rattle.std.specs.Prelude.{◌≡◌, ◌⊎◌, ℕ, List, [], ◌++◌, Result}
use Rattle.base_io.specs.Counts.{Rose}
use Rattle.cmd_steps.specs.{Outside.Around, Outside.Outside, Outside.around, Stops.status_of, Took.Follows, declared.refusal.Stop.Stop}
use Rattle.cmd_steps.specs.{Courses.Course, Courses.Next, Courses.ends, Courses.refuses, Courses.writes, declared.refusal.Refusal.Refusal}
use Rattle.cmd_steps.specs.declared.refusal.Refusal.TheVariants.{Words, Faults, Rig, Store, Memory}

-- The store and the rig as a job begins are `old`, and at its end `new`
pub record Job : Type 1 where
  -- the files that it asks for, in the order of work
  pub files : List (List ℕ)
  -- what it asks of the rig
  pub asks : (old new : Around) → Type 0
  -- its steps in the order of work: what it has written wherever it ends, with the cause
  pub course : (old new : Around) → Course
  -- all texts are told and right, and of each front of what it wrote: if that is a list of defects, there is room on it
  pub right : (old new : Around) → (front : List ℕ) → Type 0
  -- the same, but there is no room
  pub short : (old new : Around) → (front : List ℕ) → Type 0
  -- the vectors are no more than memory was asked for
  pub few : (old new : Around) → Type 0
  -- the text has the line `outputs`
  pub has_begun : (old new : Around) → (text : List ℕ) → Type 0

-- a job that no room is looked for, and that takes no memory for rows
abbrev pub quiet : (files : List (List ℕ)) → (asks : Around → Around → Type 0) → (course : Around → Around → Course) →
    (right : Around → Type 0) → Job
quiet files asks course right = record {
  files = files;
  asks = asks;
  course = course;
  right = λ old new front. right old;
  short = λ old new front. ⊥;
  few = λ old new. Unit {0};
  has_begun = λ old new text. ⊥;
}

-- what wrong words ask: they are refused, and store and rig are as they were
abbrev pub wrong_words : Job
wrong_words = record {
  files = [];
  asks = λ old new. new.rig ≡ old.rig;
  course = λ old new text next. (text ≡ []) × (next ≡ refuses Words) × (new.store ≡ old.store);
  right = λ old new front. ⊥;
  short = λ old new front. ⊥;
  few = λ old new. Unit {0};
  has_begun = λ old new text. ⊥;
}

-- ---- what each job owes

-- these refusals come also where all is right: for lack of memory, a count that rose, or faults whose text the rig refused
abbrev pub IsExcused : Refusal → Around → Around → Type 0
IsExcused Memory old new = Unit {0}
IsExcused Store old new = Unit {0}
IsExcused Rig old new = Unit {0}
IsExcused (Faults line kind) old new = Rose old.rig.machine.refused.times new.rig.machine.refused.times
IsExcused refusal old new = ⊥

-- where all is right nothing else is refused
abbrev pub EndsWell : Around → Around → Next → Type 0
EndsWell old new (refuses refusal) = IsExcused refusal old new
EndsWell old new next = Unit {0}

-- where there is no room, that is what is refused
abbrev pub EndsShort : Around → Around → Next → Type 0
EndsShort old new ends = ⊥
EndsShort old new (refuses refusal) = (status_of refusal ≡ 3) ⊎ IsExcused refusal old new
EndsShort old new (writes line) = Unit {0}

-- each prefix of a text
abbrev pub Fronts : (List ℕ → Type 0) → List ℕ → Type 0
Fronts P text = (front rest : List ℕ) → text ≡ front ++ rest → P front

-- a course that has written such a text comes to such ends
abbrev pub Leads : (text_is : List ℕ → Type 0) → Course → (next_is : Next → Type 0) → Type 0
Leads text_is course next_is = (text : List ℕ) → (next : Next) → text_is text → course text next → next_is next

pub record IsLawful (job : Job) : Type 0 where
  pub right : (old new : Around) → Leads (Fronts (job.right old new)) (job.course old new) (EndsWell old new)
  pub short : (old new : Around) → Leads (Fronts (job.short old new)) (job.course old new) (EndsShort old new)
  -- memory for the rows is taken before the line `outputs`
  pub few : (old new : Around) → job.few old new → (text : List ℕ) → job.has_begun old new text
      → job.course old new text (refuses Memory) → ⊥

-- a body did this job, to this end. `words` is what wrong words need
abbrev pub Does : {T : Type 0} → (words : Type 0) → Job → Result T Stop → Outside → Outside → Type 0
Does words job result old new =
    Follows words job.files (job.asks (around old) (around new)) (job.course (around old) (around new)) result old new
