-- How the program ends.
use Rattle.std.specs.Prelude.{◌≡◌, ◌⊎◌, ℕ, ◌≤◌, List, ◌++◌, take, IsTrue, false}
use Rattle.base_io.specs.Vocabulary.{Rose, SinkState, Wrote}
use Rattle.base_io.specs.declared.sink.SinkFail.TheVariants.{Failed as SinkFailed, Memory as SinkMemory}
use Rattle.cmd_steps.specs.{Outside.Outside, Outside.IsLater, Outside.SomethingRose, Outside.around, Jobs.Job, Faults.ShortPlace}
use Rattle.cmd_steps.specs.{Courses.Course, Courses.Next, Courses.ends, Courses.refuses, Courses.writes, declared.refusal.Stop.Stop}
use Rattle.cmd_steps.specs.Stops.{AsksSome, IsCounted, refusal_text, status_of}
use Rattle.cmd_steps.specs.declared.refusal.Refusal.{Refusal, TheVariants.Memory, TheVariants.Room, TheVariants.Differ}
use Rattle.cmd_steps.specs.declared.refusal.Stop.TheVariants.{Refused, Sink}

-- what stands before the line of a refusal: what the course has before it, or before a line at which the sink answered a lack of memory
abbrev pub Stands : (words : Type 0) → Course → Outside → Outside → Refusal → List ℕ → Type 0
Stands words course old new refusal text =
    (IsCounted words (Refused refusal) old new × course text (refuses refusal))
    ⊎ ((refusal ≡ Memory) × IsTrue old.sink.can_lack × ((line : List ℕ) × course text (writes line)))

-- what the sink got, by the status. Wrong words have a cause of their own
pub data EndWrote (words : Type 0) (course : List ℕ → Next → Type 0) (old new : Outside) : ℕ → Type 0 where
  -- all of the output
  whole : (text : List ℕ) → course text ends → Wrote old.sink.written new.sink.written text → EndWrote words course old new 0
  -- what stands before a refusal, and its line
  refused : (refusal : Refusal) (text : List ℕ) → Stands words course old new refusal text
      → Wrote old.sink.written new.sink.written (text ++ refusal_text refusal) → EndWrote words course old new (status_of refusal)
  -- the sink failed within that line
  cut_line : (refusal : Refusal) (text : List ℕ) (n : ℕ)
      → Stands words course old new refusal text → Rose old.sink.failures new.sink.failures
      → Wrote old.sink.written new.sink.written (text ++ take n (refusal_text refusal)) → EndWrote words course old new 5
  -- the sink answered a lack of memory at that line
  no_line : (refusal : Refusal) (text : List ℕ) → Stands words course old new refusal text → IsTrue old.sink.can_lack
      → Wrote old.sink.written new.sink.written text → EndWrote words course old new 6
  -- the sink failed within a line of the output
  cut : (text line : List ℕ) (n : ℕ) → course text (writes line) → Rose old.sink.failures new.sink.failures
      → Wrote old.sink.written new.sink.written (text ++ take n line) → EndWrote words course old new 5

-- what a refusal is followed by: its line and its status, or a failure or lack of memory of the sink
abbrev pub Refuses : Refusal → SinkState → SinkState → ℕ → Type 0
Refuses refusal old new status =
    ((status ≡ status_of refusal) × Wrote old.written new.written (refusal_text refusal))
    ⊎ (((status ≡ 5) × Rose old.failures new.failures × ((n : ℕ) × Wrote old.written new.written (take n (refusal_text refusal))))
    ⊎ ((status ≡ 6) × IsTrue old.can_lack × (new ≡ old)))

-- what a stop is followed by
abbrev pub Finishes : Stop → SinkState → SinkState → ℕ → Type 0
Finishes (Refused refusal) old new status = Refuses refusal old new status
Finishes (Sink SinkFailed) old new status = (status ≡ 5) × (new ≡ old)
Finishes (Sink SinkMemory) old new status = Refuses Memory old new status

-- ---- what the statuses say

-- the refusal came, after a text that the course has before it
abbrev pub IsRefused : Course → Outside → Outside → Refusal → Type 0
IsRefused course old new refusal =
    (text : List ℕ) × course text (refuses refusal) × Wrote old.sink.written new.sink.written (text ++ refusal_text refusal)

-- each front of what was written is such
abbrev pub IsOfFronts : (List ℕ → Type 0) → SinkState → SinkState → Type 0
IsOfFronts P old new = (front rest : List ℕ) → Wrote old.written new.written (front ++ rest) → P front

-- lack of memory came before the line `outputs`
abbrev pub LacksBefore : Job → Outside → Outside → Type 0
LacksBefore job old new =
    (text : List ℕ) × (job.has_begun (around old) (around new) text → ⊥)
    × Wrote old.sink.written new.sink.written (text ++ refusal_text Memory)

-- that, or a count rose
abbrev pub Unless : Type 0 → Outside → Outside → Type 0
Unless end old new = end ⊎ SomethingRose old new

-- ---- the end of the program

-- A job was done, to this status. `words` is what wrong words need
pub record Ended (words : Type 0) (job : Job) (old new : Outside) (status : ℕ) : Type 0 where
  -- what stays as it was, and counts that never fall
  pub later : IsLater old new
  -- the files and machines that were asked for
  pub asked : AsksSome job.files old.store.asked new.store.asked
  pub asked_all : status ≡ 0 → new.store.asked ≡ old.store.asked ++ job.files
  pub machines : job.asks (around old) (around new)
  -- what was written is the course of the command, with the cause of each end
  pub written : EndWrote words (job.course (around old) (around new)) old new status
  -- each status has its cause
  pub text : status ≡ 1 → (refusal : Refusal) × (status_of refusal ≡ 1) × IsRefused (job.course (around old) (around new)) old new refusal
  pub wrong : status ≡ 2 → words
  pub wrong_only : words → (status ≡ 2)
      ⊎ (((status ≡ 5) × Rose old.sink.failures new.sink.failures) ⊎ ((status ≡ 6) × IsTrue old.sink.can_lack))
  pub no_room : status ≡ 3 → (place : ShortPlace) × IsRefused (job.course (around old) (around new)) old new (Room place)
  pub rig : status ≡ 4 → Rose old.rig.failures new.rig.failures
  pub streams : status ≡ 5 → Rose old.store.failures new.store.failures ⊎ Rose old.sink.failures new.sink.failures
  pub differ : status ≡ 7 → IsRefused (job.course (around old) (around new)) old new Differ
  pub statuses : status ≤ 7
  -- where all is right, and there is room on the list that was read or written: unless a count rose
  pub complete : IsOfFronts (job.right (around old) (around new)) old.sink new.sink → Unless ((status ≡ 0) ⊎ (status ≡ 6)) old new
  -- and where there is no room
  pub no_room_only : IsOfFronts (job.short (around old) (around new)) old.sink new.sink → Unless ((status ≡ 3) ⊎ (status ≡ 6)) old new
  -- memory is taken before the line `outputs`
  pub memory : status ≡ 6 → old.sink.can_lack ≡ false → IsRefused (job.course (around old) (around new)) old new Memory
  pub memory_before : IsOfFronts (job.right (around old) (around new)) old.sink new.sink →
      job.few (around old) (around new) → old.sink.can_lack ≡ false
      → Unless ((status ≡ 0) ⊎ ((status ≡ 6) × LacksBefore job old new)) old new
