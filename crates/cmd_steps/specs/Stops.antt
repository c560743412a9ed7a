-- Why a command stops, and what that leaves.
use Rattle.std.specs.Prelude.{◌≡◌, ◌⊎◌, ℕ, List, [], ◌∷◌, ◌++◌, take, OnOk, OnErr, Result, Ok, Err, IsTrue, codes}
use Rattle.base_io.specs.Vocabulary.{Rose, StoreState, SinkState, Wrote, PutFails}
use Rattle.base_io.specs.declared.store.StoreFail.{StoreFail}
use Rattle.base_io.specs.declared.store.StoreFail.TheVariants.{Failed as StoreFailed, Memory as StoreMemory}
use Rattle.base_io.specs.declared.sink.SinkFail.TheVariants.{Failed as SinkFailed, Memory as SinkMemory}
use Rattle.design_vectors.specs.declared.vectors.VectorsFail.{VectorsFail}
use Rattle.design_vectors.specs.declared.vectors.VectorsFail.TheVariants.{Text, Failed as VectorsFailed}
use Rattle.rig.specs.declared.rig.{RigFail.RigFail, AttachFail.AttachFail}
use Rattle.rig.specs.declared.rig.RigFail.TheVariants as work
use Rattle.rig.specs.declared.rig.AttachFail.TheVariants as attach
use Rattle.machine_faults.specs.declared.kind.FaultsFault.TheVariants as text
use Rattle.cmd_steps.specs.Lines.{as_line, machine_line, faults_line, defects_line, image_line, design_line, vectors_line, room_line}
use Rattle.cmd_steps.specs.Outside.{Outside}
use Rattle.cmd_steps.specs.{Courses.Course, Courses.Step, Courses.ends, Courses.refuses, Courses.writes, declared.refusal.Refusal.Refusal}
use Rattle.cmd_steps.specs.declared.refusal.Refusal.TheVariants.{Words, Machine, Faults, Defects, Image, Design, Vectors, Room, Rig, Store}
use Rattle.cmd_steps.specs.declared.refusal.Refusal.TheVariants.{Memory, Differ}
use Rattle.cmd_steps.specs.declared.refusal.Stop.{Stop, TheVariants.Refused, TheVariants.Sink}

-- the line of a refusal
abbrev pub refusal_text : Refusal → List ℕ
refusal_text Words = as_line (codes "refused words")
refusal_text (Machine line kind) = machine_line line kind
refusal_text (Faults line kind) = faults_line line kind
refusal_text (Defects line kind) = defects_line line kind
refusal_text (Image line kind) = image_line line kind
refusal_text (Design place) = design_line place.file place.line place.kind
refusal_text (Vectors line kind) = vectors_line line kind
refusal_text (Room place) = room_line place.shape place.short
refusal_text Rig = as_line (codes "refused rig")
refusal_text Store = as_line (codes "refused store")
refusal_text Memory = as_line (codes "refused memory")
refusal_text Differ = as_line (codes "refused differ")

-- the status of a refusal
abbrev pub status_of : Refusal → ℕ
status_of Words = 2
status_of (Machine line kind) = 1
status_of (Faults line kind) = 1
status_of (Defects line kind) = 1
status_of (Image line kind) = 1
status_of (Design place) = 1
status_of (Vectors line kind) = 1
status_of (Room place) = 3
status_of Rig = 4
status_of Store = 5
status_of Memory = 6
status_of Differ = 7

abbrev pub stop_of_store : StoreFail → Stop
stop_of_store StoreFailed = Refused Store
stop_of_store StoreMemory = Refused Memory

abbrev pub stop_of_rig : RigFail → Stop
stop_of_rig work.Failed = Refused Rig
stop_of_rig work.Memory = Refused Memory

abbrev pub stop_of_attach : AttachFail → Stop
stop_of_attach attach.Failed = Refused Rig
stop_of_attach (attach.Faults (text.At line kind)) = Refused (Faults line kind)
stop_of_attach (attach.Faults text.Memory) = Refused Memory
stop_of_attach attach.Memory = Refused Memory

abbrev pub stop_of_vectors : VectorsFail → Stop
stop_of_vectors (Text line kind) = Refused (Vectors line kind)
stop_of_vectors VectorsFailed = Refused Store

-- why a step that writes nothing stops
abbrev pub StepStops : {T : Type 0} → Step T → Stop → Type 0
StepStops step (Refused refusal) = step.stops refusal
StepStops step (Sink fail) = ⊥

-- what a stop needs whatever the command: wrong words, a count that rose, or a sink that can answer a lack of memory
abbrev pub IsCounted : (words : Type 0) → Stop → Outside → Outside → Type 0
IsCounted words (Refused Words) old new = words
IsCounted words (Refused Rig) old new = Rose old.rig.failures new.rig.failures
IsCounted words (Refused Store) old new = Rose old.store.failures new.store.failures
IsCounted words (Refused refusal) old new = Unit {0}
IsCounted words (Sink SinkFailed) old new = Rose old.sink.failures new.sink.failures
IsCounted words (Sink SinkMemory) old new = IsTrue old.sink.can_lack

-- what a refused write says
abbrev pub WriteStops : List ℕ → Stop → SinkState → SinkState → Type 0
WriteStops bytes (Refused refusal) old new = ⊥
WriteStops bytes (Sink fail) old new = PutFails fail bytes old new

-- what was written at a stop: what the course has before a refusal, or before a line, with a front of that
abbrev pub StopWrote : Course → Stop → SinkState → SinkState → Type 0
StopWrote course (Refused refusal) old new = (text : List ℕ) × course text (refuses refusal) × Wrote old.written new.written text
StopWrote course (Sink SinkFailed) old new =
    (text : List ℕ) × (line : List ℕ) × (n : ℕ) × course text (writes line) × Wrote old.written new.written (text ++ take n line)
StopWrote course (Sink SinkMemory) old new =
    (text : List ℕ) × (line : List ℕ) × course text (writes line) × Wrote old.written new.written text

-- what was written is what the course has, at the end or at a stop
abbrev pub IsWritten : {T : Type 0} → Course → Result T Stop → SinkState → SinkState → Type 0
IsWritten course (Ok x) old new = (text : List ℕ) × course text ends × Wrote old.written new.written text
IsWritten course (Err stop) old new = StopWrote course stop old new

-- no more than these names were asked, in this order
abbrev pub AsksSome : List (List ℕ) → List (List ℕ) → List (List ℕ) → Type 0
AsksSome [] old new = new ≡ old
AsksSome (name ∷ names) old new = (new ≡ old) ⊎ AsksSome names (old ++ name ∷ []) new

-- the names that were asked: all of them at Ok
pub record Asks {T : Type 0} (names : List (List ℕ)) (result : Result T Stop) (old new : StoreState) : Type 0 where
  pub all : OnOk result (new.asked ≡ old.asked ++ names)
  pub some : OnErr result (AsksSome names old.asked new.asked)
