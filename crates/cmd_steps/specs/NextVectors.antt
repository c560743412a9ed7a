-- The next vector of a file that is read from a store, and rows that wait to be written together.
use Rattle.std.specs.Prelude.{◌≡◌, ◌⊎◌, ◌<◌, ◌≤◌, ℕ, List, [], Bool, true, false, length, Result, IsOk}
use Rattle.base_io.specs.Vocabulary.{StoreState, SinkState, Wrote}
use Rattle.design_vectors.specs.declared.vectors.VectorsFail.{VectorsFail, TheVariants.Text, TheVariants.Failed}
use Rattle.design_vectors.specs.Readings.{VectorReading, NextGives, NextFails, HasMoved, HasAsked}
use Rattle.cmd_steps.specs.{Files.most_vector_bytes, Files.most_ahead, Stops.WriteStops, Took.Puts}
use Rattle.cmd_steps.specs.declared.refusal.Refusal.TheVariants as refused
use Rattle.cmd_steps.specs.declared.refusal.Stop.{Stop, TheVariants.Refused, TheVariants.Sink}

-- the store went on in its file, or its count rose
pub record StaysOpen (old new : StoreState) : Type 0 where
  pub contents : new.contents ≡ old.contents
  pub later : old.failures ≤ new.failures
  pub asked : new.asked ≡ old.asked

-- the vector was read, and the store isn't far beyond its line
pub record IsRead (vector : List Bool) (old new : VectorReading) (before after : StoreState) : Type 0 where
  pub next : NextGives true vector old new before after
  pub moves : HasMoved old new before after
  pub asked : HasAsked old before after
  pub unread : length new.unread ≤ most_ahead
  pub onward : old.at < new.at
  pub within : new.at ≤ most_vector_bytes

-- the file has ended, and where the store stands
pub record EndsFile (old new : VectorReading) (before after : StoreState) : Type 0 where
  pub next : NextGives false [] old new before after
  pub moves : HasMoved old new before after
  pub asked : HasAsked old before after

-- why no vector is read, and the store wasn't asked but where no vector's line had ended
pub record IsNotRead (fail : VectorsFail) (old : VectorReading) (before after : StoreState) : Type 0 where
  pub fails : NextFails fail old before after
  pub asked : HasAsked old before after

-- ---- rows that wait to be written together

-- how many bits each row has, and the lines that wait
pub record WaitingRows : Type 0 where
  pub width : ℕ
  pub text : List ℕ

-- all that waited was written
pub record IsPutOut (waiting left : List ℕ) (old new : SinkState) : Type 0 where
  pub empty : left ≡ []
  pub kind : new.can_lack ≡ old.can_lack
  pub later : old.failures ≤ new.failures
  pub wrote : Wrote old.written new.written waiting

-- these lines wait, or they were put out at one go, or that was refused
abbrev pub WaitsOrPuts : (lines left : List ℕ) → Result (Unit {0}) Stop → SinkState → SinkState → Type 0
WaitsOrPuts lines left result old new =
    ((left ≡ lines) × (new ≡ old) × IsOk result) ⊎ ((left ≡ []) × Puts lines result old new)

-- ---- the next vector, where rows wait

-- where the reading of vectors stands: the reader, the lines of the rows that wait, the store and the sink
pub record RowsAt : Type 0 where
  pub reading : VectorReading
  pub waiting : List ℕ
  pub store : StoreState
  pub sink : SinkState

abbrev pub rows_at : VectorReading → WaitingRows → StoreState → SinkState → RowsAt
rows_at reading waiting store sink = record { reading = reading; waiting = waiting.text; store = store; sink = sink }

-- what waited waits on, and the store wasn't read; or it was put out first
abbrev pub IsReadAfter : RowsAt → RowsAt → Type 0
IsReadAfter old new =
    ((new.waiting ≡ old.waiting) × (new.sink ≡ old.sink) × (new.store ≡ old.store))
    ⊎ IsPutOut old.waiting new.waiting old.sink new.sink

-- the next vector, or the end of the file, before which all rows were put out
abbrev pub NextOf : Bool → List Bool → RowsAt → RowsAt → Type 0
NextOf true vector old new = IsRead vector old.reading new.reading old.store new.store × IsReadAfter old new
NextOf false vector old new =
    EndsFile old.reading new.reading old.store new.store × IsPutOut old.waiting new.waiting old.sink new.sink

-- the lines that wait aren't put out, and the store wasn't read
pub record IsHeldUp (stop : Stop) (waiting : List ℕ) (before after : StoreState) (old new : SinkState) : Type 0 where
  pub some : 0 < length waiting
  pub still : after ≡ before
  pub kind : new.can_lack ≡ old.can_lack
  pub later : old.failures ≤ new.failures
  pub stops : WriteStops waiting stop old new

-- why there is no next vector: rows that wait aren't put out; or they are, and the file has a fault, or the store
abbrev pub NextStops : Stop → RowsAt → RowsAt → Type 0
NextStops (Sink fail) old new = IsHeldUp (Sink fail) old.waiting old.store new.store old.sink new.sink
NextStops (Refused (refused.Vectors line kind)) old new =
    IsNotRead (Text line kind) old.reading old.store new.store × IsPutOut old.waiting new.waiting old.sink new.sink
NextStops (Refused refused.Store) old new =
    IsNotRead Failed old.reading old.store new.store × IsPutOut old.waiting new.waiting old.sink new.sink
NextStops (Refused refusal) old new = ⊥
