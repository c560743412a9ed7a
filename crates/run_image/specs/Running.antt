-- What the steps of a run say.
use Rattle.std.specs.Prelude.{◌≡◌, ◌⊎◌, ◌+◌, ◌*◌, ◌==◌, ℕ, if◌then◌else◌, min, List, [], ◌∷◌, ◌++◌, Bool, false, length, map, Err, Ok}
use Rattle.run_image.specs.{Copying.share, Copying.repeated, Copying.AreEqualShares, Copying.IsApart, Rows.most_rows, Rows.loads}
use Rattle.run_image.specs.{declared.copies.Copies.Copies, Batches.most_together, Batches.rows_in, declared.image.Running.Running}
use Rattle.base_io.specs.Vocabulary.{Rose, StoreState, SinkState}
use Rattle.rig.specs.Rig.{RigState, Begins, CyclesFail}
use Rattle.rig.specs.declared.rig.RigFail.TheVariants as work
use Rattle.run_image.specs.{Pins.pins_in, Run.RunsRows}
use Rattle.design_vectors.specs.{Readings.VectorReading, Readings.new_reading, Rows.row_line}
use Rattle.cmd_steps.specs.Vocabulary.{most_vector_bytes, IsRead, IsReadAfter, RowsAt, rows_at, IsPutOut, IsHeldUp, NextOf}
use Rattle.cmd_steps.specs.Vocabulary.{WaitsOrPuts, Step}
use Rattle.cmd_steps.specs.declared.refusal.Refusal.TheVariants as refused
use Rattle.cmd_steps.specs.declared.refusal.Stop.{Stop, TheVariants.Refused, TheVariants.Sink}

-- for how many vectors the rig is asked together, where there is room for so many rows: one where there is none
abbrev pub together_of : (left : ℕ) → ℕ
together_of left = if left == 0 then 1 else min left most_together

-- the buffers have the lengths that the image asks for
pub record IsFitting (rows : Running) : Type 0 where
  pub shares : AreEqualShares rows.copies rows.image
  pub run : rows.run ≡ pins_in rows.image
  pub width : rows.vectors.width ≡ share rows.copies (length rows.image.inputs)
  pub limit : rows.vectors.limit ≡ most_vector_bytes
  pub vector : length rows.vector.items ≡ share rows.copies (length rows.image.inputs)
  pub drive : length rows.drive.items ≡ length rows.image.inputs
  pub reading : length rows.reading.items ≡ length rows.image.outputs
  pub row : length rows.row.items ≡ share rows.copies (length rows.image.outputs)
  pub block : rows.block.width ≡ share rows.copies (length rows.image.outputs)
  pub drives : length rows.drives.items ≡ most_together * length rows.image.inputs
  pub readings : length rows.readings.items ≡ most_together * length rows.image.outputs

-- the image is loaded, with room for the rows, and no vector was read
pub record IsLoaded (rows : Running) (rig : RigState) : Type 0 where
  pub fits : IsFitting rows
  pub vectors : rows.vectors ≡ new_reading (share rows.copies (length rows.image.inputs)) most_vector_bytes
  pub none : rows.block.text ≡ []
  pub left : rows.left ≡ most_rows
  pub begins : Begins rows.image.config most_rows rig

-- the load, as the body's own step
abbrev pub prepares : (old new : RigState) → Step Running
prepares old new = record { stops = (loads old.loads new).stops; gives = λ _. (loads old.loads new).gives tt }

-- the rows of the same image
pub record IsSameBut (old new : Running) : Type 0 where
  pub image : new.image ≡ old.image
  pub copies : new.copies ≡ old.copies

-- and as many of them were driven
pub record IsSameRun (old new : Running) : Type 0 where
  pub image : new.image ≡ old.image
  pub copies : new.copies ≡ old.copies
  pub left : new.left ≡ old.left

-- where the reading stands: with the lines of the rows that wait
abbrev pub at_rows : Running → StoreState → SinkState → RowsAt
at_rows rows store sink = rows_at rows.vectors rows.block store sink

-- ---- vectors that are driven together

-- what is driven for these vectors is kept, one behind the other
abbrev pub AreKept : Running → List (List Bool) → Type 0
AreKept rows vs = rows_in (length vs) (length rows.image.inputs) rows.drives.items ≡ map (repeated rows.copies) vs

-- vectors were read, one after the other, and the store wasn't asked
abbrev pub ReadsOn : List (List Bool) → VectorReading → VectorReading → StoreState → Type 0
ReadsOn [] old new store = new ≡ old
ReadsOn (vector ∷ vs) old new store = (mid : VectorReading) × IsRead vector old mid store store × ReadsOn vs mid new store

-- behind a vector that was read and kept so many with it were
pub record ReadsMore (count : ℕ) (old new : Running) : Type 0 where
  pub more : List (List Bool)
  pub size : length more + 1 ≡ count
  pub reads : (store : StoreState) → ReadsOn more old.vectors new.vectors store
  pub kept : AreKept new (old.vector.items ∷ more)

-- so many vectors were read and kept, of which the store may have been asked for the first
pub record HasBatch (count : ℕ) (new : Running) (from to : RowsAt) : Type 0 where
  pub vector : List Bool
  pub more : List (List Bool)
  pub size : length more + 1 ≡ count
  pub mid : VectorReading
  pub first : IsRead vector from.reading mid from.store to.store
  pub later : ReadsOn more mid to.reading to.store
  pub after : IsReadAfter from to
  pub kept : AreKept new (vector ∷ more)

-- or none, and the file has ended
abbrev pub BatchGives : ℕ → Running → RowsAt → RowsAt → Type 0
BatchGives count new from to = ((count ≡ 0) × NextOf false [] from to) ⊎ HasBatch count new from to

-- so many of those that were kept are driven, and these are the readings at the output pins
abbrev pub DrivesTo : ℕ → Running → (readings : List (List Bool)) → RigState → RigState → Type 0
DrivesTo count rows readings old new =
    RunsRows (pins_in rows.image) old new (rows_in count (length rows.image.inputs) rows.drives.items) readings

abbrev pub readings_in : ℕ → Running → List (List Bool)
readings_in count rows = rows_in count (length rows.image.outputs) rows.readings.items

-- ---- why they aren't

-- the session is as it was, or the rig has failed
abbrev pub HasOrFailed : RigState → RigState → Type 0
HasOrFailed old new = (new.session ≡ old.session) ⊎ Rose old.failures new.failures

-- the rig doesn't drive so many vectors, and the rows that wait are put out; or they aren't
abbrev pub DriveStops : Stop → ℕ → (waiting left : List ℕ) → SinkState → SinkState → RigState → RigState → Type 0
DriveStops (Refused refused.Rig) count waiting left old new rig_old rig_new =
    IsPutOut waiting left old new × CyclesFail work.Failed count rig_old rig_new
DriveStops (Refused refused.Memory) count waiting left old new rig_old rig_new =
    IsPutOut waiting left old new × CyclesFail work.Memory count rig_old rig_new
DriveStops (Sink fail) count waiting left old new rig_old rig_new =
    ((store : StoreState) → IsHeldUp (Sink fail) waiting store store old new) × HasOrFailed rig_old rig_new
DriveStops stop count waiting left old new rig_old rig_new = ⊥

-- ---- what was read, row by row

-- the copies read differently, and the rows that wait are put out; or they aren't
abbrev pub CompareStops : Stop → Copies → (reading : List Bool) → (waiting left : List ℕ) → SinkState → SinkState → Type 0
CompareStops (Refused refused.Differ) c reading waiting left old new = IsPutOut waiting left old new × IsApart c reading
CompareStops (Sink fail) c reading waiting left old new =
    ((store : StoreState) → IsHeldUp (Sink fail) waiting store store old new) × IsApart c reading
CompareStops stop c reading waiting left old new = ⊥

-- of this reading a row is written, or waits with the others
abbrev pub HasAddedOne : Copies → (reading : List Bool) → (waiting left : List ℕ) → SinkState → SinkState → Type 0
HasAddedOne c reading waiting left old new =
    (row : List Bool) × (reading ≡ repeated c row) × WaitsOrPuts (waiting ++ row_line row) left (Ok tt) old new

-- of each of these
abbrev pub HasAddedAll : Copies → (readings : List (List Bool)) → (waiting left : List ℕ) → SinkState → SinkState → Type 0
HasAddedAll c [] waiting left old new = (left ≡ waiting) × (new ≡ old)
HasAddedAll c (reading ∷ readings) waiting left old new =
    (mid : List ℕ) × (between : SinkState) × HasAddedOne c reading waiting mid old between × HasAddedAll c readings mid left between new

-- the copies read differently, or the rows with this one aren't written
abbrev pub AddStops : Stop → Copies → (reading : List Bool) → (waiting left : List ℕ) → SinkState → SinkState → Type 0
AddStops stop c reading waiting left old new =
    CompareStops stop c reading waiting left old new
    ⊎ ((row : List Bool) × (reading ≡ repeated c row) × WaitsOrPuts (waiting ++ row_line row) left (Err stop) old new)

-- so it is of one of these, behind those before it
pub record AddsStop (stop : Stop) (c : Copies) (readings : List (List Bool)) (waiting left : List ℕ) (old new : SinkState) : Type 0 where
  pub added : List (List Bool)
  pub reading : List Bool
  pub rest : List (List Bool)
  pub split : readings ≡ added ++ reading ∷ rest
  pub mid : List ℕ
  pub between : SinkState
  pub adds : HasAddedAll c added waiting mid old between
  pub stops : AddStops stop c reading mid left between new

-- so many vectors were driven, and of each reading a row is written, or waits with the others
pub record MakesRows (count : ℕ) (rows : Running) (waiting left : List ℕ) (old new : SinkState) (rig_old rig_new : RigState) : Type 0 where
  pub readings : List (List Bool)
  pub drives : DrivesTo count rows readings rig_old rig_new
  pub adds : HasAddedAll rows.copies readings waiting left old new

-- why not
abbrev pub MakesStop : Stop → ℕ → Running → (waiting left : List ℕ) → SinkState → SinkState → RigState → RigState → Type 0
MakesStop stop count rows waiting left old new rig_old rig_new =
    DriveStops stop count waiting left old new rig_old rig_new
    ⊎ ((readings : List (List Bool)) × DrivesTo count rows readings rig_old rig_new
    × AddsStop stop rows.copies readings waiting left old new)

-- the load was sent alone, or was sent before; or the rig fails
abbrev pub EndsSent : Running → RigState → RigState → Type 0
EndsSent rows old new = (new ≡ old) ⊎ RunsRows (pins_in rows.image) old new [] []
