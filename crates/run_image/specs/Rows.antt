-- The rows of an image that is loaded, wherever it comes from.
use Rattle.std.specs.Prelude.{◌≡◌, ℕ, ◌+◌, ◌≤◌, Bool, List, [], ◌∷◌, ◌++◌, map, length, Some}
use Rattle.std.specs.List.{All}
use Rattle.base_io.specs.Vocabulary.{Told, next_count, Rose, StoreState}
use Rattle.machine_meaning.specs.Vocabulary.{Pins, Faults}
use Rattle.machine_config.specs.Faulty.{IsRun}
use Rattle.machine_image.specs.Images.{ImageValue, drive_of, image_row}
use Rattle.rig.specs.Rig.{RigState, Explains, config_of, cycles_of, drives_of, readings_of, spare_of}
use Rattle.cmd_steps.specs.Vocabulary.{AreFirst, outputs_line, Around, StandsIn, Course, Step}
use Rattle.cmd_steps.specs.Vocabulary.{RowWork, after, write, all_rows, opens, FailsOnRig}
use Rattle.cmd_steps.specs.Vocabulary.{LoadsOnce}
use Rattle.run_image.specs.Copying.{share, all_repeated, HalvesDiffer}
use Rattle.run_image.specs.declared.copies.Copies.{Copies, TheVariants.One, TheVariants.Two}

-- for how many rows the rig is asked for room
abbrev pub most_rows : ℕ
most_rows = 4096

-- what a machine with these faults reads at the output pins of an image that it runs under these vectors
abbrev pub AreRunRows : Faults → ImageValue → (vectors rows : List (List Bool)) → Type 0
AreRunRows f i vectors rows = (reads : List Pins) × IsRun f i.config (map (drive_of i) vectors) reads × (rows ≡ map (image_row i) reads)

-- a row for each vector, which has a bit for each input; under each set of faults that explains what was read, they are what it reads
pub record AreRowsOf (rig : RigState) (i : ImageValue) (vectors rows : List (List Bool)) : Type 0 where
  pub count : length rows ≡ length vectors
  pub widths : All (λ vector. length vector ≡ length i.inputs) vectors
  pub read : (f : Faults) → Explains f rig → AreRunRows f i vectors rows

-- the rig's session: it has loaded the image, and has a cycle for each vector, which it drove; the rows are what it read, and
-- with those that it still has room for they are as many as it was asked for
pub record IsSession (rig : RigState) (i : ImageValue) (vectors rows : List (List Bool)) : Type 0 where
  pub config : config_of rig ≡ Some i.config
  pub drives : drives_of (cycles_of rig) ≡ map (drive_of i) vectors
  pub rows_are : rows ≡ map (image_row i) (readings_of (cycles_of rig))
  pub room : most_rows ≤ spare_of rig + length rows

-- Behind these rows of two copies the session has the reading of the file's next vector, whose halves differ, and those of vectors
-- behind that one which were driven with it
pub record ReadsApart (told : Told) (i : ImageValue) (rig : RigState) (vectors rows : List (List Bool)) : Type 0 where
  pub vector : List Bool
  pub reading : List Bool
  pub behind : List (List Bool)
  pub read_behind : List (List Bool)
  pub next : AreFirst (share Two (length i.inputs)) told (vectors ++ vector ∷ behind)
  pub widths : All (λ driven. length driven ≡ length i.inputs) (all_repeated Two (vectors ++ vector ∷ behind))
  pub session : IsSession rig i (all_repeated Two (vectors ++ vector ∷ behind)) (all_repeated Two rows ++ reading ∷ read_behind)
  pub halves : HalvesDiffer reading

-- one copy alone never differs
abbrev pub DiffersBehind : Copies → Told → ImageValue → RigState → (vectors rows : List (List Bool)) → Type 0
DiffersBehind One told i rig vectors rows = ⊥
DiffersBehind Two told i rig vectors rows = ReadsApart told i rig vectors rows

-- The rows of copies that an image lays: a vector is driven for each copy, and a row is what each of them read. The rig had failed so
-- many times as the command began
abbrev pub copied_rows : Copies → ImageValue → Told → StoreState → (failures : ℕ) → RigState → RowWork
copied_rows c i told store failures rig = record {
  width = share c (length i.inputs);
  told = told;
  store = store;
  are = λ vectors rows. AreRowsOf rig i (all_repeated c vectors) (all_repeated c rows);
  session = λ vectors rows. IsSession rig i (all_repeated c vectors) (all_repeated c rows);
  differs = λ vectors rows. DiffersBehind c told i rig vectors rows;
  lost = Rose failures rig.failures;
  lacks = λ count. most_rows ≤ count;
}

-- the rows of an image
abbrev pub image_rows : ImageValue → Told → StoreState → (failures : ℕ) → RigState → RowWork
image_rows i told store failures rig = copied_rows One i told store failures rig

-- ---- an image is loaded, and all memory for its rows is taken

-- where the work begins: the image, the file of vectors, and of what came before the files that were read, the last first, the
-- store as the command began, and how many loads were made
pub record RowsBegin : Type 0 where
  pub image : ImageValue
  pub vectors : List ℕ
  pub files : List (List ℕ)
  pub begun : StoreState
  pub before : ℕ

-- it is one load more; or the rig fails or memory is lacking, with one load more or none
abbrev pub loads : (before : ℕ) → RigState → Step (Unit {0})
loads before rig = record {
  stops = λ refusal. FailsOnRig refusal × LoadsOnce before rig.loads;
  gives = λ _. rig.loads ≡ next_count before;
}

-- while the line `outputs` is written the vectors were opened and none was read, and the session has no cycles
abbrev pub IsAtOutputs : ImageValue → (vectors : List ℕ) → Around → Type 0
IsAtOutputs i vectors new = (new.store.current ≡ Some (record { name = vectors; at = 0 })) × IsSession new.rig i [] []

-- the vectors are opened, and the rows are written behind the line `outputs`
abbrev pub loaded_course : RowWork → RowsBegin → (new : Around) → Course
loaded_course w b new =
    after (opens w.told) (StandsIn (b.vectors ∷ b.files) b.begun new.store) (λ _.
    write outputs_line (IsAtOutputs b.image b.vectors new) (all_rows w))

-- the image is loaded, and its rows are written
abbrev pub image_course : RowWork → RowsBegin → (new : Around) → Course
image_course w b new = after (loads b.before new.rig) (StandsIn b.files b.begun new.store) (λ _. loaded_course w b new)
