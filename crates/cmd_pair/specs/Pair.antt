-- What the command `pair` is.
use Rattle.std.specs.Prelude.{◌⊎◌, ℕ, ◌+◌, ◌≤◌, List, [], ◌∷◌, length}
use Rattle.base_io.specs.Told.{Told}
use Rattle.machine_shape.specs.declared.Shape.{Shape}
use Rattle.machine_meaning.specs.Faults.{Faults}
use Rattle.rig.specs.Rig.{RigState, Explains}
use Rattle.machine_text.specs.Machine.{IsMachine}
use Rattle.design_netlist.specs.declared.netlist_data.NetlistData.{NetlistData}
use Rattle.design_blif.specs.Designs.{IsDesign}
use Rattle.cmd_steps.specs.Vocabulary.{AreRightVectors, vectors_at, Around, Course, after, Unloaded, machine_attached, IsRightFile}
use Rattle.cmd_steps.specs.Vocabulary.{reads_machine, reads_design, AsksMachine, Job}
use Rattle.cmd_steps.specs.declared.design_file.DesignFile.TheVariants.{First, Second}
use Rattle.run_image.specs.{Rows.most_rows, Runs.RunBegin, Runs.machine_listed, Runs.IfList, Runs.HasOutputs}
use Rattle.place_plan.specs.Enough.{HasStandingRoom}
use Rattle.place_both.specs.Both.{BothHaveRoom, BothLackRoom, joint_of}
use Rattle.cmd_pair.specs.Both.{both_laid}

abbrev pub pair_begin : Around → (machine first second vectors : List ℕ) → RunBegin
pair_begin old machine first second vectors =
    record { begun = old.store; failures = old.rig.failures; files = second ∷ first ∷ machine ∷ []; vectors = vectors }

-- The second design is read, and the machine is listed
abbrev pub second_read : (machine first second vectors : List ℕ) → Around → Around → Shape → NetlistData → Course
second_read machine first second vectors old new m one =
    after (reads_design Second (old.store.contents second)) (Unloaded (second ∷ first ∷ machine ∷ []) old new)
    (λ other. machine_listed (both_laid one other) m old.rig.loads (pair_begin old machine first second vectors) new)

-- The first design is read, and then the second
abbrev pub designs_read : (machine first second vectors : List ℕ) → Around → Around → Shape → Course
designs_read machine first second vectors old new m =
    after (reads_design First (old.store.contents first)) (Unloaded (first ∷ machine ∷ []) old new)
    (second_read machine first second vectors old new m)

-- The machine is read and attached, and the two designs are read; no load is made before that. The machine's defects are listed, with
-- few loads, and the list is written. Both designs are laid on what the list leaves free, and their rows are written side by side. One
-- load follows
abbrev pub pair_course : (machine name first second vectors : List ℕ) → Around → Around → Course
pair_course machine name first second vectors old new =
    machine_attached machine name old new (designs_read machine first second vectors old new)

-- what is told of the files
pub record PairFiles : Type 0 where
  pub machine : Told
  pub first : Told
  pub second : Told
  pub vectors : Told

abbrev pub pair_files : Around → (machine first second vectors : List ℕ) → PairFiles
pair_files old machine first second vectors = record {
  machine = old.store.contents machine;
  first = old.store.contents first;
  second = old.store.contents second;
  vectors = old.store.contents vectors;
}

-- all files are told and right
pub record ArePairTexts (t : PairFiles) : Type 0 where
  pub shape : Shape
  pub first_draft : NetlistData
  pub second_draft : NetlistData
  pub machine : IsRightFile t.machine (λ bytes. IsMachine bytes shape.counts)
  pub first : IsRightFile t.first (λ bytes. IsDesign bytes first_draft)
  pub second : IsRightFile t.second (λ bytes. IsDesign bytes second_draft)
  pub vectors : AreRightVectors t.vectors (length first_draft.inputs + length second_draft.inputs)

-- some faults explain all that was read of the machine, and under these as many parts stand as the joint network of the two plain
-- networks has
pub record HasPartsForBoth (rig : RigState) (m : Shape) (first second : NetlistData) : Type 0 where
  pub faults : Faults
  pub explained : Explains faults rig
  pub standing : HasStandingRoom m faults (joint_of first second)

-- There is room on the list that stands there, or for certain on the machine
pub record PairRight (t : PairFiles) (rig : RigState) (front : List ℕ) : Type 0 where
  pub texts : ArePairTexts t
  pub room : IfList texts.shape front (λ d. BothHaveRoom d texts.first_draft texts.second_draft)
      ⊎ HasPartsForBoth rig texts.shape texts.first_draft texts.second_draft

-- there is no room on it
pub record PairShort (t : PairFiles) (front : List ℕ) : Type 0 where
  pub texts : ArePairTexts t
  pub room : IfList texts.shape front (λ d. BothLackRoom d texts.first_draft texts.second_draft)

-- there are no more vectors than the rig was asked to have room for
pub record PairFew (t : PairFiles) : Type 0 where
  pub texts : ArePairTexts t
  pub few : length (vectors_at (length texts.first_draft.inputs + length texts.second_draft.inputs) texts.vectors.bytes) ≤ most_rows

abbrev pub pair_job : (machine name first second vectors : List ℕ) → Job
pair_job machine name first second vectors = record {
  files = machine ∷ first ∷ second ∷ vectors ∷ [];
  asks = λ old new. AsksMachine (reads_machine (old.store.contents machine)).gives name old.rig.machine.asked new.rig.machine.asked;
  course = pair_course machine name first second vectors;
  right = λ old new front. PairRight (pair_files old machine first second vectors) new.rig front;
  short = λ old new front. PairShort (pair_files old machine first second vectors) front;
  few = λ old new. PairFew (pair_files old machine first second vectors);
  has_begun = λ old new text. HasOutputs (reads_machine (old.store.contents machine)).gives text;
}
