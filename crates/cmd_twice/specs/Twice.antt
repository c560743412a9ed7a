-- What the command `twice` is.
use Rattle.std.specs.Prelude.{◌≡◌, ◌⊎◌, ℕ, ◌≤◌, Bool, List, [], ◌∷◌, ◌++◌, map, length, Some}
use Rattle.std.specs.List.{All}
use Rattle.base_io.specs.Told.{Told}
use Rattle.machine_shape.specs.declared.Shape.{Shape}
use Rattle.machine_meaning.specs.Faults.{Faults}
use Rattle.machine_text.specs.Machine.{IsMachine}
use Rattle.machine_defects.specs.Lists.{DefectList}
use Rattle.design_netlist.specs.{declared.netlist_data.NetlistData.NetlistData, Rows.HasOneRows}
use Rattle.design_blif.specs.Designs.{IsDesign}
use Rattle.machine_image.specs.Images.{ImageValue, drive_of, image_row}
use Rattle.rig.specs.Rig.{RigState, Explains, config_of, cycles_of, drives_of, readings_of}
use Rattle.cmd_steps.specs.Vocabulary.{AreRightVectors, vectors_at, Around, Course, Step, after, Unloaded, machine_attached, IsRightFile}
use Rattle.cmd_steps.specs.Vocabulary.{reads_machine, reads_design, AsksMachine, Job}
use Rattle.cmd_steps.specs.declared.design_file.DesignFile.TheVariants.{Design}
use Rattle.place_plan.specs.Enough.{HasStandingRoom}
use Rattle.place_both.specs.Both.{AreBothRows, BothHaveRoom, BothLackRoom, IsImageForBoth, NotBothLaid, joint_of}
use Rattle.run_image.specs.{Copying.all_repeated, Copying.share, Copying.AreEqualShares, Copying.HalvesDiffer, Rows.most_rows, Laid.Laid}
use Rattle.run_image.specs.{Runs.RunBegin, Runs.machine_listed, Runs.IfList, Runs.HasOutputs, declared.copies.Copies.TheVariants.Two}

-- ---- the image of two copies

-- It is an image of two designs that are both this one: so the copies share no wire, each runs as it does alone, and each is right for
-- the design. They have as many pins each, and the design has exactly one list of rows for each list of vectors
pub record IsImageForTwice (d : DefectList) (draft : NetlistData) (i : ImageValue) : Type 0 where
  pub both : IsImageForBoth d draft draft i
  pub room : BothHaveRoom d draft draft
  pub shares : AreEqualShares Two i
  pub width : share Two (length i.inputs) ≡ length draft.inputs
  pub one : (vectors : List (List Bool)) → All (λ v. length v ≡ length draft.inputs) vectors → HasOneRows draft vectors

-- there is no room for it exactly where there is none for the design and itself
abbrev pub lays_twice : DefectList → NetlistData → Step ImageValue
lays_twice d draft = record { stops = NotBothLaid d draft draft; gives = λ i. IsImageForTwice d draft i }

-- the design, twice, as what is laid. A vector has its inputs, and is driven for both copies
abbrev pub twice_laid : NetlistData → Laid
twice_laid draft = record {
  lays = λ d. lays_twice d draft;
  copies = Two;
  width = length draft.inputs;
  rows = λ vectors rows. AreBothRows draft draft vectors rows;
}

-- ---- the course

abbrev pub twice_begin : Around → (machine design vectors : List ℕ) → RunBegin
twice_begin old machine design vectors =
    record { begun = old.store; failures = old.rig.failures; files = design ∷ machine ∷ []; vectors = vectors }

-- The design is read, and the machine is listed
abbrev pub design_read : (machine design vectors : List ℕ) → Around → Around → Shape → Course
design_read machine design vectors old new m =
    after (reads_design Design (old.store.contents design)) (Unloaded (design ∷ machine ∷ []) old new)
    (λ draft. machine_listed (twice_laid draft) m old.rig.loads (twice_begin old machine design vectors) new)

-- The machine is read and attached, and the design is read; no load is made before that. The machine's defects are listed, with few
-- loads, and the list is written. The design is laid twice on what the list leaves free, both copies are driven with each vector, and
-- a row is written for what both read, up to the first reading that differs. One load follows
abbrev pub twice_course : (machine name design vectors : List ℕ) → Around → Around → Course
twice_course machine name design vectors old new = machine_attached machine name old new (design_read machine design vectors old new)

-- ---- the job

-- what is told of the files
pub record TwiceFiles : Type 0 where
  pub machine : Told
  pub design : Told
  pub vectors : Told

abbrev pub twice_files : Around → (machine design vectors : List ℕ) → TwiceFiles
twice_files old machine design vectors =
    record { machine = old.store.contents machine; design = old.store.contents design; vectors = old.store.contents vectors }

-- all files are told and right
pub record AreTwiceTexts (t : TwiceFiles) : Type 0 where
  pub shape : Shape
  pub draft : NetlistData
  pub machine : IsRightFile t.machine (λ bytes. IsMachine bytes shape.counts)
  pub design : IsRightFile t.design (λ bytes. IsDesign bytes draft)
  pub vectors : AreRightVectors t.vectors (length draft.inputs)

-- where the session is of the image, and has driven these vectors, no reading has halves at the output pins that differ
abbrev pub ReadsAlike : ImageValue → RigState → Type 0
ReadsAlike i rig = (vectors front rest : List (List Bool)) (reading : List Bool) → config_of rig ≡ Some i.config →
    drives_of (cycles_of rig) ≡ map (drive_of i) (all_repeated Two vectors) →
    map (image_row i) (readings_of (cycles_of rig)) ≡ front ++ reading ∷ rest → HalvesDiffer reading → ⊥

-- there is room on the list that stands there, and the copies read alike
pub record HasRoomAlike (m : Shape) (draft : NetlistData) (rig : RigState) (front : List ℕ) : Type 0 where
  pub room : IfList m front (λ d. BothHaveRoom d draft draft)
  pub alike : IfList m front (λ d. (i : ImageValue) → IsImageForTwice d draft i → ReadsAlike i rig)

-- some faults explain all that was read of the machine, so that the copies read alike; and under these as many parts stand as the
-- joint network of the plain network and itself has
pub record HasPartsForTwo (rig : RigState) (m : Shape) (draft : NetlistData) : Type 0 where
  pub faults : Faults
  pub explained : Explains faults rig
  pub standing : HasStandingRoom m faults (joint_of draft draft)

-- The one or the other
pub record TwiceRight (t : TwiceFiles) (rig : RigState) (front : List ℕ) : Type 0 where
  pub texts : AreTwiceTexts t
  pub room : HasRoomAlike texts.shape texts.draft rig front ⊎ HasPartsForTwo rig texts.shape texts.draft

-- there is no room on it
pub record TwiceShort (t : TwiceFiles) (front : List ℕ) : Type 0 where
  pub texts : AreTwiceTexts t
  pub room : IfList texts.shape front (λ d. BothLackRoom d texts.draft texts.draft)

-- there are no more vectors than the rig was asked to have room for
pub record TwiceFew (t : TwiceFiles) : Type 0 where
  pub texts : AreTwiceTexts t
  pub few : length (vectors_at (length texts.draft.inputs) texts.vectors.bytes) ≤ most_rows

abbrev pub twice_job : (machine name design vectors : List ℕ) → Job
twice_job machine name design vectors = record {
  files = machine ∷ design ∷ vectors ∷ [];
  asks = λ old new. AsksMachine (reads_machine (old.store.contents machine)).gives name old.rig.machine.asked new.rig.machine.asked;
  course = twice_course machine name design vectors;
  right = λ old new front. TwiceRight (twice_files old machine design vectors) new.rig front;
  short = λ old new front. TwiceShort (twice_files old machine design vectors) front;
  few = λ old new. TwiceFew (twice_files old machine design vectors);
  has_begun = λ old new text. HasOutputs (reads_machine (old.store.contents machine)).gives text;
}
