-- What the command `go` is.
use Rattle.std.specs.Prelude.{◌≡◌, ◌⊎◌, ℕ, ◌≤◌, true, List, [], ◌∷◌, length}
use Rattle.base_io.specs.Told.{Told}
use Rattle.machine_shape.specs.{declared.Shape.Shape, Limits.is_small}
use Rattle.machine_meaning.specs.Faults.{Faults}
use Rattle.rig.specs.Rig.{RigState, Explains}
use Rattle.machine_text.specs.Machine.{IsMachine}
use Rattle.design_netlist.specs.{declared.netlist_data.NetlistData.NetlistData, Rows.AreRows}
use Rattle.design_blif.specs.Designs.{IsDesign}
use Rattle.map_network.specs.{declared.network.Network.Network, Plain.IsPlainNetwork}
use Rattle.place_plan.specs.Enough.{HasStandingRoom}
use Rattle.cmd_steps.specs.Vocabulary.{AreRightVectors, vectors_at, Around, Course, after, Unloaded, machine_attached, IsRightFile}
use Rattle.cmd_steps.specs.Vocabulary.{reads_machine, reads_design, AsksMachine, Job}
use Rattle.cmd_steps.specs.declared.design_file.DesignFile.TheVariants.{Design}
use Rattle.place_design.specs.Laying.{lays, HasRoom, LacksRoom}
use Rattle.run_image.specs.{Rows.most_rows, Laid.Laid}
use Rattle.run_image.specs.{declared.copies.Copies.TheVariants.One, Runs.RunBegin, Runs.machine_listed, Runs.IfList, Runs.HasOutputs}

-- the design as what is laid: by its plain network, and with its rows
abbrev pub design_laid : NetlistData → Laid
design_laid draft =
    record { lays = λ d. lays d draft; copies = One; width = length draft.inputs; rows = λ vectors rows. AreRows draft vectors rows }

abbrev pub go_begin : Around → (machine design vectors : List ℕ) → RunBegin
go_begin old machine design vectors =
    record { begun = old.store; failures = old.rig.failures; files = design ∷ machine ∷ []; vectors = vectors }

-- The design is read, and the machine is listed
abbrev pub design_read : (machine design vectors : List ℕ) → Around → Around → Shape → Course
design_read machine design vectors old new m =
    after (reads_design Design (old.store.contents design)) (Unloaded (design ∷ machine ∷ []) old new)
    (λ draft. machine_listed (design_laid draft) m old.rig.loads (go_begin old machine design vectors) new)

-- The machine is read and attached, and the design is read; no load is made before that. The machine's defects are listed, with few
-- loads, and the list is written. The design is laid on what the list leaves free, and its rows are written. One load follows
abbrev pub go_course : (machine name design vectors : List ℕ) → Around → Around → Course
go_course machine name design vectors old new = machine_attached machine name old new (design_read machine design vectors old new)

-- what is told of the files
pub record GoFiles : Type 0 where
  pub machine : Told
  pub design : Told
  pub vectors : Told

abbrev pub go_files : Around → (machine design vectors : List ℕ) → GoFiles
go_files old machine design vectors =
    record { machine = old.store.contents machine; design = old.store.contents design; vectors = old.store.contents vectors }

-- all files are told and right
pub record AreGoTexts (t : GoFiles) : Type 0 where
  pub shape : Shape
  pub draft : NetlistData
  pub machine : IsRightFile t.machine (λ bytes. IsMachine bytes shape.counts)
  pub design : IsRightFile t.design (λ bytes. IsDesign bytes draft)
  pub vectors : AreRightVectors t.vectors (length draft.inputs)

-- some faults explain what was read under which as many parts stand as the plain network has
pub record HasPartsFor (rig : RigState) (m : Shape) (draft : NetlistData) : Type 0 where
  pub faults : Faults
  pub explained : Explains faults rig
  pub network : Network
  pub plain : IsPlainNetwork draft network
  pub standing : HasStandingRoom m faults network

-- There is room on the list that stands there, or for certain on the machine
pub record GoRight (t : GoFiles) (rig : RigState) (front : List ℕ) : Type 0 where
  pub texts : AreGoTexts t
  pub room : IfList texts.shape front (λ d. HasRoom d texts.draft) ⊎ HasPartsFor rig texts.shape texts.draft

-- there is no room on the list that stands there, and the machine is small
pub record GoShort (t : GoFiles) (front : List ℕ) : Type 0 where
  pub texts : AreGoTexts t
  pub small : is_small texts.shape.counts ≡ true
  pub room : IfList texts.shape front (λ d. LacksRoom d texts.draft)

-- there are no more vectors than the rig was asked to have room for
pub record GoFew (t : GoFiles) : Type 0 where
  pub texts : AreGoTexts t
  pub few : length (vectors_at (length texts.draft.inputs) texts.vectors.bytes) ≤ most_rows

abbrev pub go_job : (machine name design vectors : List ℕ) → Job
go_job machine name design vectors = record {
  files = machine ∷ design ∷ vectors ∷ [];
  asks = λ old new. AsksMachine (reads_machine (old.store.contents machine)).gives name old.rig.machine.asked new.rig.machine.asked;
  course = go_course machine name design vectors;
  right = λ old new front. GoRight (go_files old machine design vectors) new.rig front;
  short = λ old new front. GoShort (go_files old machine design vectors) front;
  few = λ old new. GoFew (go_files old machine design vectors);
  has_begun = λ old new text. HasOutputs (reads_machine (old.store.contents machine)).gives text;
}
