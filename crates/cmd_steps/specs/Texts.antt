-- The steps that read a file into a value, and those that attach a machine and open the vectors.
use Rattle.std.specs.Prelude.{◌≡◌, ◌⊎◌, ℕ, ◌≤◌, List, ◌∷◌, [], ◌++◌, length, Some}
use Rattle.base_io.specs.Vocabulary.{next_count, Told, IfTold, IsPresent, holds}
use Rattle.machine_shape.specs.{declared.Counts.Counts, declared.Shape.Shape, Vocabulary.most_text}
use Rattle.machine_text.specs.{Machine.IsMachine, Faults.IsFault}
use Rattle.machine_faults.specs.declared.kind.FaultsFault.TheVariants.{At}
use Rattle.machine_defects.specs.Vocabulary.{DefectList, IsText, IsFaultAt}
use Rattle.design_netlist.specs.declared.{netlist_data.NetlistData.NetlistData, fault.DesignKind.DesignKind}
use Rattle.design_blif.specs.Designs.{IsDesign, IsDesignFault}
use Rattle.machine_image.specs.Images.{ImageValue, IsImage, image_bytes, IsImageFault, Reads}
use Rattle.rig.specs.Rig.{RigState, Asked, IsDetached, RefusesText}
use Rattle.base_text.specs.Size.{most_bytes}
use Rattle.cmd_steps.specs.{Courses.Step, declared.refusal.Refusal.Refusal, declared.refusal.Stop.Stop}
use Rattle.cmd_steps.specs.declared.{design_file.DesignFile.DesignFile, design.DesignText.DesignText, refusal.Stop.TheVariants.Refused}
use Rattle.cmd_steps.specs.declared.refusal.Refusal.TheVariants as refused

-- The file is told, is no longer than a text may be, and says this
pub record IsRightFile (told : Told) (Says : List ℕ → Type 0) : Type 0 where
  pub bytes : List ℕ
  pub is_told : told ≡ holds bytes
  pub says : Says bytes
  pub within : length bytes ≤ most_bytes

-- and so is a list of this machine's defects
pub record IsRightList (told : Told) (m : Shape) (Says : List ℕ → Type 0) : Type 0 where
  pub bytes : List ℕ
  pub is_told : told ≡ holds bytes
  pub says : Says bytes
  pub within : length bytes ≤ most_text m

-- ---- machines

-- the bytes are the text of a machine of this shape, and of no other
pub record IsMachineText (bytes : List ℕ) (m : Shape) : Type 0 where
  pub text : IsMachine bytes m.counts
  pub within : length bytes ≤ most_bytes
  pub only : (c : Counts) → IsMachine bytes c → c ≡ m.counts

-- the bytes are the text of no machine
abbrev pub IsNoMachine : List ℕ → Type 0
IsNoMachine bytes = (c : Counts) → IsMachine bytes c → length bytes ≤ most_bytes → ⊥

abbrev pub NoMachine : Told → Refusal → Type 0
NoMachine told (refused.Machine line kind) = IfTold told (λ bytes. IsFault bytes line kind × IsNoMachine bytes)
NoMachine told refused.Store = Unit {0}
NoMachine told refused.Memory = Unit {0}
NoMachine told refusal = ⊥

abbrev pub reads_machine : Told → Step Shape
reads_machine told = record { stops = NoMachine told; gives = λ m. IfTold told (λ bytes. IsMachineText bytes m) }

-- ---- lists of a machine's defects

-- the bytes are the text of this list of the machine's defects, and of no other
pub record IsDefectsText (m : Shape) (bytes : List ℕ) (d : DefectList) : Type 0 where
  pub text : IsText m bytes d
  pub within : length bytes ≤ most_text m
  pub only : (other : DefectList) → IsText m bytes other → other ≡ d

-- the bytes are the text of no list of the machine's defects
abbrev pub IsNoDefects : Shape → List ℕ → Type 0
IsNoDefects m bytes = (d : DefectList) → IsText m bytes d → length bytes ≤ most_text m → ⊥

abbrev pub NoDefects : Told → Shape → Refusal → Type 0
NoDefects told m (refused.Defects line kind) = IfTold told (λ bytes. IsFaultAt m bytes line kind × IsNoDefects m bytes)
NoDefects told m refused.Store = Unit {0}
NoDefects told m refused.Memory = Unit {0}
NoDefects told m refusal = ⊥

abbrev pub reads_defects : Told → Shape → Step DefectList
reads_defects told m = record { stops = NoDefects told m; gives = λ d. (d.shape ≡ m) × IfTold told (λ bytes. IsDefectsText m bytes d) }

-- ---- designs

-- the bytes are the text of this design, and of no other
pub record IsDesignText (bytes : List ℕ) (draft : NetlistData) : Type 0 where
  pub text : IsDesign bytes draft
  pub within : length bytes ≤ most_bytes
  pub only : (other : NetlistData) → IsDesign bytes other → other ≡ draft

-- the bytes are the text of no design
abbrev pub IsNoDesign : List ℕ → Type 0
IsNoDesign bytes = (draft : NetlistData) → IsDesign bytes draft → length bytes ≤ most_bytes → ⊥

abbrev pub NoDesign : DesignFile → Told → Refusal → Type 0
NoDesign file told (refused.Design place) =
    (place.file ≡ file) × IfTold told (λ bytes. IsDesignFault bytes place.line place.kind × IsNoDesign bytes)
NoDesign file told refused.Store = Unit {0}
NoDesign file told refused.Memory = Unit {0}
NoDesign file told refusal = ⊥

abbrev pub reads_design : DesignFile → Told → Step NetlistData
reads_design file told = record { stops = NoDesign file told; gives = λ draft. IfTold told (λ bytes. IsDesignText bytes draft) }

-- the bytes are those of the file, and the text of this design, and of no other
pub record IsTextRead (told : Told) (read : DesignText) : Type 0 where
  pub design : IsDesignText read.text read.netlist
  pub file : IfTold told (λ bytes. read.text ≡ bytes)

-- a design that is read with its bytes
abbrev pub reads_text : DesignFile → Told → Step DesignText
reads_text file told = record { stops = NoDesign file told; gives = IsTextRead told }

-- ---- images of a machine

-- the bytes are the one spelling of this image, which is one of the machine
pub record IsImageText (m : Shape) (bytes : List ℕ) (i : ImageValue) : Type 0 where
  pub image : IsImage i
  pub shape : i.config.shape ≡ m
  pub text : image_bytes i ≡ bytes

-- the bytes are those of no image of the machine
abbrev pub IsNoImage : Shape → List ℕ → Type 0
IsNoImage m bytes = (i : ImageValue) → IsImage i → i.config.shape ≡ m → image_bytes i ≡ bytes → length bytes ≤ most_bytes → ⊥

abbrev pub NoImage : Told → Shape → Refusal → Type 0
NoImage told m (refused.Image line kind) = IfTold told (λ bytes. IsImageFault m bytes line kind × IsNoImage m bytes)
NoImage told m refused.Store = Unit {0}
NoImage told m refused.Memory = Unit {0}
NoImage told m refusal = ⊥

abbrev pub reads_image : Told → Shape → Step ImageValue
reads_image told m =
    record { stops = NoImage told m; gives = λ i. (i.config.shape ≡ m) × IsImage i × IfTold told (λ bytes. Reads m bytes i) }

-- ---- the machine is attached

-- nothing is attached: the rig refuses its text of faults, or fails, or memory is lacking
abbrev pub NotAttached : Asked → RigState → RigState → Refusal → Type 0
NotAttached machine old new (refused.Faults line kind) =
    RefusesText (At line kind) machine.shape (old.machine.texts machine.name) old.machine.refused new.machine.refused × IsDetached new
NotAttached machine old new refused.Rig = IsDetached new
NotAttached machine old new refused.Memory = IsDetached new
NotAttached machine old new refusal = ⊥

-- it is attached, and so it stays
abbrev pub attaches : Asked → RigState → RigState → Step (Unit {0})
attaches machine old new = record { stops = NotAttached machine old new; gives = λ _. new.machine.attached ≡ Some machine }

-- the machine was asked for, or memory was lacking before that
abbrev pub MayAsk : Asked → List Asked → List Asked → Type 0
MayAsk machine old new = (new ≡ old) ⊎ (new ≡ old ++ machine ∷ [])

-- ---- the machine that is attached does something

-- it doesn't: the rig fails, or memory is lacking
abbrev pub FailsOnRig : Refusal → Type 0
FailsOnRig refused.Rig = Unit {0}
FailsOnRig refused.Memory = Unit {0}
FailsOnRig refusal = ⊥

-- ---- memory is taken, and the file of vectors is opened

abbrev pub NotOpened : Refusal → Type 0
NotOpened refused.Store = Unit {0}
NotOpened refused.Memory = Unit {0}
NotOpened refusal = ⊥

abbrev pub opens : Told → Step (Unit {0})
opens told = record { stops = NotOpened; gives = λ _. IsPresent told }

-- ---- what is asked of the rig

-- no machine was asked for, or one of such a shape under this name
abbrev pub AsksMachine : (is_shape : Shape → Type 0) → (name : List ℕ) → List Asked → List Asked → Type 0
AsksMachine is_shape name old new =
    (new ≡ old) ⊎ ((m : Shape) × is_shape m × (new ≡ old ++ record { shape = m; name = name } ∷ []))

-- no more than one load
abbrev pub LoadsOnce : (old new : ℕ) → Type 0
LoadsOnce old new = (new ≡ old) ⊎ (new ≡ next_count old)

-- a fault of a design is refused, or there was no memory for its line
abbrev pub IsRefusedAt : DesignFile → ℕ → DesignKind → Stop → Type 0
IsRefusedAt file line kind (Refused (refused.Design place)) = place ≡ record { file = file; line = line; kind = kind }
IsRefusedAt file line kind (Refused refused.Memory) = Unit {0}
IsRefusedAt file line kind stop = ⊥
