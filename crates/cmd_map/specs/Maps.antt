-- What the mapper does: for a design, and for a design and a machine.
use Rattle.std.specs.Prelude.{◌≡◌, ℕ, List, [], ◌∷◌}
use Rattle.base_io.specs.Vocabulary.{Told, StoreState}
use Rattle.machine_defects.specs.Lists.{DefectList}
use Rattle.design_netlist.specs.declared.netlist_data.NetlistData.{NetlistData}
use Rattle.design_blif.specs.Designs.{IsDesign}
use Rattle.map_text.specs.{Remapped.MayStandFor, declared.text.Remapped.Remapped}
use Rattle.place_design.specs.Laying.{NotLaid, HasRoom}
use Rattle.cmd_steps.specs.Vocabulary.{Around, ReadFile, StandsAmong, StandsIn, plain_file, Course, Step, after, write, done, listed_course, IsRightFile, reads_text}
use Rattle.cmd_steps.specs.Vocabulary.{Job, quiet}
use Rattle.cmd_steps.specs.declared.{design.DesignText.DesignText, design_file.DesignFile.TheVariants.Design, refusal.Refusal.Refusal}
use Rattle.cmd_steps.specs.declared.refusal.Refusal.TheVariants as refused
use Rattle.cmd_compile.specs.Compile.{compile_files, CompileRight}

-- ---- the steps

-- memory alone may be wanting
abbrev pub NotMapped : Refusal → Type 0
NotMapped refused.Memory = Unit {0}
NotMapped refusal = ⊥

-- a design is remapped
abbrev pub maps : DesignText → Step Remapped
maps read = record { stops = NotMapped; gives = MayStandFor read.netlist read.text }

-- and there is room for what it becomes. Room is wanting only where it is for the design as given
abbrev pub maps_within : DefectList → DesignText → Step Remapped
maps_within d read =
    record { stops = NotLaid d read.netlist; gives = λ r. MayStandFor read.netlist read.text r × HasRoom d r.netlist }

-- ---- the courses

-- a text is written at one go
abbrev pub text_written : (files : List ReadFile) → StoreState → StoreState → Remapped → Course
text_written files old new r = write r.text (StandsAmong files old new) (done (StandsAmong files old new))

-- the design is remapped, and the text written
abbrev pub design_mapped : (files : List ReadFile) → StoreState → StoreState → DesignText → Course
design_mapped files old new read = after (maps read) (StandsAmong files old new) (text_written files old new)

-- the same, with room on a list
abbrev pub design_fitted : (files : List ReadFile) → StoreState → StoreState → DefectList → DesignText → Course
design_fitted files old new d read = after (maps_within d read) (StandsAmong files old new) (text_written files old new)

-- the design is read and remapped
abbrev pub map_course : (design : List ℕ) → StoreState → StoreState → Course
map_course design old new =
    after (reads_text Design (old.contents design)) (StandsIn (design ∷ []) old new) (design_mapped (plain_file design ∷ []) old new)

-- the design is read and remapped with room on a list. These files were read before, the last first
abbrev pub text_fitted : (design : List ℕ) → (files : List ReadFile) → StoreState → StoreState → DefectList → Course
text_fitted design files old new d =
    after (reads_text Design (old.contents design)) (StandsAmong (plain_file design ∷ files) old new)
    (design_fitted (plain_file design ∷ files) old new d)

-- the machine is read, then the list and the design, which is remapped
abbrev pub fit_course : (machine defects design : List ℕ) → StoreState → StoreState → Course
fit_course machine defects design = listed_course (λ told m. reads_text Design told) design_fitted machine defects design

-- ---- the jobs

-- the design's file is told and right
pub record MapRight (design : Told) : Type 0 where
  pub draft : NetlistData
  pub file : IsRightFile design (λ bytes. IsDesign bytes draft)

-- The rig isn't asked
abbrev pub HasSameRig : Around → Around → Type 0
HasSameRig old new = new.rig ≡ old.rig

abbrev pub map_job : (design : List ℕ) → Job
map_job design =
    quiet (design ∷ []) HasSameRig (λ old new. map_course design old.store new.store) (λ old. MapRight (old.store.contents design))

-- all is right where it is for `compile` with the same names
abbrev pub fit_job : (machine defects design : List ℕ) → Job
fit_job machine defects design =
    quiet (machine ∷ defects ∷ design ∷ []) HasSameRig (λ old new. fit_course machine defects design old.store new.store)
    (λ old. CompileRight (compile_files old.store machine defects design))
