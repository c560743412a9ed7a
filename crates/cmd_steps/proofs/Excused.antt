-- Steps that read what is right don't refuse it, and give nothing else.
use Rattle.cmd_steps.proofs.Vocabulary.{◌≡◌, ℕ, ◌≤◌, Bool, List, length, None, arith, holds, Shape, most_text, IsMachine, DefectList}
use Rattle.cmd_steps.proofs.Vocabulary.{IsText, NetlistData, IsDesign, ImageValue, IsImage, image_bytes, Asked, most_bytes, DesignFile}
use Rattle.cmd_steps.proofs.Vocabulary.{Refusal}
use Rattle.machine_shape.specs.declared.Counts.{Counts}
use Rattle.cmd_steps.specs.Vocabulary.{says_at, Around, RowWork, all_rows, ends, refuses, writes, IsExcused, EndsWell, Leads, NoMachine, NoDefects, NoDesign, NoImage, NotAttached, FailsOnRig, NotOpened}
use Rattle.cmd_steps.specs.declared.refusal.Refusal.TheVariants.{Machine, Faults, Defects, Image, Design, Vectors, Rig, Store, Memory, Differ}

module _ (old new : Around) where
  pub machine-excused : (bytes : List ℕ) (c : Counts) → IsMachine bytes c → length bytes ≤ most_bytes → (refusal : Refusal) → NoMachine (holds bytes) refusal → IsExcused refusal old new
  machine-excused bytes c is within (Machine line kind) stops = absurd (stops.1 c is within)
  machine-excused bytes c is within Store stops = tt
  machine-excused bytes c is within Memory stops = tt
  machine-excused bytes c is within refusal stops = absurd stops

  pub defects-excused : (bytes : List ℕ) (m : Shape) (d : DefectList) → IsText m bytes d → length bytes ≤ most_text m → (refusal : Refusal) → NoDefects (holds bytes) m refusal → IsExcused refusal old new
  defects-excused bytes m d is within (Defects line kind) stops = absurd (stops.1 d is within)
  defects-excused bytes m d is within Store stops = tt
  defects-excused bytes m d is within Memory stops = tt
  defects-excused bytes m d is within refusal stops = absurd stops

  pub design-excused : (file : DesignFile) (bytes : List ℕ) (draft : NetlistData) → IsDesign bytes draft → length bytes ≤ most_bytes → (refusal : Refusal) → NoDesign file (holds bytes) refusal → IsExcused refusal old new
  design-excused file bytes draft is within (Design place) stops = absurd (stops.1.1 draft is within)
  design-excused file bytes draft is within Store stops = tt
  design-excused file bytes draft is within Memory stops = tt
  design-excused file bytes draft is within refusal stops = absurd stops

  pub image-excused : (bytes : List ℕ) (m : Shape) (i : ImageValue) → IsImage i → i.config.shape ≡ m → image_bytes i ≡ bytes → length bytes ≤ most_bytes → (refusal : Refusal) → NoImage (holds bytes) m refusal → IsExcused refusal old new
  image-excused bytes m i right shape is within (Image line kind) stops = absurd (stops.1 i right shape is within)
  image-excused bytes m i right shape is within Store stops = tt
  image-excused bytes m i right shape is within Memory stops = tt
  image-excused bytes m i right shape is within refusal stops = absurd stops

  pub attach-excused : (machine : Asked) (refusal : Refusal) → NotAttached machine old.rig new.rig refusal → IsExcused refusal old new
  attach-excused machine (Faults line kind) stops = rw stops.0.0 (omega arith)
  attach-excused machine Rig stops = tt
  attach-excused machine Memory stops = tt
  attach-excused machine refusal stops = absurd stops

  pub rig-excused : (refusal : Refusal) → FailsOnRig refusal → IsExcused refusal old new
  rig-excused Rig stops = tt
  rig-excused Memory stops = tt
  rig-excused refusal stops = absurd stops

  pub open-excused : (refusal : Refusal) → NotOpened refusal → IsExcused refusal old new
  open-excused Store stops = tt
  open-excused Memory stops = tt
  open-excused refusal stops = absurd stops

  -- vectors without a fault, for copies that never differ
  pub rows-well : (w : RowWork) (bytes : List ℕ) (text_is : List ℕ → Type 0) → w.told ≡ holds bytes → (says_at w.width bytes).fault ≡ None → ((vectors rows : List (List Bool)) → w.differs vectors rows → ⊥) → Leads text_is (all_rows w) (EndsWell old new)
  rows-well w bytes text_is told none alike text ends is h = tt
  rows-well w bytes text_is told none alike text (writes line) is h = tt
  rows-well w bytes text_is told none alike text (refuses (Vectors line kind)) is h =
      let some = rw told at h.1 in
      absurd (let fault = some.1.is in cc)
  rows-well w bytes text_is told none alike text (refuses Store) is h = tt
  rows-well w bytes text_is told none alike text (refuses Rig) is h = tt
  rows-well w bytes text_is told none alike text (refuses Memory) is h = tt
  rows-well w bytes text_is told none alike text (refuses Differ) is h = absurd (alike h.0.vectors h.0.rows h.1)
  rows-well w bytes text_is told none alike text (refuses refusal) is h = absurd h
