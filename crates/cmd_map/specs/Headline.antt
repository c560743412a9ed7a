-- What the mapper has done at status 0.
use Rattle.std.specs.Prelude.{◌≡◌, ◌⊎◌, ℕ, List, [], ◌∷◌, ◌++◌}
use Rattle.base_io.specs.Vocabulary.{IfTold, Wrote}
use Rattle.machine_defects.specs.Lists.{DefectList}
use Rattle.design_netlist.specs.declared.netlist_data.NetlistData.{NetlistData}
use Rattle.map_text.specs.Remapped.{IsRemapped, HasNarrowCovers}
use Rattle.place_design.specs.Laying.{HasRoom}
use Rattle.cmd_steps.specs.Vocabulary.{Outside, IsMachineText, IsDefectsText, IsDesignText}

-- A text that is the design remapped was written. Each cover of it has at most six different inputs, or it is the design's file
pub record WroteRemapped (design : List ℕ) (draft : NetlistData) (text : List ℕ) (mapped : NetlistData) (old new : Outside) : Type 0 where
  pub design_is : IfTold (old.store.contents design) (λ bytes. IsDesignText bytes draft)
  pub remapped : IsRemapped draft text mapped
  pub narrow : HasNarrowCovers mapped ⊎ IfTold (old.store.contents design) (λ bytes. text ≡ bytes)
  pub written : Wrote old.sink.written new.sink.written text

-- with a design
pub record IsMapped (design : List ℕ) (old new : Outside) : Type 0 where
  pub draft : NetlistData
  pub text : List ℕ
  pub mapped : NetlistData
  pub asked : new.store.asked ≡ old.store.asked ++ design ∷ []
  pub wrote : WroteRemapped design draft text mapped old new

-- with a machine, a list of its defects and a design: there is room for the text on the list
pub record IsFitted (machine defects design : List ℕ) (old new : Outside) : Type 0 where
  pub list : DefectList
  pub draft : NetlistData
  pub text : List ℕ
  pub mapped : NetlistData
  pub asked : new.store.asked ≡ old.store.asked ++ machine ∷ defects ∷ design ∷ []
  pub machine_is : IfTold (old.store.contents machine) (λ bytes. IsMachineText bytes list.shape)
  pub list_is : IfTold (old.store.contents defects) (λ bytes. IsDefectsText list.shape bytes list)
  pub wrote : WroteRemapped design draft text mapped old new
  pub room : HasRoom list mapped
