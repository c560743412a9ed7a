-- What the mapper wrote is another command's design.
use Rattle.std.specs.Prelude.{◌≡◌, ℕ, List}
use Rattle.base_io.specs.Vocabulary.{holds, StoreState, Wrote}
use Rattle.machine_meaning.specs.Vocabulary.{Covers, Faults}
use Rattle.machine_defects.specs.Lists.{DefectList}
use Rattle.design_netlist.specs.declared.netlist_data.NetlistData.{NetlistData}
use Rattle.machine_image.specs.Images.{ImageValue, image_bytes}
use Rattle.place_route.specs.RightImages.{IsRightImage}
use Rattle.cmd_steps.specs.Outside.{Outside}
use Rattle.cmd_compile.specs.{Compile.compile_files, Compile.CompileRight, Headline.IsCompiled}
use Rattle.cmd_map.specs.Headline.{IsFitted}

-- the store holds the machine's and the list's texts as before, and under a name the text that was written
pub record HoldsText (machine defects name text : List ℕ) (old : Outside) (store : StoreState) : Type 0 where
  pub machine_file : List ℕ
  pub machine_told : old.store.contents machine ≡ holds machine_file
  pub machine_again : store.contents machine ≡ holds machine_file
  pub defects_file : List ℕ
  pub defects_told : old.store.contents defects ≡ holds defects_file
  pub defects_again : store.contents defects ≡ holds defects_file
  pub text_told : store.contents name ≡ holds text

-- an image is written that is right for the design under all faults that the list covers
pub record WroteRightImage (list : DefectList) (draft : NetlistData) (old new : Outside) : Type 0 where
  pub image : ImageValue
  pub written : Wrote old.sink.written new.sink.written (image_bytes image)
  pub right : (f : Faults) → Covers list.shape list.list f → IsRightImage f image draft

-- Then all is right for `compile` with that text, so where no count rises it ends with status 0 or for lack of memory; and the
-- image that it writes is right for the design as given
pub record FitsThenCompiles (machine defects design name : List ℕ) (old new handed : Outside) (f : IsFitted machine defects design old new)
    : Type 0 where
  pub right : CompileRight (compile_files handed.store machine defects name)
  pub image : (compiled : Outside) → IsCompiled machine defects name handed compiled → WroteRightImage f.list f.draft handed compiled
