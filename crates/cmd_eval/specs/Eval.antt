-- What the command `eval` is.
use Rattle.std.specs.Prelude.{◌≡◌, ℕ, List, [], ◌∷◌, ◌++◌, length, Some}
use Rattle.base_io.specs.Vocabulary.{Told, StoreState}
use Rattle.design_netlist.specs.{declared.netlist_data.NetlistData.NetlistData, Rows.AreRows}
use Rattle.design_blif.specs.Designs.{IsDesign}
use Rattle.cmd_steps.specs.Vocabulary.{AreRightVectors, outputs_line, StandsIn, Course, RowWork, after, write, all_rows, IsRightFile}
use Rattle.cmd_steps.specs.Vocabulary.{reads_design, opens, Job}
use Rattle.cmd_steps.specs.declared.design_file.DesignFile.TheVariants.{Design}

-- the rows of a design, for which no memory is wanted
abbrev pub eval_rows : NetlistData → Told → StoreState → RowWork
eval_rows draft told store = record {
  width = length draft.inputs;
  told = told;
  store = store;
  are = λ vectors rows. AreRows draft vectors rows;
  session = λ vectors rows. Unit {0};
  differs = λ vectors rows. ⊥;
  lost = ⊥;
  lacks = λ count. ⊥;
}

-- no vector was read yet
abbrev pub IsAtFirst : (vectors : List ℕ) → StoreState → Type 0
IsAtFirst vectors store = store.current ≡ Some (record { name = vectors; at = 0 })

-- the vectors are opened, the line `outputs` is written before the first of them is read, and then the rows. These files were
-- read before, the last first
abbrev pub design_evaluated : (vectors : List ℕ) → (files : List (List ℕ)) → StoreState → StoreState → NetlistData → Course
design_evaluated vectors files old new draft =
    after (opens (old.contents vectors)) (StandsIn (vectors ∷ files) old new) (λ _.
    write outputs_line (IsAtFirst vectors new)
    (all_rows (eval_rows draft (old.contents vectors) new)))

-- the design is read and evaluated
abbrev pub eval_course : (design vectors : List ℕ) → StoreState → StoreState → Course
eval_course design vectors old new =
    after (reads_design Design (old.contents design)) (StandsIn (design ∷ []) old new)
    (design_evaluated vectors (design ∷ []) old new)

-- both texts are told and right
pub record EvalRight (design vectors : Told) : Type 0 where
  pub draft : NetlistData
  pub file : IsRightFile design (λ bytes. IsDesign bytes draft)
  pub said : AreRightVectors vectors (length draft.inputs)

abbrev pub eval_job : (design vectors : List ℕ) → Job
eval_job design vectors = record {
  files = design ∷ vectors ∷ [];
  asks = λ old new. new.rig ≡ old.rig;
  course = λ old new. eval_course design vectors old.store new.store;
  right = λ old new front. EvalRight (old.store.contents design) (old.store.contents vectors);
  short = λ old new front. ⊥;
  few = λ old new. Unit {0};
  has_begun = λ old new text. (more : List ℕ) × (text ≡ outputs_line ++ more);
}
