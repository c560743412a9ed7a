-- What an `eval` that is done has done.
use Rattle.std.specs.Prelude.{◌≡◌, ℕ, Bool, List, [], ◌∷◌, ◌++◌, length}
use Rattle.base_io.specs.Vocabulary.{IfTold, Wrote}
use Rattle.design_netlist.specs.{declared.netlist_data.NetlistData.NetlistData, Rows.AreRows}
use Rattle.cmd_steps.specs.Vocabulary.{AreAll, output_text, Outside, IsDesignText}

-- The line `outputs` and the design's rows for the vectors of the file are written, and the vectors were read to their end
pub record IsEvaled (design vectors : List ℕ) (old new : Outside) : Type 0 where
  pub draft : NetlistData
  pub all_vectors : List (List Bool)
  pub rows : List (List Bool)
  pub asked : new.store.asked ≡ old.store.asked ++ design ∷ vectors ∷ []
  pub design_is : IfTold (old.store.contents design) (λ bytes. IsDesignText bytes draft)
  pub are_all : AreAll (length draft.inputs) (old.store.contents vectors) all_vectors
  pub written : Wrote old.sink.written new.sink.written (output_text rows)
  pub rows_are : AreRows draft all_vectors rows
