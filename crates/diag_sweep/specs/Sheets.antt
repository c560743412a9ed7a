-- Tables that are to be tested in one load.
use Rattle.std.specs.Prelude.{◌≡◌, ℕ, ◌<◌, ◌==◌, List, ◌++◌, ◌∷◌, [], All, length, map, slice_index_or}
use Rattle.std.specs.List.{IsDistinct}
use Rattle.machine_shape.specs.{declared.Table.Table, Shape.table_wire, Shape.tables_of}
use Rattle.diag_evidence.specs.Vocabulary.{Trees, HangsOn, output_pin}

-- input j of the table hangs on the j-th of these pins
abbrev pub InputsOn : Trees → List ℕ → Table → Type 0
InputsOn trees ins t = (j : ℕ) → j < 6 → HangsOn trees (table_wire trees.shape t.0 j) (slice_index_or ins j 0)

-- the output of the table hangs
abbrev pub OutputOn : Trees → Table → Type 0
OutputOn trees t = HangsOn trees (table_wire trees.shape t.0 6) (output_pin trees t.0)

-- The inputs of each of these tables hang on these six pins, and each output on a pin. All these pins differ.
pub record AreOn (trees : Trees) (ins : List ℕ) (ts : List Table) : Type 0 where
  pub within : All (λ t. t.0 < tables_of trees.shape) ts
  pub inputs : All (InputsOn trees ins) ts
  pub outputs : All (OutputOn trees) ts
  pub once : IsDistinct (λ a b. a == b) (ins ++ map (λ t. output_pin trees t.0) ts)
