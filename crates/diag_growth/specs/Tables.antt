-- What the tests of tables keep.
use Rattle.std.specs.Prelude.{◌≡◌, ℕ, ◌+◌, ◌≤◌, ◌==◌, Bool, true, not, ◌&&◌, Option, Some, List, slice_get}
use Rattle.std.specs.List.{count_by}
use Rattle.machine_shape.specs.declared.Table.{Table}
use Rattle.machine_meaning.specs.Vocabulary.{Faults, IsSeated, IsRightTable}
use Rattle.diag_evidence.specs.Kept.{Kept, HoldsFor, keeps_cell, keeps_register}
use Rattle.diag_growth.specs.Seats.{KeepsTable}
use Rattle.diag_known.specs.Vocabulary.{how_many, HasWire, IsKeptCrossOf}
use Rattle.diag_known.specs.declared.verified_wire.VerifiedWire.{VerifiedWire}

-- Where what was kept is true of the faults, the table is kept, if it is seated in the known wires and the kept crosspoints and
-- is right.
pub record SeatedIsKept (told : Option Faults) (k l : Kept) (ss : List VerifiedWire) (t : ℕ) : Type 0 where
  pub at : (f : Faults) → told ≡ Some f → HoldsFor k f → IsSeated k.shape (HasWire ss) (IsKeptCrossOf k) t → IsRightTable f t →
      KeepsTable l t

-- .. each of these tables
pub record SeatedAreKept (told : Option Faults) (k l : Kept) (ss : List VerifiedWire) (tables : List Table) : Type 0 where
  pub each : (j : ℕ) (t : Table) → slice_get tables j ≡ Some t → SeatedIsKept told k l ss t.0

-- all 64 cells of the table and its register are kept
abbrev pub keeps_table : Kept → ℕ → Bool
keeps_table k t = (how_many (keeps_cell k t) 64 == 64) && keeps_register k t

-- of these tables, how many aren't kept
abbrev pub fresh_tables : Kept → List Table → ℕ
fresh_tables k tables = count_by (λ t. not (keeps_table k t.0)) tables

-- at most 130 loads were made for a table, and none if it was kept
pub record TakesForTable (k : Kept) (t before after : ℕ) : Type 0 where
  pub most : after ≤ before + 130
  pub kept : keeps_table k t ≡ true → after ≤ before
