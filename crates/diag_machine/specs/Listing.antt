-- The list that is made of what a proof keeps, and of wires that are known.
use Rattle.std.specs.Prelude.{◌≡◌, ℕ, ◌<◌, true, false, List}
use Rattle.std.specs.FinSet as set
use Rattle.machine_shape.specs.{declared.Shape.Shape, Shape.table_wire, Shape.ends_of, Shape.wires_of, Shape.crosses_of, Shape.tables_of}
use Rattle.machine_meaning.specs.Defects.{Defects, IsFreeWire, IsFreeCross, IsFreeTable}
use Rattle.machine_defects.specs.Lists.{DefectList, has_free_ends, has_free_pins}
use Rattle.diag_evidence.specs.Kept.{Kept, keeps_cross}
use Rattle.diag_known.specs.{Known.HasWire, declared.verified_wire.VerifiedWire.VerifiedWire}
use Rattle.diag_growth.specs.Seats.{KeepsTable}

-- The list has each wire that isn't known, and, where their wires aren't listed, each crosspoint and each table that isn't kept.
pub record IsListOf (m : Shape) (k : Kept) (ss : List VerifiedWire) (d : Defects) : Type 0 where
  pub wire_free : (w : ℕ) → w < wires_of m → IsFreeWire d w → HasWire ss w
  pub wire_listed : (w : ℕ) → w < wires_of m → HasWire ss w → IsFreeWire d w
  pub cross_free : (x : ℕ) → x < crosses_of m → IsFreeCross m d x → keeps_cross k x ≡ true
  pub cross_listed : (x : ℕ) → x < crosses_of m → set.contains d.crosses x ≡ true →
      (keeps_cross k x ≡ false) × IsFreeWire d (ends_of m x).0 × IsFreeWire d (ends_of m x).1
  pub table_free : (t : ℕ) → t < tables_of m → IsFreeTable m d t → KeepsTable k t
  pub table_listed : (t : ℕ) → t < tables_of m → set.contains d.tables t ≡ true →
      (¬ KeepsTable k t) × ((j : ℕ) → j < 7 → IsFreeWire d (table_wire m t j))

-- a list that has so far the wires below i that aren't known, the crosspoints below j and the tables below n
pub record IsListing (k : Kept) (ss : List VerifiedWire) (d : DefectList) (i j n : ℕ) : Type 0 where
  pub shape : d.shape ≡ k.shape
  pub wires : (w : ℕ) → set.contains d.list.wires w ≡ true → ¬ HasWire ss w
  pub all_wires : (w : ℕ) → w < i → set.contains d.list.wires w ≡ false → HasWire ss w
  pub crosses : (x : ℕ) → set.contains d.list.crosses x ≡ true → keeps_cross k x ≡ false
  pub all_crosses : (x : ℕ) → x < j → keeps_cross k x ≡ false → has_free_ends k.shape d.list x ≡ true →
      set.contains d.list.crosses x ≡ true
  pub tables : (t : ℕ) → set.contains d.list.tables t ≡ true → ¬ KeepsTable k t
  pub all_tables : (t : ℕ) → t < n → ¬ KeepsTable k t → has_free_pins k.shape d.list t ≡ true →
      set.contains d.list.tables t ≡ true
