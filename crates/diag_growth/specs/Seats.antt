-- Where a table is tested, and what its test keeps.
use Rattle.std.specs.Prelude.{◌≡◌, ◌≢◌, ◌<◌, ◌++◌, ℕ, true, Some, Option, List, [], ◌∷◌, map, length, slice_get}
use Rattle.machine_shape.specs.{declared.Shape.Shape, Shape.Ends, Shape.ends_of, Shape.table_wire, Shape.crosses_of, Shape.tables_of}
use Rattle.machine_meaning.specs.Vocabulary.{Faults, IsRightTable}
use Rattle.machine_config.specs.Groups.{among}
use Rattle.diag_tests.specs.Routes.{Walk, IsRoute}
use Rattle.diag_evidence.specs.Kept.{Kept, KeepsSet, HoldsFor, untried, keeps_cross, keeps_wire, keeps_pair, keeps_cell, keeps_register}
use Rattle.diag_growth.specs.declared.seat.{Arm.Arm, Seat.Seat}

-- the wires of the near route, and the lines of the arms
abbrev pub near_wires : Seat → List ℕ
near_wires s = s.near.wires ++ map (λ a. a.line.0) s.arms.items

-- the wires of the far route, and the output
abbrev pub far_wires : Shape → Seat → List ℕ
far_wires m s = s.far.wires ++ table_wire m s.table.0 6 ∷ []

-- a kept crosspoint between two wires
pub record IsKeptBetween (k : Kept) (c a b : ℕ) : Type 0 where
  pub below : c < crosses_of k.shape
  pub kept : keeps_cross k c ≡ true
  pub at : Ends (ends_of k.shape c) a b

-- a route whose crosspoints are kept
pub record IsKeptWalk (k : Kept) (r : Walk) : Type 0 where
  pub route : IsRoute k.shape r
  pub crosses : (x : ℕ) → among r.crosses x ≡ true → keeps_cross k x ≡ true

-- kept crosspoints lead from the end of the near route over the line to the input j
pub record IsArm (k : Kept) (s : Seat) (j : ℕ) (a : Arm) : Type 0 where
  pub to_line : IsKeptBetween k a.to_line.0 s.near.end a.line.0
  pub to_input : IsKeptBetween k a.to_input.0 a.line.0 (table_wire k.shape s.table.0 j)

-- Kept crosspoints lead from the near pin to each input, and from the far pin to the output. The wires are kept, and those
-- of the two sides and of the inputs are of the set, and so kept apart from one another.
pub record IsSeat (k : Kept) (s : Seat) : Type 0 where
  pub table : s.table.0 < tables_of k.shape
  pub near : IsKeptWalk k s.near
  pub far : IsKeptWalk k s.far
  pub count : length s.arms.items ≡ 6
  pub arms : (j : ℕ) (a : Arm) → slice_get s.arms.items j ≡ Some a → IsArm k s j a
  pub output : IsKeptBetween k s.output.0 s.far.end (table_wire k.shape s.table.0 6)
  pub near_kept : (w : ℕ) → among (near_wires s) w ≡ true → keeps_wire k w ≡ true
  pub far_kept : (w : ℕ) → among (far_wires k.shape s) w ≡ true → keeps_wire k w ≡ true
  pub inputs : (j : ℕ) → j < 6 → keeps_wire k (table_wire k.shape s.table.0 j) ≡ true
  pub sides : (w u : ℕ) → among (near_wires s) w ≡ true → among (far_wires k.shape s) u ≡ true → keeps_pair (untried k) w u ≡ true
  pub near_inputs : (j w : ℕ) → j < 6 → among (near_wires s) w ≡ true → keeps_pair (untried k) (table_wire k.shape s.table.0 j) w ≡ true
  pub far_inputs : (j w : ℕ) → j < 6 → among (far_wires k.shape s) w ≡ true →
      keeps_pair (untried k) (table_wire k.shape s.table.0 j) w ≡ true
  pub between_inputs : (i j : ℕ) → i < 6 → j < 6 → i ≢ j →
      keeps_pair (untried k) (table_wire k.shape s.table.0 i) (table_wire k.shape s.table.0 j) ≡ true

-- the 64 cells and the register are kept
pub record KeepsTable (k : Kept) (t : ℕ) : Type 0 where
  pub cells : (a : ℕ) → a < 64 → keeps_cell k t a ≡ true
  pub register : keeps_register k t ≡ true

-- Where what was kept is true of the faults, a right table is kept.
pub record TableIf (told : Option Faults) (k l : Kept) (t : ℕ) : Type 0 where
  pub at : (f : Faults) → told ≡ Some f → HoldsFor k f → IsRightTable f t → KeepsTable l t

-- Only facts of tables are new: what is kept of crosspoints and wires is what was, and the same wires are of the set.
pub record AddsOnlyTableFacts (old new : Kept) : Type 0 where
  pub crosses : (x : ℕ) → keeps_cross new x ≡ keeps_cross old x
  pub wires : (w : ℕ) → keeps_wire new w ≡ keeps_wire old w
  pub apart : KeepsSet old new
