-- Tests of a table by lists: what is closed is two routes and the ties, which lead from the ends of the routes to pins
-- of the table.
use Rattle.std.specs.Prelude.{◌≡◌, ◌⊎◌, ℕ, ◌<◌, Bool, true, false, IsTrue, Option, Some, None, List, map}
use Rattle.std.specs.List.{range_with_len}
use Rattle.machine_shape.specs.{declared.Shape.Shape, Shape.table_wire}
use Rattle.machine_meaning.specs.Faults.{Faults, stuck_cross, wrong_cell, stuck_register}
use Rattle.machine_config.specs.Vocabulary.{among, AreClear, AreUnshorted, IsWithin, LeadsTo, number_of, IsLoose}
use Rattle.diag_tests.specs.Routes.{Walk}
use Rattle.diag_evidence.specs.Kept.{Kept, HoldsUntried}

-- ties that aren't stuck lead from a wire to another
pub record IsTied (m : Shape) (f : Faults) (ties : List ℕ) (w u : ℕ) : Type 0 where
  pub over : List ℕ
  pub wires : List ℕ
  pub leads : LeadsTo m w over wires u
  pub free : (y : ℕ) → among over y ≡ true → (among ties y ≡ true) × (stuck_cross f y ≡ None)

-- The left route and the wires tied to it are apart from the right route and those tied to it, and ties lead from
-- the end of the right one to the table's output.
pub record IsTableBy (m : Shape) (f : Faults) (left right : Walk) (ties : List ℕ) (t : ℕ) (l r : ℕ → Bool) : Type 0 where
  pub left_in : (w : ℕ) → among left.wires w ≡ true → l w ≡ true
  pub right_in : (w : ℕ) → among right.wires w ≡ true → r w ≡ true
  pub ties_in : (y : ℕ) → among ties y ≡ true → IsWithin m l y ⊎ IsWithin m r y
  pub left_clear : AreClear m f l
  pub right_clear : AreClear m f r
  pub apart : AreUnshorted m f l r
  pub output : IsTied m f ties right.end (table_wire m t 6)

-- Ties lead from the end of the left route to the inputs whose bit of the address is 0. The others are shorted
-- to no stuck wire, and to none of the left or right wires.
pub record IsCellBy (m : Shape) (f : Faults) (left right : Walk) (ties : List ℕ) (t a : ℕ) (l r bits : ℕ → Bool) : Type 0 where
  pub table : IsTableBy m f left right ties t l r
  pub not_wrong : wrong_cell f t a ≡ None
  pub inputs : (j : ℕ) → j < 6 →
      ((bits j ≡ false) × (l (table_wire m t j) ≡ true) × IsTied m f ties left.end (table_wire m t j)) ⊎
      ((bits j ≡ true) × IsLoose m f l r (table_wire m t j))
  pub number : number_of (map bits (range_with_len 0 6)) ≡ a

-- Where the faults are told and what is kept is true of them, the row of a wire on trial left out, the answer is yes if the cell, or the
-- register, is tested by the routes and ties.
pub record CellPassesBy (told : Option Faults) (k : Kept) (left right : Walk) (ties : List ℕ) (t a : ℕ) (yes : Bool) : Type 0 where
  pub at : (f : Faults) (l r bits : ℕ → Bool) → told ≡ Some f → HoldsUntried k f → IsCellBy k.shape f left right ties t a l r bits →
      IsTrue yes

pub record RegisterPassesBy (told : Option Faults) (k : Kept) (left right : Walk) (ties : List ℕ) (t : ℕ) (yes : Bool) : Type 0 where
  pub at : (f : Faults) (l r : ℕ → Bool) → told ≡ Some f → HoldsUntried k f → IsTableBy k.shape f left right ties t l r →
      stuck_register f t ≡ None → IsTrue yes
