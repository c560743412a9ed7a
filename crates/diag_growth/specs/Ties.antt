-- What is closed besides the routes while a table is tested.
use Rattle.std.specs.Prelude.{◌≡◌, ◌⊎◌, ℕ, suc, zero, ◌<◌, ◌/◌, ◌%◌, ◌==◌, ◌||◌, List, Bool, true, false, Option, Some, None, slice_get}
use Rattle.machine_shape.specs.declared.Shape.{Shape}
use Rattle.machine_meaning.specs.Faults.{Faults, wrong_cell, stuck_register}
use Rattle.machine_config.specs.Vocabulary.{Configuration, among}
use Rattle.diag_tests.specs.Configs.{IsCellConfig}
use Rattle.diag_evidence.specs.Kept.{Kept, HoldsFor, keeps_cell, keeps_register}
use Rattle.diag_growth.specs.declared.seat.{Arm.Arm, Seat.Seat}

-- what is left of an address behind its first j bits, and bit j
abbrev pub halves : ℕ → ℕ → ℕ
halves a zero = a
halves a (suc j) = halves a j / 2

abbrev pub bit_of : ℕ → ℕ → Bool
bit_of a j = halves a j % 2 == 1

-- the crosspoint to the output, or one of an arm to one of the first n inputs whose bit is 0
pub data IsSeatTie (s : Seat) (bits : ℕ → Bool) (n c : ℕ) : Type 0 where
  to_output : s.output.0 ≡ c → IsSeatTie s bits n c
  on_arm : (j : ℕ) (a : Arm) → j < n → slice_get s.arms.items j ≡ Some a → bits j ≡ false → (a.to_line.0 ≡ c) ⊎ (a.to_input.0 ≡ c) →
      IsSeatTie s bits n c

pub record AreSeatTies (s : Seat) (bits : ℕ → Bool) (n : ℕ) (ties : ℕ → Bool) : Type 0 where
  pub only : (c : ℕ) → ties c ≡ true → IsSeatTie s bits n c
  pub all : (c : ℕ) → IsSeatTie s bits n c → ties c ≡ true

-- the two crosspoints of an arm more are among them
abbrev pub AddsArm : List ℕ → List ℕ → Arm → Type 0
AddsArm old new a = (c : ℕ) → among new c ≡ ((among old c || (a.to_line.0 == c)) || (a.to_input.0 == c))

-- what is closed for a seat: both routes and these ties, with the table on whose cells are 0
abbrev pub IsSeatConfig : Shape → Seat → List ℕ → Configuration → Type 0
IsSeatConfig m s ties g = IsCellConfig m s.near s.far ties s.table.0 0 g

-- Where what was kept is true of the faults, a cell that isn't wrong is kept ..
pub record CellIf (told : Option Faults) (k l : Kept) (t a : ℕ) : Type 0 where
  pub at : (f : Faults) → told ≡ Some f → HoldsFor k f → wrong_cell f t a ≡ None → keeps_cell l t a ≡ true

-- .. the first n cells are kept, if none of them is wrong
pub record CellsIf (told : Option Faults) (k l : Kept) (t n : ℕ) : Type 0 where
  pub at : (f : Faults) → told ≡ Some f → HoldsFor k f → (a : ℕ) → a < n → wrong_cell f t a ≡ None → keeps_cell l t a ≡ true

-- .. a register that isn't stuck is kept
pub record RegisterIf (told : Option Faults) (k l : Kept) (t : ℕ) : Type 0 where
  pub at : (f : Faults) → told ≡ Some f → HoldsFor k f → stuck_register f t ≡ None → keeps_register l t ≡ true
