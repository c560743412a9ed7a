-- Free tables as seats for the tables of a network.
use Rattle.std.specs.Prelude.{◌≡◌, ◌≢◌, ℕ, Bool, true, List, slice_index_or}
use Rattle.std.specs.List.{All, AllPairs}
use Rattle.machine_shape.specs.declared.Shape.{Shape}
use Rattle.machine_meaning.specs.Defects.{Defects}
use Rattle.place_plan.specs.Plans.{IsFreeTableOf}
use Rattle.place_anneal.specs.declared.seats.Seat.{Seat}

-- the table of a seat
abbrev pub number_at : Seat → ℕ
number_at s = s.table.0

-- these tables are free and different
pub record AreFreeTables (m : Shape) (d : Defects) (ts : List ℕ) : Type 0 where
  pub free : All (IsFreeTableOf m d) ts
  pub different : AllPairs (λ t u. t ≢ u) ts

-- the table has a mark, as has each for which there is no place among the marks
abbrev pub HasMark : List Bool → ℕ → Type 0
HasMark marks t = slice_index_or marks t true ≡ true

-- the tables of all seats have marks
abbrev pub AreMarked : List Seat → List Bool → Type 0
AreMarked seats marks = All (λ s. HasMark marks (number_at s)) seats
