-- Tests by lists: what is closed is two routes and the ties, one of which is toggled.
use Rattle.std.specs.Prelude.{◌≡◌, ◌≢◌, ◌⊎◌, ℕ, Bool, true, IsTrue, Option, Some, None, List}
use Rattle.std.specs.List.{AllByRecursion}
use Rattle.machine_shape.specs.{declared.Shape.Shape, Shape.Ends, Shape.ends_of}
use Rattle.machine_meaning.specs.Faults.{Faults, stuck_cross}
use Rattle.machine_config.specs.Vocabulary.{among, AreClear, AreUnshorted, IsWithin, LeadsTo}
use Rattle.diag_tests.specs.Routes.{Walk}
use Rattle.diag_evidence.specs.Kept.{Kept, HoldsUntried}

-- these crosspoints are among the ties, and neither the one that is toggled nor stuck
abbrev pub AreTied : Faults → List ℕ → ℕ → List ℕ → Type 0
AreTied f ties x xs = AllByRecursion (λ y. (among ties y ≡ true) × ((y ≢ x) × (stuck_cross f y ≡ None))) xs

-- With x open, the left route and the wires tied to it are apart from the right route and those tied to it. Ties
-- lead from the ends of the routes to the two ends of x.
pub record IsLoopBy (m : Shape) (f : Faults) (left right : Walk) (ties : List ℕ) (x : ℕ) (l r : ℕ → Bool) : Type 0 where
  pub left_in : (w : ℕ) → among left.wires w ≡ true → l w ≡ true
  pub right_in : (w : ℕ) → among right.wires w ≡ true → r w ≡ true
  pub ties_in : (y : ℕ) → among ties y ≡ true → y ≢ x → IsWithin m l y ⊎ IsWithin m r y
  pub left_clear : AreClear m f l
  pub right_clear : AreClear m f r
  pub apart : AreUnshorted m f l r
  pub free : stuck_cross f x ≡ None
  pub near : ℕ
  pub far : ℕ
  pub at : Ends (ends_of m x) near far
  pub near_left : l near ≡ true
  pub far_right : r far ≡ true
  pub lefts : List ℕ
  pub left_way : List ℕ
  pub leads_left : LeadsTo m left.end lefts left_way near
  pub left_ties : AreTied f ties x lefts
  pub rights : List ℕ
  pub right_way : List ℕ
  pub leads_right : LeadsTo m right.end rights right_way far
  pub right_ties : AreTied f ties x rights

-- Where the faults are told, the answer is yes if ..

-- .. what is kept is true of them, the row of a wire on trial left out, and the routes and ties are a loop
pub record LoopPasses (told : Option Faults) (k : Kept) (left right : Walk) (ties : List ℕ) (x : ℕ) (yes : Bool) : Type 0 where
  pub at : (f : Faults) (l r : ℕ → Bool) → told ≡ Some f → HoldsUntried k f → IsLoopBy k.shape f left right ties x l r → IsTrue yes

-- .. no wire of the route is shorted to a stuck wire
pub record RoutePasses (told : Option Faults) (m : Shape) (r : Walk) (yes : Bool) : Type 0 where
  pub at : (f : Faults) → told ≡ Some f → AreClear m f (among r.wires) → IsTrue yes
