-- Groups of wires, by tests, that faults and closed crosspoints keep apart.
use Rattle.std.specs.Prelude.{◌≡◌, ◌⊎◌, ℕ, Bool, true, ◌||◌, ◌==◌, List}
use Rattle.std.specs.List.{list_any}
use Rattle.machine_shape.specs.{declared.Shape.Shape, Shape.ends_of}
use Rattle.machine_meaning.specs.Vocabulary.{Faults, Shorted, IsClear}

-- these wires
abbrev pub among : List ℕ → ℕ → Bool
among ws w = list_any (λ y. y == w) ws

-- the wires of both groups
abbrev pub both : (ℕ → Bool) → (ℕ → Bool) → ℕ → Bool
both p q w = p w || q w

-- none is shorted to a stuck wire
abbrev pub AreClear : Shape → Faults → (ℕ → Bool) → Type 0
AreClear m f p = (w : ℕ) → p w ≡ true → IsClear m f w

-- none of the one is shorted to one of the other
abbrev pub AreUnshorted : Shape → Faults → (ℕ → Bool) → (ℕ → Bool) → Type 0
AreUnshorted m f p q = (w u : ℕ) → p w ≡ true → q u ≡ true → ¬ Shorted m f w u

-- both ends of the crosspoint are in the group
pub record IsWithin (m : Shape) (group : ℕ → Bool) (x : ℕ) : Type 0 where
  pub tap : group (ends_of m x).0 ≡ true
  pub line : group (ends_of m x).1 ≡ true

-- Each closed crosspoint has both its ends in one of two groups of wires. No wire of them is shorted to a
-- stuck wire, and none of the one group to one of the other. Of all other wires nothing is said.
pub record AreGroups (m : Shape) (f : Faults) (closed left right : ℕ → Bool) : Type 0 where
  pub within : (x : ℕ) → closed x ≡ true → IsWithin m left x ⊎ IsWithin m right x
  pub left_clear : AreClear m f left
  pub right_clear : AreClear m f right
  pub apart : AreUnshorted m f left right
