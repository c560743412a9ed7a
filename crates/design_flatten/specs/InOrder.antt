-- Lists in order.
use Rattle.std.specs.Prelude.{ℕ, nat_lt, List, [], ◌∷◌, if◌then◌else◌}

-- in front of those with the same number or a greater one
abbrev pub put_in_order : {X : Type 0} → (X → ℕ) → X → List X → List X
put_in_order n x [] = x ∷ []
put_in_order n x (y ∷ ys) = if nat_lt (n y) (n x) then y ∷ put_in_order n x ys else x ∷ y ∷ ys

-- by number, and for one number as they stand
abbrev pub in_order : {X : Type 0} → (X → ℕ) → List X → List X
in_order n [] = []
in_order n (x ∷ xs) = put_in_order n x (in_order n xs)
