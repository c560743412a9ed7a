-- Rows of bits that stand one behind the other.
use Rattle.std.specs.Prelude.{◌≡◌, ℕ, zero, suc, Bool, List, [], ◌∷◌, length, take, drop, All}
use Rattle.machine_meaning.specs.Circuit.{Pins}

-- for how many vectors a rig is asked at once at most
abbrev pub most_together : ℕ
most_together = 128

-- so many rows of so many bits
abbrev pub rows_in : (count width : ℕ) → List Bool → List (List Bool)
rows_in zero width bits = []
rows_in (suc count) width bits = take width bits ∷ rows_in count width (drop width bits)

-- there is a row for each vector of such a question, with a bit for each of so many pins
pub record HaveRows (pins : ℕ) (rows : List Pins) : Type 0 where
  pub count : length rows ≡ most_together
  pub wide : All (λ row. length row ≡ pins) rows
