-- The first place of a list of which something holds, by line, and on one line by place.
use Rattle.std.specs.Prelude.{ℕ, ◌≡◌, ◌<◌, ◌⊎◌, Option, None, Some, Bool, true, nat_lt}

-- place i comes before place k
abbrev pub IsBefore : (ℕ → ℕ) → ℕ → ℕ → Type 0
IsBefore line i k = (line i < line k) ⊎ ((line i ≡ line k) × (i < k))

-- of the first n places, the first that has the property; or none has it
abbrev pub IsFirst : (ℕ → ℕ) → ℕ → (ℕ → Type 0) → Option ℕ → Type 0
IsFirst line n P None = (k : ℕ) → k < n → P k → ⊥
IsFirst line n P (Some i) = (i < n) × P i × ((k : ℕ) → k < n → P k → (k ≡ i) ⊎ IsBefore line i k)

-- place i is on an earlier line than the one that was found
abbrev pub is_sooner : (ℕ → ℕ) → ℕ → Option ℕ → Bool
is_sooner line i None = true
is_sooner line i (Some j) = nat_lt (line i) (line j)
