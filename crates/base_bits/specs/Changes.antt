-- Runs of calls that change a set of numbers: each puts its number in (true), or takes it out (false).
use Rattle.std.specs.Prelude.{ℕ, ◌==◌, Bool, if◌then◌else◌, List, [], ◌∷◌, slice_set}

-- the set after some calls, one by one
abbrev pub after : List (ℕ × Bool) → List Bool → List Bool
after [] set = set
after (change ∷ changes) set = after changes (slice_set set change.0 change.1)

-- what the last call that names a number says of it, or what held before
abbrev pub last_said : ℕ → List (ℕ × Bool) → Bool → Bool
last_said i [] before = before
last_said i (change ∷ changes) before = last_said i changes (if i == change.0 then change.1 else before)
