-- Names and their numbers.
use Rattle.std.specs.Prelude.{ℕ, nat_lt, ◌||◌, List, [], ◌∷◌, ◌++◌, Option, Some, None, if◌then◌else◌, fold, length, Bool}
use Rattle.std.specs.{List.list_any, List.position_or_len, Str.bytes_eq}
use Rattle.design_netlist.specs.declared.fault.DesignKind.{DesignKind, TheVariants.Limit}

-- the names after one more stands: a new one goes last
abbrev pub with_name : List (List ℕ) → List ℕ → List (List ℕ)
with_name names w = if list_any (bytes_eq w) names then names else names ++ w ∷ []

-- the names in the order of their first appearances, after those that stood before
abbrev pub names_after : List (List ℕ) → List (List ℕ) → List (List ℕ)
names_after names words = fold with_name names words

-- the number of a name: its place, which for a new one is the next
abbrev pub name_number : List (List ℕ) → List ℕ → ℕ
name_number names w = position_or_len (bytes_eq w) names

-- the number of each word at the moment that it stands
abbrev pub numbers : List (List ℕ) → List (List ℕ) → List ℕ
numbers names [] = []
numbers names (w ∷ words) = name_number names w ∷ numbers (with_name names w) words

-- more than 255 bytes
abbrev pub is_long : List ℕ → Bool
is_long w = nat_lt 255 (length w)

-- a name that is too long, or more signals than are allowed, once these words stand
abbrev pub limit_at : List (List ℕ) → List (List ℕ) → Option DesignKind
limit_at names words = if list_any is_long words || nat_lt 65535 (length (names_after names words)) then Some Limit else None
