-- Names, each once.
use Rattle.std.specs.Prelude.{ℕ, List, [], ◌∷◌, ◌++◌, if◌then◌else◌, fold}
use Rattle.std.specs.{List.position_or_len, Str.bytes_eq}
use Rattle.design_flatten.specs.Uses.{is_among}

-- a new one goes last
abbrev pub with_name : List (List ℕ) → List ℕ → List (List ℕ)
with_name names w = if is_among names w then names else names ++ w ∷ []

abbrev pub with_names : List (List ℕ) → List (List ℕ) → List (List ℕ)
with_names names words = fold with_name names words

-- the place of a name, or how many there are
abbrev pub number_in : List (List ℕ) → List ℕ → ℕ
number_in names w = position_or_len (bytes_eq w) names
