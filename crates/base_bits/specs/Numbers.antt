-- A set of numbers below a length: for each number, whether it is in the set.
use Rattle.std.specs.{Prelude.ℕ, Prelude.Bool, Prelude.false, Prelude.List, Prelude.slice_index_or, List.count_by}

abbrev pub has_number : List Bool → ℕ → Bool
has_number set i = slice_index_or set i false

abbrev pub size_of : List Bool → ℕ
size_of set = count_by (λ b. b) set
