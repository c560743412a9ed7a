-- Lines of rows.
use Rattle.std.specs.Prelude.{ℕ, Bool, if◌then◌else◌, List, [], ◌∷◌, ◌++◌, map}

-- the byte `0` or `1`
abbrev pub bit_byte : Bool → ℕ
bit_byte bit = if bit then 49 else 48

-- a byte for each bit, or `.` where there is none, and LF
abbrev pub row_line : List Bool → List ℕ
row_line [] = 46 ∷ 10 ∷ []
row_line (bit ∷ bits) = map bit_byte (bit ∷ bits) ++ 10 ∷ []
