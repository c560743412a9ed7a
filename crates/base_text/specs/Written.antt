-- Lines as they are written: single spaces between the words, and a line feed behind each line.
use Rattle.std.specs.Prelude.{ℕ, ◌+◌, ◌<◌, ◌≡◌, ◌==◌, Bool, true, not, ◌&&◌, nat_lt, List, [], ◌∷◌, ◌++◌, length, All}
use Rattle.std.specs.List.{flat_map, list_all}
use Rattle.base_text.specs.Lines.{LogicalLine}

-- a space stands before each word but the first
abbrev pub spaced : List (List ℕ) → List ℕ
spaced [] = []
spaced (w ∷ ws) = w ++ flat_map (λ v. 32 ∷ v) ws

abbrev pub written_line : List (List ℕ) → List ℕ
written_line words = spaced words ++ 10 ∷ []

-- the text of some lines, by their words
abbrev pub written : List (List (List ℕ)) → List ℕ
written rows = flat_map written_line rows

-- no blank, no control byte, and no `#`
abbrev pub is_graphic : ℕ → Bool
is_graphic b = nat_lt 32 b && (not (b == 35) && not (b == 127))

abbrev pub IsWord : List ℕ → Type 0
IsWord w = (0 < length w) × (list_all is_graphic w ≡ true)

-- each line has words
abbrev pub AreRows : List (List (List ℕ)) → Type 0
AreRows rows = All (λ words. (0 < length words) × All IsWord words) rows

-- the lines with their numbers, of which this is the first
abbrev pub numbered : ℕ → List (List (List ℕ)) → List LogicalLine
numbered n [] = []
numbered n (words ∷ rows) = record { number = n; words = words } ∷ numbered (n + 1) rows
