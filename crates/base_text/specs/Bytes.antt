-- Physical lines, comments, blanks and words.
use Rattle.std.specs.Prelude.{ℕ, ◌-◌, ◌==◌, Bool, not, ◌&&◌, ◌||◌, nat_lt, if◌then◌else◌, List, [], ◌∷◌, Option, Some, None, filter, length}
use Rattle.std.specs.Prelude.{take, slice_index}
use Rattle.std.specs.List.{slice_split, onto_first, before_first, list_any, suffix_len}

-- space, tab and carriage return
abbrev pub is_blank : ℕ → Bool
is_blank b = (b == 32) || (b == 9) || (b == 13)

-- a control byte that is neither a blank nor the end of a line; none of the latter stands in a line
abbrev pub is_bad : ℕ → Bool
is_bad b = (nat_lt b 32 && not (is_blank b)) || (b == 127)

-- the physical lines: each ends at a line feed or at the end of the bytes
unfoldable pub physical_lines : List ℕ → List (List ℕ)
physical_lines [] = []
physical_lines (b ∷ bs) = if b == 10 then [] ∷ physical_lines bs else onto_first b (physical_lines bs)

-- a physical line up to its comment, which begins at `#`
abbrev pub uncommented : List ℕ → List ℕ
uncommented line = before_first (λ b. b == 35) line

-- where the last byte that is no blank is a backslash: what stands before it
abbrev pub joining_part : List ℕ → Option (List ℕ)
joining_part text =
    let last = length text - suffix_len is_blank text - 1 in
    if nat_lt (suffix_len is_blank text) (length text) && (slice_index text last == 92) then Some (take last text) else None

-- a text between two blanks, where it isn't empty
abbrev pub run_of : List ℕ → List (List ℕ)
run_of text = if nat_lt 0 (length text) then text ∷ [] else []

-- the longest runs of bytes that are no blanks
abbrev pub words_of : List ℕ → List (List ℕ)
words_of text = filter (λ w. nat_lt 0 (length w)) (slice_split is_blank text)

abbrev pub has_bad_byte : List (List ℕ) → Bool
has_bad_byte words = list_any (list_any is_bad) words
