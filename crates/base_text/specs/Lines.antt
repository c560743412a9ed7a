-- The logical lines of a text.
use Rattle.std.specs.Prelude.{ℕ, ◌+◌, Bool, nat_lt, if◌then◌else◌, List, [], ◌∷◌, ◌++◌, Option, Some, None, filter, map, length}
use Rattle.base_text.specs.Bytes.{physical_lines, uncommented, joining_part, words_of, has_bad_byte}

-- a text with the number of the physical line on which it begins
pub record Text : Type 0 where
  pub number : ℕ
  pub bytes : List ℕ

-- a logical line: its words, and the number of its first physical line
pub record LogicalLine : Type 0 where
  pub number : ℕ
  pub words : List (List ℕ)

-- a text that goes on in the next: the backslash and the line's end count as one blank. At the end of the file it joins nothing
abbrev pub onto_next : Text → List Text → List Text
onto_next t [] = t ∷ []
onto_next t (next ∷ texts) = record { number = t.number; bytes = t.bytes ++ 32 ∷ next.bytes } ∷ texts

-- a physical line without its comment, in front of the texts after it
abbrev pub in_front : Bool → ℕ → List ℕ → List Text → List Text
in_front joined n bytes texts = put (if joined then joining_part bytes else None)
  where
    put : Option (List ℕ) → List Text
    put None = record { number = n; bytes = bytes } ∷ texts
    put (Some part) = onto_next (record { number = n; bytes = part }) texts

-- the texts of physical lines, of which the first has this number
unfoldable pub texts_of : Bool → ℕ → List (List ℕ) → List Text
texts_of joined n [] = []
texts_of joined n (line ∷ lines) = in_front joined n (uncommented line) (texts_of joined (n + 1) lines)

abbrev pub line_of : Text → LogicalLine
line_of t = record { number = t.number; words = words_of t.bytes }

-- the lines of physical lines that have words
abbrev pub with_words : List LogicalLine → List LogicalLine
with_words lines = filter (λ l. nat_lt 0 (length l.words)) lines

abbrev pub lines_from : Bool → ℕ → List ℕ → List LogicalLine
lines_from joined n bytes = with_words (map line_of (texts_of joined n (physical_lines bytes)))

-- the logical lines of a text
abbrev pub logical_lines : Bool → List ℕ → List LogicalLine
logical_lines joined bytes = lines_from joined 1 bytes

abbrev pub is_bad_line : LogicalLine → Bool
is_bad_line l = has_bad_byte l.words
