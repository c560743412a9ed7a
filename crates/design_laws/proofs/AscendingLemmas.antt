-- The numbers of lines ascend.
use Rattle.std.proofs.Common.{ℕ, ◌+◌, ◌≤◌, Bool, true, false, cond, nat_lt, List, [], ◌∷◌, None, length, map, arith, inl, inr}
use Rattle.base_text.specs.Vocabulary.{uncommented, joining_part, words_of, physical_lines, Text, LogicalLine, line_of, texts_of, in_front, onto_next, with_words, logical_lines}
use Rattle.base_text.proofs.LinesLemmas.{cases_part}
use Rattle.design_blif.specs.declared.head.Head.{Head}
use Rattle.design_blif.specs.declared.head.Head.TheVariants as head
use Rattle.design_blif.specs.Grammar.{Statement, Grouped, kind_of, grouped_behind, grouped, statements_of}

-- numbers ascend, from n on
abbrev pub Ascend : {X : Type 0} → (X → ℕ) → ℕ → List X → Type 0
Ascend number n [] = Unit {0}
Ascend number n (x ∷ xs) = (n ≤ number x) × Ascend number (number x + 1) xs

abbrev pub text_number : Text → ℕ
text_number t = t.number

abbrev pub line_number : LogicalLine → ℕ
line_number l = l.number

abbrev pub statement_number : Statement → ℕ
statement_number s = s.head.number

pub from_less : {X : Type 0} (number : X → ℕ) (m n : ℕ) (xs : List X) → m ≤ n → Ascend number n xs → Ascend number m xs
from_less number m n [] le h = tt
from_less number m n (x ∷ xs) le h = (omega (arith, le, h.0), h.1)

onto_ascends : (n : ℕ) (part : List ℕ) (texts : List Text) → Ascend text_number (n + 1) texts → Ascend text_number n (onto_next (record { number = n; bytes = part }) texts)
onto_ascends n part [] h = (omega arith, tt)
onto_ascends n part (t ∷ texts) h = (omega arith, from_less text_number (n + 1) (t.number + 1) texts (omega (arith, h.0)) h.1)

in_front_ascends : (joined : Bool) (n : ℕ) (bytes : List ℕ) (texts : List Text) → Ascend text_number (n + 1) texts → Ascend text_number n (in_front joined n bytes texts)
in_front_ascends joined n bytes texts h = elim (cases_part (cond joined (joining_part bytes) None)) [
  | inl e ↦ rw e (let here : n ≤ n = omega arith in (here, h))
  | inr p ↦ rw p.1 (onto_ascends n p.0 texts h)
]

texts_ascend : (joined : Bool) (n : ℕ) (ps : List (List ℕ)) → Ascend text_number n (texts_of joined n ps)
unfolding texts_of
texts_ascend joined n [] = tt
texts_ascend joined n (p ∷ ps) = in_front_ascends joined n (uncommented p) (texts_of joined (n + 1) ps) (texts_ascend joined (n + 1) ps)

with_words_ascend : (n : ℕ) (texts : List Text) → Ascend text_number n texts → Ascend line_number n (with_words (map line_of texts))
with_words_ascend n [] h = tt
with_words_ascend n (t ∷ texts) h = by (nat_lt 0 (length (words_of t.bytes))) (with_words_ascend (t.number + 1) texts h.1)
  where
    by : (b : Bool) → Ascend line_number (t.number + 1) (with_words (map line_of texts)) → Ascend line_number n (cond b (line_of t ∷ with_words (map line_of texts)) (with_words (map line_of texts)))
    by true rest = (h.0, rest)
    by false rest = from_less line_number n (t.number + 1) (with_words (map line_of texts)) (omega (arith, h.0)) rest

pub lines_ascend : (bytes : List ℕ) → Ascend line_number 1 (logical_lines true bytes)
lines_ascend bytes = with_words_ascend 1 (texts_of true 1 (physical_lines bytes)) (texts_ascend true 1 (physical_lines bytes))

pub statements_ascend : (n : ℕ) (lines : List LogicalLine) → Ascend line_number n lines → Ascend statement_number n (statements_of lines)
statements_ascend n [] h = tt
statements_ascend n (l ∷ lines) h = by (kind_of l) (grouped lines) (statements_ascend (l.number + 1) lines h.1)
  where
    by : (k : Head) (g : Grouped) → Ascend statement_number (l.number + 1) g.statements → Ascend statement_number n (grouped_behind l k g).statements
    by head.Passed g rest = from_less statement_number n (l.number + 1) g.statements (omega (arith, h.0)) rest
    by head.Row g rest = from_less statement_number n (l.number + 1) g.statements (omega (arith, h.0)) rest
    by _ g rest = (h.0, rest)
