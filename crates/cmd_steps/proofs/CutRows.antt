-- A prefix of the lines of rows: whole lines, and then a line that is cut.
use Rattle.std.proofs.Common.{◌≡◌, ℕ, ◌+◌, ◌-◌, ◌<◌, ◌≤◌, Bool, List, [], ◌∷◌, ◌++◌, length, take, flat_map, refl, sym, ap, ◌∙◌, arith, append_assoc, length-append, subst}
use Rattle.std.proofs.lemmas.List.{take-append-le, append-nil}
use Rattle.cmd_steps.proofs.Vocabulary.{take-append-add, row_line}
use native.Mathlib.Decide.{dec_lt}

pub some-line : (row : List Bool) → 0 < length (row_line row)
some-line [] = omega arith
some-line (bit ∷ bits) = omega arith

pub none-waits : (rows : List (List Bool)) → [] ≡ flat_map row_line rows → length rows ≡ 0
none-waits [] none = refl
none-waits (row ∷ rows) none =
    let size : 0 ≡ length (row_line row) + length (flat_map row_line rows) = ap length none ∙ length-append (row_line row) (flat_map row_line rows) in
    absurd (let never : ⊥ = omega (arith, size, some-line row) in never)

pub first-of : (rows : List (List Bool)) → 0 < length (flat_map row_line rows) → (row : List Bool) × (more : List (List Bool)) × (rows ≡ row ∷ more)
first-of [] some = absurd (let never : ⊥ = omega (arith, some) in never)
first-of (row ∷ rows) some = (row, rows, refl)

-- so many bytes are the lines of these rows, and then a part of this one's line
pub record IsCutAt (rows : List (List Bool)) (n : ℕ) : Type 0 where
  pub front : List (List Bool)
  pub row : List Bool
  pub more : List (List Bool)
  pub part : ℕ
  pub split : rows ≡ front ++ row ∷ more
  pub cut : take n (flat_map row_line rows) ≡ flat_map row_line front ++ take part (row_line row)

-- within the first line
cut-first : (row : List Bool) (rows : List (List Bool)) (n : ℕ) → n ≤ length (row_line row) → IsCutAt (row ∷ rows) n
cut-first row rows n few = record {
  front = [];
  row = row;
  more = rows;
  part = n;
  split = refl;
  cut = take-append-le n (row_line row) (flat_map row_line rows) few;
}

-- or behind it
cut-later : (row : List Bool) (rows : List (List Bool)) (n : ℕ) → IsCutAt rows n → IsCutAt (row ∷ rows) (length (row_line row) + n)
cut-later row rows n c = record {
  front = row ∷ c.front;
  row = c.row;
  more = c.more;
  part = c.part;
  split = ap (λ t. row ∷ t) c.split;
  cut = take-append-add (row_line row) (flat_map row_line rows) n ∙ (ap (λ t. row_line row ++ t) c.cut
      ∙ sym (append_assoc (row_line row) (flat_map row_line c.front) (take c.part (row_line c.row))));
}

-- the last line, whole
cut-last : (row : List Bool) (n : ℕ) → IsCutAt (row ∷ []) n
cut-last row n = record {
  front = [];
  row = row;
  more = [];
  part = n;
  split = refl;
  cut = ap (take n) (append-nil (row_line row));
}

cut-in : (row : List Bool) (rows : List (List Bool)) (n : ℕ) → IsCutAt (row ∷ rows) n
cut-in row [] n = cut-last row n
cut-in row (next ∷ rows) n = by (cut-in next rows (n - length (row_line row))) (dec_lt (length (row_line row)) n)
  where
    by : IsCutAt (next ∷ rows) (n - length (row_line row)) → Dec (length (row_line row) < n) → IsCutAt (row ∷ next ∷ rows) n
    by later (no few) = cut-first row (next ∷ rows) n (omega arith)
    by later (yes many) =
        let behind : length (row_line row) + (n - length (row_line row)) ≡ n = omega arith in
        subst (λ k. IsCutAt (row ∷ next ∷ rows) k) behind (cut-later row (next ∷ rows) (n - length (row_line row)) later)

pub cut-of : (rows : List (List Bool)) (n : ℕ) → 0 < length (flat_map row_line rows) → IsCutAt rows n
cut-of [] n some = absurd (let never : ⊥ = omega (arith, some) in never)
cut-of (row ∷ rows) n some = cut-in row rows n
