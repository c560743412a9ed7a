-- Rows of two copies, each of which is the first copy's and then the second's.
use Rattle.std.proofs.Common.{◌≡◌, ◌+◌, ◌∙◌, ℕ, Bool, List, [], ◌∷◌, ◌++◌, map, length, take, drop, get_or, refl, sym, ap, subst, arith, length-append}
use Rattle.cmd_twice.proofs.Vocabulary.{AllByRecursion, take_at, drop_at, length-map, Pins, ImageValue, image_row, NetlistData}
use Rattle.cmd_twice.proofs.Vocabulary.{side_by_side, AreBothRows, all_repeated, HalvesDiffer, Two}
use Rattle.design_netlist.specs.Rows.{AreRows, RowsFrom, next_state, first_state, HasOneRows}

abbrev pub AreWide : ℕ → List (List Bool) → Type 0
AreWide n rows = AllByRecursion (λ (row : List Bool). length row ≡ n) rows

-- ---- rows that are repeated

-- what is repeated is half as wide
pub half-wide : (n : ℕ) (rows : List (List Bool)) → AreWide (n + n) (all_repeated Two rows) → AreWide n rows
half-wide n [] wide = tt
half-wide n (row ∷ rows) wide =
    let size = length-append row row in
    let all = wide.0 in
    (omega (arith, size, all), half-wide n rows wide.1)

pub fronts-are : (n : ℕ) (rows : List (List Bool)) → AreWide n rows → map (take n) (all_repeated Two rows) ≡ rows
fronts-are n [] wide = refl
fronts-are n (row ∷ rows) wide = λ j. take_at row row n wide.0 j ∷ fronts-are n rows wide.1 j

pub backs-are : (n : ℕ) (rows : List (List Bool)) → AreWide n rows → map (drop n) (all_repeated Two rows) ≡ rows
backs-are n [] wide = refl
backs-are n (row ∷ rows) wide = λ j. drop_at row row n wide.0 j ∷ backs-are n rows wide.1 j

-- ---- rows of designs

-- a row has a bit for each output, and there is one for each vector
rows-wide : (d : NetlistData) (state : List Bool) (vectors rows : List (List Bool)) → RowsFrom d state vectors rows → AreWide (length d.outputs) rows × (length rows ≡ length vectors)
rows-wide d state [] [] are = (tt, refl)
rows-wide d state [] (row ∷ rows) are = absurd are
rows-wide d state (vector ∷ vectors) [] are = absurd are
rows-wide d state (vector ∷ vectors) (row ∷ rows) are =
    let more = rows-wide d (next_state d are.0) vectors rows are.3 in
    let wide : length row ≡ length d.outputs = ap length are.2 ∙ length-map d.outputs _ in
    let count = more.1 in
    ((wide, more.0), omega (arith, count))

pub are-wide : (d : NetlistData) (vectors rows : List (List Bool)) → AreRows d vectors rows → AreWide (length d.outputs) rows
are-wide d vectors rows are = (rows-wide d (first_state d) vectors rows are).0

pub are-count : (d : NetlistData) (vectors rows : List (List Bool)) → AreRows d vectors rows → length rows ≡ length vectors
are-count d vectors rows are = (rows-wide d (first_state d) vectors rows are).1

-- what is read at the output pins of an image has a bit for each
pub read-wide : (i : ImageValue) (reads : List Pins) → AreWide (length i.outputs) (map (image_row i) reads)
read-wide i [] = tt
read-wide i (read ∷ reads) = (length-map i.outputs _, read-wide i reads)

-- ---- rows side by side

sides-front : (n : ℕ) (first second : List (List Bool)) → AreWide n first → length first ≡ length second → map (take n) (side_by_side first second) ≡ first
sides-front n [] second wide same = refl
sides-front n (row ∷ first) [] wide same = absurd (let no : ⊥ = omega (arith, same) in no)
sides-front n (row ∷ first) (other ∷ second) wide same =
    let more : length first ≡ length second = omega (arith, same) in
    λ j. take_at row other n wide.0 j ∷ sides-front n first second wide.1 more j

-- the first design's rows are the fronts of the rows of two copies
pub front-rows : (d : NetlistData) (vectors rows : List (List Bool)) → AreWide (length d.inputs) vectors → AreBothRows d d (all_repeated Two vectors) rows
    → (right : List (List Bool)) × AreRows d vectors right × (map (take (length d.outputs)) rows ≡ right)
front-rows d vectors rows wide both =
    let n = length d.inputs in
    let one : AreRows d vectors both.first_rows = subst (λ (vs : List (List Bool)). AreRows d vs both.first_rows) (fronts-are n vectors wide) both.are_first in
    let other : AreRows d vectors both.second_rows = subst (λ (vs : List (List Bool)). AreRows d vs both.second_rows) (backs-are n vectors wide) both.are_second in
    let same = are-count d vectors both.first_rows one ∙ sym (are-count d vectors both.second_rows other) in (
      both.first_rows,
      one,
      ap (map (take (length d.outputs))) both.rows_are ∙ sides-front (length d.outputs) both.first_rows both.second_rows (are-wide d vectors both.first_rows one) same,
    )

-- ---- halves that differ

-- each row of the same rows side by side is one of them, twice
in-sides : (n : ℕ) (rows front rest : List (List Bool)) (row : List Bool) → AreWide n rows → side_by_side rows rows ≡ front ++ row ∷ rest → (half : List Bool) × (length half ≡ n) × (row ≡ half ++ half)
in-sides n [] [] rest row wide is = absurd (cc)
in-sides n [] (first ∷ front) rest row wide is = absurd (cc)
in-sides n (half ∷ rows) [] rest row wide is = (half, wide.0, sym (ap (λ (rs : List (List Bool)). get_or rs 0 []) is))
in-sides n (half ∷ rows) (first ∷ front) rest row wide is = in-sides n rows front rest row wide.1 (ap (λ (rs : List (List Bool)). drop 1 rs) is)

never-apart : (n : ℕ) (half row : List Bool) → length half ≡ n → row ≡ half ++ half → HalvesDiffer row → ⊥
never-apart n half row size is apart =
    let same : half ++ half ≡ apart.first ++ apart.second = sym is ∙ apart.bits_are in
    let long : length half + length half ≡ length apart.first + length apart.second = sym (length-append half half) ∙ (ap length same ∙ length-append apart.first apart.second) in
    let halves = apart.halves in
    let first : length apart.first ≡ length half = omega (arith, long, halves) in
    let one : half ≡ apart.first = sym (take_at half half (length half) refl) ∙ (ap (take (length half)) same ∙ take_at apart.first apart.second (length half) first) in
    let other : half ≡ apart.second = sym (drop_at half half (length half) refl) ∙ (ap (drop (length half)) same ∙ drop_at apart.first apart.second (length half) first) in
    apart.differ (sym one ∙ other)

-- under one set of faults no halves differ: both copies have the one list of rows
pub never-differ : (d : NetlistData) (vectors front rest : List (List Bool)) (row : List Bool) → AreWide (length d.inputs) vectors → HasOneRows d vectors
    → AreBothRows d d (all_repeated Two vectors) (front ++ row ∷ rest) → HalvesDiffer row → ⊥
never-differ d vectors front rest row wide only both apart =
    let n = length d.inputs in
    let one : AreRows d vectors both.first_rows = subst (λ (vs : List (List Bool)). AreRows d vs both.first_rows) (fronts-are n vectors wide) both.are_first in
    let other : AreRows d vectors both.second_rows = subst (λ (vs : List (List Bool)). AreRows d vs both.second_rows) (backs-are n vectors wide) both.are_second in
    let same : both.second_rows ≡ both.first_rows = only.2 both.second_rows other ∙ sym (only.2 both.first_rows one) in
    let is : side_by_side both.first_rows both.first_rows ≡ front ++ row ∷ rest = ap (side_by_side both.first_rows) (sym same) ∙ sym both.rows_are in
    let half = in-sides (length d.outputs) both.first_rows front rest row (are-wide d vectors both.first_rows one) is in
    never-apart (length d.outputs) half.0 row half.1 half.2 apart
