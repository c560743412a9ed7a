-- The lines that are written.
use Rattle.std.proofs.Common.{◌≡◌, ℕ, suc, ◌+◌, Bool, true, false, if◌then◌else◌, List, [], ◌∷◌, ◌++◌, map, refl, sym, ap, ◌∙◌, arith, append_assoc, append-nil}
use Rattle.std.specs.FinSet as sets
use Rattle.machine_defects.proofs.Vocabulary.{wires_of, crosses_of, tables_of, map-append, Shape, written, written_line, Entry}
use Rattle.machine_defects.specs.Vocabulary.{DefectList, those, numerals, entry_words, as_wire, as_cross, as_table, entries_of, counts_of, first_row, shape_row, end_row, text_of}
use Rattle.machine_defects.proofs.Numerals.{shape_spaced}

written-append : (a b : List (List (List ℕ))) → written (a ++ b) ≡ written a ++ written b
written-append [] b = refl
written-append (r ∷ a) b = ap (λ t. written_line r ++ t) (written-append a b) ∙ sym (append_assoc (written_line r) (written a) (written b))

-- the lines of the numbers below one more
lines_more : (m : Shape) (mk : ℕ → Entry) (f : ℕ → Bool) (n : ℕ) → written (map (entry_words m) (map mk (those f (n + 1)))) ≡ written (map (entry_words m) (map mk (those f n))) ++ (if f n then written_line (entry_words m (mk n)) else [])
lines_more m mk f n =
    ap (λ k. written (map (entry_words m) (map mk (those f k)))) (let e : n + 1 ≡ suc n = omega arith in e)
    ∙ ap (λ es. written (map (entry_words m) es)) (map-append mk (those f n) (if f n then n ∷ [] else []))
    ∙ ap written (map-append (entry_words m) (map mk (those f n)) (map mk (if f n then n ∷ [] else [])))
    ∙ written-append (map (entry_words m) (map mk (those f n))) (map (entry_words m) (map mk (if f n then n ∷ [] else [])))
    ∙ ap (λ t. written (map (entry_words m) (map mk (those f n))) ++ t) (last (f n))
  where
    last : (b : Bool) → written (map (entry_words m) (map mk (if b then n ∷ [] else []))) ≡ (if b then written_line (entry_words m (mk n)) else [])
    last true = append-nil (written_line (entry_words m (mk n)))
    last false = refl

pub wrote_more : (m n : Shape) (mk : ℕ → Entry) (f : ℕ → Bool) (k : ℕ) (b : Bool) (old now more : List ℕ) → n ≡ m → b ≡ f k → now ≡ old ++ written (map (entry_words m) (map mk (those f k))) → more ≡ now ++ (if b then written_line (entry_words n (mk k)) else []) → more ≡ old ++ written (map (entry_words m) (map mk (those f (k + 1))))
wrote_more m n mk f k b old now more same is so_far e =
    e ∙ (λ i. so_far i ++ (if is i then written_line (entry_words (same i) (mk k)) else []))
    ∙ append_assoc old (written (map (entry_words m) (map mk (those f k)))) (if f k then written_line (entry_words m (mk k)) else [])
    ∙ ap (λ t. old ++ t) (sym (lines_more m mk f k))

-- the parts of a text
abbrev pub wires_text : DefectList → List ℕ
wires_text d = written (map (entry_words d.shape) (map as_wire (those (sets.contains d.list.wires) (wires_of d.shape))))

abbrev pub crosses_text : DefectList → List ℕ
crosses_text d = written (map (entry_words d.shape) (map as_cross (those (sets.contains d.list.crosses) (crosses_of d.shape))))

abbrev pub tables_text : DefectList → List ℕ
tables_text d = written (map (entry_words d.shape) (map as_table (those (sets.contains d.list.tables) (tables_of d.shape))))

entries_text : (d : DefectList) → written (map (entry_words d.shape) (entries_of d)) ≡ (wires_text d ++ crosses_text d) ++ tables_text d
entries_text d =
    let w = map as_wire (those (sets.contains d.list.wires) (wires_of d.shape)) in
    let x = map as_cross (those (sets.contains d.list.crosses) (crosses_of d.shape)) in
    let t = map as_table (those (sets.contains d.list.tables) (tables_of d.shape)) in
    ap written (map-append (entry_words d.shape) (w ++ x) t) ∙ written-append (map (entry_words d.shape) (w ++ x)) (map (entry_words d.shape) t)
    ∙ ap (λ z. z ++ tables_text d) (ap written (map-append (entry_words d.shape) w x) ∙ written-append (map (entry_words d.shape) w) (map (entry_words d.shape) x))

pub text_is : (d : DefectList) (m : Shape) (t0 t1 t2 t3 t4 t5 : List ℕ) → m ≡ d.shape → t0 ≡ [] → t1 ≡ t0 ++ (written_line first_row ++ written_line (shape_row (counts_of m.counts))) → t2 ≡ t1 ++ wires_text d → t3 ≡ t2 ++ crosses_text d → t4 ≡ t3 ++ tables_text d → t5 ≡ t4 ++ written_line end_row → t5 ≡ text_of d
unfolding text_of
text_is d m t0 t1 t2 t3 t4 t5 same e0 e1 e2 e3 e4 e5 =
    let heads : t1 ≡ written_line first_row ++ written_line (shape_row (counts_of d.shape.counts)) = e1 ∙ (λ i. e0 i ++ (written_line first_row ++ written_line (shape_row (counts_of (same i).counts)))) in
    let all : t4 ≡ (((written_line first_row ++ written_line (shape_row (counts_of d.shape.counts))) ++ wires_text d) ++ crosses_text d) ++ tables_text d =
    e4 ∙ ap (λ z. z ++ tables_text d) (e3 ∙ ap (λ z. z ++ crosses_text d) (e2 ∙ ap (λ z. z ++ wires_text d) heads)) in
    e5 ∙ ap (λ z. z ++ written_line end_row) (all ∙ gather (written_line first_row) (written_line (shape_row (counts_of d.shape.counts))) (wires_text d) (crosses_text d) (tables_text d) ∙ ap (λ z. written_line first_row ++ (written_line (shape_row (counts_of d.shape.counts)) ++ z)) (sym (entries_text d)))
  where
    gather : (a b w x t : List ℕ) → (((a ++ b) ++ w) ++ x) ++ t ≡ a ++ (b ++ ((w ++ x) ++ t))
    gather a b w x t =
        ap (λ z. z ++ t) (append_assoc (a ++ b) w x) ∙ append_assoc (a ++ b) (w ++ x) t ∙ append_assoc a b ((w ++ x) ++ t)

-- the first two lines
pub heads_are : (ns counts t0 t1 t2 t3 : List ℕ) → ns ≡ counts → t1 ≡ t0 ++ (written_line first_row ++ 115 ∷ 104 ∷ 97 ∷ 112 ∷ 101 ∷ []) → t2 ≡ t1 ++ numerals ns → t3 ≡ t2 ++ 10 ∷ [] → t3 ≡ t0 ++ (written_line first_row ++ written_line (shape_row counts))
heads_are ns counts t0 t1 t2 t3 same e1 e2 e3 =
    e3 ∙ ap (λ z. z ++ 10 ∷ []) (e2 ∙ (λ i. e1 i ++ numerals (same i)))
    ∙ append_assoc (t0 ++ (written_line first_row ++ 115 ∷ 104 ∷ 97 ∷ 112 ∷ 101 ∷ [])) (numerals counts) (10 ∷ []) ∙ append_assoc t0 (written_line first_row ++ 115 ∷ 104 ∷ 97 ∷ 112 ∷ 101 ∷ []) (numerals counts ++ 10 ∷ [])
    ∙ ap (λ z. t0 ++ (written_line first_row ++ (z ++ 10 ∷ []))) (sym (shape_spaced counts))
