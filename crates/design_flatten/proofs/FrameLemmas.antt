-- The lines of a model without its ports.
use Rattle.std.proofs.Common.{◌≡◌, ℕ, ◌≤◌, Bool, true, false, cond, nat_lt, List, [], ◌∷◌, ◌++◌, map, refl, ap, sym, ◌∙◌, arith, ◌+◌, append_assoc, inl, inr, Some, None}
use Rattle.design_flatten.specs.{declared.given.Given.Given, Given.looked_up}
use Rattle.design_flatten.specs.Vocabulary.{place_of, put_in_order, in_order, Part, InputPart, OutputPart, CoverPart, LatchPart, UsePart, Line, is_port, input_line, output_line, piece_line, ordered_lines, number_of_line, with_places, ModelPlace, through, lines_at, without_ports, first_model, at_first}
use Rattle.design_flatten.proofs.Vocabulary.{slice_get, cases_Bool, cond-true, cond-false, ltb-false, le-ltb, PortDef, Model, Piece, Signal}
use Rattle.design_flatten.specs.declared.model.Piece.TheVariants as piece
use Rattle.design_flatten.proofs.OrderLemmas.{Rises, AreAtLeast, Rises-in_order}

abbrev no_ports : List (Line ℕ) → List (Line ℕ)
no_ports [] = []
no_ports (l ∷ ls) = cond (is_port l.part) (no_ports ls) (l ∷ no_ports ls)

abbrev n : Line ℕ → ℕ
n = number_of_line

-- in front of all that come later
put_first : (x : Line ℕ) (ys : List (Line ℕ)) → AreAtLeast n (n x) ys → put_in_order n x (no_ports ys) ≡ x ∷ no_ports ys
put_first x [] h = refl
put_first x (y ∷ ys) h = by (is_port y.part) (put_first x ys h.1)
  where
    stays : nat_lt (n y) (n x) ≡ false
    stays = le-ltb _ _ h.0

    by : (b : Bool) → put_in_order n x (no_ports ys) ≡ x ∷ no_ports ys → put_in_order n x (cond b (no_ports ys) (y ∷ no_ports ys)) ≡ x ∷ cond b (no_ports ys) (y ∷ no_ports ys)
    by true later = later
    by false later = cond-false _ _ _ stays

later : (k m : ℕ) (ys : List (Line ℕ)) → k ≤ m → AreAtLeast n m ys → AreAtLeast n k ys
later k m [] le h = tt
later k m (y ∷ ys) le h = let first = h.0 in (omega arith, later k m ys le h.1)

no_ports-put : (x : Line ℕ) (ys : List (Line ℕ)) → Rises n ys → no_ports (put_in_order n x ys) ≡ cond (is_port x.part) (no_ports ys) (put_in_order n x (no_ports ys))
no_ports-put x [] h = refl
no_ports-put x (y ∷ ys) h = elim (cases_Bool (nat_lt (n y) (n x))) [
  | inl past ↦
      ap no_ports (cond-true _ _ _ past) ∙ ap (λ l. cond (is_port y.part) l (y ∷ l)) (no_ports-put x ys h.1) ∙ before (is_port x.part) (is_port y.part) past
  | inr stays ↦
      let le : n x ≤ n y = ltb-false _ _ stays in
      ap no_ports (cond-false _ _ _ stays) ∙ ap (λ l. cond (is_port x.part) (no_ports (y ∷ ys)) l) (sym (put_first x (y ∷ ys) (le, later (n x) (n y) ys le h.0)))
]
  where
    before : (p q : Bool) → nat_lt (n y) (n x) ≡ true → cond q (cond p (no_ports ys) (put_in_order n x (no_ports ys))) (y ∷ cond p (no_ports ys) (put_in_order n x (no_ports ys))) ≡ cond p (cond q (no_ports ys) (y ∷ no_ports ys)) (put_in_order n x (cond q (no_ports ys) (y ∷ no_ports ys)))
    before true true past = refl
    before true false past = refl
    before false true past = refl
    before false false past = sym (cond-true _ _ _ past)

no_ports-in_order : (xs : List (Line ℕ)) → no_ports (in_order n xs) ≡ in_order n (no_ports xs)
no_ports-in_order [] = refl
no_ports-in_order (x ∷ xs) = no_ports-put x (in_order n xs) (Rises-in_order n xs) ∙ by (is_port x.part) (no_ports-in_order xs)
  where
    by : (b : Bool) → no_ports (in_order n xs) ≡ in_order n (no_ports xs) → cond b (no_ports (in_order n xs)) (put_in_order n x (no_ports (in_order n xs))) ≡ in_order n (cond b (no_ports xs) (x ∷ no_ports xs))
    by true rest = rest
    by false rest = ap (put_in_order n x) rest

-- ---- of a model

no_ports-pieces : (ps : List Piece) → no_ports (map piece_line ps) ≡ map piece_line ps
no_ports-pieces [] = refl
no_ports-pieces (piece.Names c ∷ ps) = ap (λ l. piece_line (piece.Names c) ∷ l) (no_ports-pieces ps)
no_ports-pieces (piece.Latch l control ∷ ps) = ap (λ x. piece_line (piece.Latch l control) ∷ x) (no_ports-pieces ps)
no_ports-pieces (piece.Inst m pairs line ∷ ps) = ap (λ l. piece_line (piece.Inst m pairs line) ∷ l) (no_ports-pieces ps)

no_ports-outputs : (ps : List PortDef) (ls : List (Line ℕ)) → no_ports (map output_line ps ++ ls) ≡ no_ports ls
no_ports-outputs [] ls = refl
no_ports-outputs (p ∷ ps) ls = no_ports-outputs ps ls

no_ports-inputs : (ps : List PortDef) (ls : List (Line ℕ)) → no_ports (map input_line ps ++ ls) ≡ no_ports ls
no_ports-inputs [] ls = refl
no_ports-inputs (p ∷ ps) ls = no_ports-inputs ps ls

pieces_left : (m : Model) → no_ports (ordered_lines m) ≡ in_order n (map piece_line m.pieces)
pieces_left m =
    no_ports-in_order (map input_line m.inputs ++ map output_line m.outputs ++ map piece_line m.pieces)
    ∙ ap (in_order n) (ap no_ports (append_assoc (map input_line m.inputs) (map output_line m.outputs) (map piece_line m.pieces)) ∙ no_ports-inputs m.inputs (map output_line m.outputs ++ map piece_line m.pieces) ∙ no_ports-outputs m.outputs (map piece_line m.pieces) ∙ no_ports-pieces m.pieces)

module _ (at : ModelPlace) (names : List (List ℕ)) where
  abbrev T : List (Line ℕ) → List (Line Signal)
  T ls = map (through at names) ls

  without : (k : ℕ) (ls : List (Line ℕ)) → without_ports (T (with_places k ls)) ≡ T (with_places k (no_ports ls))
  without k [] = refl
  without k (l ∷ ls) = by l.part (without k ls) (without (k + 1) ls)
    where
      by : (p : Part ℕ) → without_ports (T (with_places k ls)) ≡ T (with_places k (no_ports ls)) → without_ports (T (with_places (k + 1) ls)) ≡ T (with_places (k + 1) (no_ports ls)) → without_ports (T (with_places k (record { number = l.number; part = p } ∷ ls))) ≡ T (with_places k (no_ports (record { number = l.number; part = p } ∷ ls)))
      by (InputPart s) rest more = rest
      by (OutputPart s) rest more = rest
      by (CoverPart out ins rows off) rest more = ap (λ xs. through at names (record { number = l.number; part = CoverPart out ins rows off }) ∷ xs) rest
      by (LatchPart from out init control) rest more = ap (λ xs. through at names (record { number = l.number; part = LatchPart from out init control }) ∷ xs) rest
      by (UsePart m pairs way) rest more = ap (λ xs. through at names (record { number = l.number; part = UsePart m pairs (k ∷ []) }) ∷ xs) more

-- what replaces a line
pub pieces_at : (m : Model) (at : ModelPlace) → without_ports (lines_at m at) ≡ map (through at m.names) (with_places 0 (in_order n (map piece_line m.pieces)))
pieces_at m at = without at m.names 0 (ordered_lines m) ∙ ap (λ ls. map (through at m.names) (with_places 0 ls)) (pieces_left m)

pub first_found : (ms : List Model) (m : Model) → Some m ≡ slice_get ms 0 → first_model ms ≡ m
first_found [] m h = absurd cc
first_found (x ∷ ms) m h = cc

-- where nothing is given
pub place_is : (g : Given) → g.used ≡ 0 → ((w : List ℕ) → looked_up g w ≡ None) → place_of g [] ≡ at_first
place_is g used none = λ i. record { used = used i; way = []; actuals = λ w. none w i }
