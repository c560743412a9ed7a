-- Rows stay as long as their cover's inputs, and the outputs are those of the first model.
use Rattle.std.proofs.Common.{◌≡◌, ℕ, zero, suc, ◌+◌, ◌<◌, Bool, true, false, cond, nat_lt, List, [], ◌∷◌, ◌++◌, length, map, get_or, refl, sym, ap, ◌∙◌, subst, arith}
use Rattle.design_flatten.proofs.Vocabulary.{length-map, bytes_eq, PortDef, Model, Piece, Signal}
use Rattle.design_netlist.specs.declared.netlist_data.Lit.{Lit}
use Rattle.design_flatten.specs.declared.model.Piece.TheVariants as piece
use Rattle.design_flatten.specs.Vocabulary.{put_in_order, in_order, Part, InputPart, OutputPart, CoverPart, LatchPart, UsePart, Line, input_line, output_line, piece_line, ordered_lines, number_of_line, with_place, next_place, with_places, lines_of_model, is_port, RowsFit, PiecesFit, HaveRightRows, ModelPlace, given, becomes, through, part_through, lines_at, without_ports, first_model, model_named, replace, replace_first, at_first, after}
use Rattle.design_flatten.proofs.OrderLemmas.{Each, each_in_order}

-- ---- rows

abbrev pub PartFits : {S : Type 0} → Part S → Type 0
PartFits (CoverPart out ins rows off) = RowsFit (length ins) rows
PartFits _ = Unit {0}

abbrev pub LinesFit : {S : Type 0} → List (Line S) → Type 0
LinesFit lines = Each (λ l. PartFits l.part) lines

fit_append : {S : Type 0} (xs ys : List (Line S)) → LinesFit xs → LinesFit ys → LinesFit (xs ++ ys)
fit_append [] ys h k = k
fit_append (x ∷ xs) ys h k = (h.0, fit_append xs ys h.1 k)

fit_in_order : (xs : List (Line ℕ)) → LinesFit xs → LinesFit (in_order number_of_line xs)
fit_in_order = each_in_order (λ l. PartFits l.part) number_of_line

fit_inputs : (ps : List PortDef) → LinesFit (map input_line ps)
fit_inputs [] = tt
fit_inputs (p ∷ ps) = (tt, fit_inputs ps)

fit_outputs : (ps : List PortDef) → LinesFit (map output_line ps)
fit_outputs [] = tt
fit_outputs (p ∷ ps) = (tt, fit_outputs ps)

fit_pieces : (ps : List Piece) → PiecesFit ps → LinesFit (map piece_line ps)
fit_pieces [] h = tt
fit_pieces (piece.Names c ∷ ps) h = (h.0, fit_pieces ps h.1)
fit_pieces (piece.Latch l control ∷ ps) h = (tt, fit_pieces ps h.1)
fit_pieces (piece.Inst m pairs line ∷ ps) h = (tt, fit_pieces ps h.1)

fit_places : (k : ℕ) (ls : List (Line ℕ)) → LinesFit ls → LinesFit (with_places k ls)
fit_places k [] h = tt
fit_places k (l ∷ ls) h = (by l.part h.0, fit_places (next_place k l.part) ls h.1)
  where
    by : (p : Part ℕ) → PartFits p → PartFits (with_place k p)
    by (UsePart m pairs way) h = tt
    by (InputPart s) h = tt
    by (OutputPart s) h = tt
    by (CoverPart out ins rows off) h = h
    by (LatchPart from out init control) h = tt

fit_model : (m : Model) → PiecesFit m.pieces → LinesFit (lines_of_model m)
fit_model m h = fit_places 0 (ordered_lines m) (fit_in_order (map input_line m.inputs ++ map output_line m.outputs ++ map piece_line m.pieces) (fit_append (map input_line m.inputs ++ map output_line m.outputs) (map piece_line m.pieces) (fit_append (map input_line m.inputs) (map output_line m.outputs) (fit_inputs m.inputs) (fit_outputs m.outputs)) (fit_pieces m.pieces h)))

fit_through : (at : ModelPlace) (names : List (List ℕ)) (ls : List (Line ℕ)) → LinesFit ls → LinesFit (map (through at names) ls)
fit_through at names [] h = tt
fit_through at names (l ∷ ls) h = (by l.part h.0, fit_through at names ls h.1)
  where
    by : (p : Part ℕ) → PartFits p → PartFits (part_through at (becomes at names) p)
    by (UsePart m pairs way) h = tt
    by (InputPart s) h = tt
    by (OutputPart s) h = tt
    by (CoverPart out ins rows off) h = subst (λ k. RowsFit k rows) (sym (length-map ins (becomes at names))) h
    by (LatchPart from out init control) h = tt

fit_without : (ls : List (Line Signal)) → LinesFit ls → LinesFit (without_ports ls)
fit_without [] h = tt
fit_without (l ∷ ls) h = by (is_port l.part) (fit_without ls h.1)
  where
    by : (b : Bool) → LinesFit (without_ports ls) → LinesFit (cond b (without_ports ls) (l ∷ without_ports ls))
    by true rest = rest
    by false rest = (h.0, rest)

module _ (ms : List Model) (right : HaveRightRows ms) where
  fit_first : (models : List Model) → HaveRightRows models → PiecesFit (first_model models).pieces
  fit_first [] h = tt
  fit_first (m ∷ models) h = h.0

  fit_named : (w : List ℕ) (models : List Model) → HaveRightRows models → PiecesFit (model_named models w).pieces
  fit_named w [] h = tt
  fit_named w (m ∷ models) h = by (bytes_eq m.name w) (fit_named w models h.1)
    where
      by : (b : Bool) → PiecesFit (model_named models w).pieces → PiecesFit (cond b m (model_named models w)).pieces
      by true later = h.0
      by false later = later

  fit_replaced : (k : ℕ) (ls : List (Line Signal)) → LinesFit ls → LinesFit (replace_first ms k ls)
  fit_replaced k [] h = tt
  fit_replaced k (l ∷ ls) h = by l.part h.0 (fit_replaced k ls h.1)
    where
      by : (p : Part Signal) → PartFits p → LinesFit (replace_first ms k ls) → LinesFit (replace ms k (record { number = l.number; part = p }) p ls (replace_first ms k ls))
      by (UsePart m pairs way) own later =
          let at : ModelPlace = record { used = k; way = way; actuals = given pairs } in
          let model = model_named ms m in
          fit_append (without_ports (lines_at model at)) ls (fit_without (lines_at model at) (fit_through at model.names (lines_of_model model) (fit_model model (fit_named m ms right)))) h.1
      by (InputPart s) own later = (own, later)
      by (OutputPart s) own later = (own, later)
      by (CoverPart out ins rows off) own later = (own, later)
      by (LatchPart from out init control) own later = (own, later)

  pub lines_fit : (k : ℕ) → LinesFit (after ms k)
  unfolding after
  lines_fit zero = let m = first_model ms in fit_through at_first m.names (lines_of_model m) (fit_model m (fit_first ms right))
  lines_fit (suc k) = fit_replaced (suc k) (after ms k) (lines_fit k)

pub rows_at : (k : ℕ) (rows : List (List Lit)) → RowsFit k rows → (i : ℕ) → i < length rows → length (get_or rows i []) ≡ k
rows_at k [] h i lt = absurd (let no : ⊥ = omega arith in no)
rows_at k (row ∷ rows) h zero lt = h.0
rows_at k (row ∷ rows) h (suc i) lt = rows_at k rows h.1 i (omega arith)

-- ---- outputs

abbrev pub one_output : {S : Type 0} → Part S → ℕ
one_output (OutputPart s) = 1
one_output _ = 0

abbrev pub count_outputs : {S : Type 0} → List (Line S) → ℕ
count_outputs [] = 0
count_outputs (l ∷ lines) = one_output l.part + count_outputs lines

outputs-append : {S : Type 0} (xs ys : List (Line S)) → count_outputs (xs ++ ys) ≡ count_outputs xs + count_outputs ys
outputs-append [] ys = omega arith
outputs-append (x ∷ xs) ys = omega (arith, outputs-append xs ys)

outputs-put : (x : Line ℕ) (ys : List (Line ℕ)) → count_outputs (put_in_order number_of_line x ys) ≡ one_output x.part + count_outputs ys
outputs-put x [] = refl
outputs-put x (y ∷ ys) = by (nat_lt y.number x.number) (outputs-put x ys)
  where
    by : (b : Bool) → count_outputs (put_in_order number_of_line x ys) ≡ one_output x.part + count_outputs ys → count_outputs (cond b (y ∷ put_in_order number_of_line x ys) (x ∷ y ∷ ys)) ≡ one_output x.part + (one_output y.part + count_outputs ys)
    by true later = omega (arith, later)
    by false later = refl

outputs-in_order : (xs : List (Line ℕ)) → count_outputs (in_order number_of_line xs) ≡ count_outputs xs
outputs-in_order [] = refl
outputs-in_order (x ∷ xs) = outputs-put x (in_order number_of_line xs) ∙ ap (λ k. one_output x.part + k) (outputs-in_order xs)

no_outputs-inputs : (ps : List PortDef) → count_outputs (map input_line ps) ≡ 0
no_outputs-inputs [] = refl
no_outputs-inputs (p ∷ ps) = omega (arith, no_outputs-inputs ps)

no_outputs-pieces : (ps : List Piece) → count_outputs (map piece_line ps) ≡ 0
no_outputs-pieces [] = refl
no_outputs-pieces (piece.Names c ∷ ps) = omega (arith, no_outputs-pieces ps)
no_outputs-pieces (piece.Latch l control ∷ ps) = omega (arith, no_outputs-pieces ps)
no_outputs-pieces (piece.Inst m pairs line ∷ ps) = omega (arith, no_outputs-pieces ps)

all_outputs : (ps : List PortDef) → count_outputs (map output_line ps) ≡ length ps
all_outputs [] = refl
all_outputs (p ∷ ps) = omega (arith, all_outputs ps)

outputs-places : (k : ℕ) (ls : List (Line ℕ)) → count_outputs (with_places k ls) ≡ count_outputs ls
outputs-places k [] = refl
outputs-places k (l ∷ ls) = by l.part (outputs-places (next_place k l.part) ls)
  where
    by : (p : Part ℕ) → count_outputs (with_places (next_place k l.part) ls) ≡ count_outputs ls → one_output (with_place k p) + count_outputs (with_places (next_place k l.part) ls) ≡ one_output p + count_outputs ls
    by (UsePart m pairs way) e = omega (arith, e)
    by (InputPart s) e = omega (arith, e)
    by (OutputPart s) e = omega (arith, e)
    by (CoverPart out ins rows off) e = omega (arith, e)
    by (LatchPart from out init control) e = omega (arith, e)

outputs-through : (at : ModelPlace) (names : List (List ℕ)) (ls : List (Line ℕ)) → count_outputs (map (through at names) ls) ≡ count_outputs ls
outputs-through at names [] = refl
outputs-through at names (l ∷ ls) = by l.part (outputs-through at names ls)
  where
    by : (p : Part ℕ) → count_outputs (map (through at names) ls) ≡ count_outputs ls → one_output (part_through at (becomes at names) p) + count_outputs (map (through at names) ls) ≡ one_output p + count_outputs ls
    by (UsePart m pairs way) e = omega (arith, e)
    by (InputPart s) e = omega (arith, e)
    by (OutputPart s) e = omega (arith, e)
    by (CoverPart out ins rows off) e = omega (arith, e)
    by (LatchPart from out init control) e = omega (arith, e)

outputs-without : (ls : List (Line Signal)) → count_outputs (without_ports ls) ≡ 0
outputs-without [] = refl
outputs-without (l ∷ ls) = by l.part (outputs-without ls)
  where
    by : (p : Part Signal) → count_outputs (without_ports ls) ≡ 0 → count_outputs (cond (is_port p) (without_ports ls) (record { number = l.number; part = p } ∷ without_ports ls)) ≡ 0
    by (UsePart m pairs way) e = omega (arith, e)
    by (InputPart s) e = omega (arith, e)
    by (OutputPart s) e = omega (arith, e)
    by (CoverPart out ins rows off) e = omega (arith, e)
    by (LatchPart from out init control) e = omega (arith, e)

outputs-replaced : (ms : List Model) (k : ℕ) (ls : List (Line Signal)) → count_outputs (replace_first ms k ls) ≡ count_outputs ls
outputs-replaced ms k [] = refl
outputs-replaced ms k (l ∷ ls) = by l.part (outputs-replaced ms k ls)
  where
    by : (p : Part Signal) → count_outputs (replace_first ms k ls) ≡ count_outputs ls → count_outputs (replace ms k (record { number = l.number; part = p }) p ls (replace_first ms k ls)) ≡ one_output p + count_outputs ls
    by (UsePart m pairs way) e =
        let new = without_ports (lines_at (model_named ms m) (record { used = k; way = way; actuals = given pairs })) in
        outputs-append new ls ∙ ap (λ j. j + count_outputs ls) (outputs-without (lines_at (model_named ms m) (record { used = k; way = way; actuals = given pairs })))
    by (InputPart s) e = omega (arith, e)
    by (OutputPart s) e = omega (arith, e)
    by (CoverPart out ins rows off) e = omega (arith, e)
    by (LatchPart from out init control) e = omega (arith, e)

outputs-model : (m : Model) → count_outputs (lines_of_model m) ≡ length m.outputs
outputs-model m =
    let is = map input_line m.inputs in
    let os = map output_line m.outputs in
    let ps = map piece_line m.pieces in
    let all : count_outputs (is ++ os ++ ps) ≡ length m.outputs = omega (arith, outputs-append (is ++ os) ps, outputs-append is os, no_outputs-inputs m.inputs, all_outputs m.outputs, no_outputs-pieces m.pieces) in
    outputs-places 0 (ordered_lines m) ∙ outputs-in_order (is ++ os ++ ps) ∙ all

pub outputs_are : (ms : List Model) (k : ℕ) → count_outputs (after ms k) ≡ length (first_model ms).outputs
unfolding after
outputs_are ms zero = let m = first_model ms in outputs-through at_first m.names (lines_of_model m) ∙ outputs-model m
outputs_are ms (suc k) = outputs-replaced ms (suc k) (after ms k) ∙ outputs_are ms k
