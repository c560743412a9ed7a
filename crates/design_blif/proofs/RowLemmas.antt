-- The rows of models that are read are as long as their cover's inputs.
use Rattle.std.proofs.Common.{option_map, ◌≡◌, ℕ, Bool, true, false, not, cond, List, [], ◌∷◌, ◌++◌, Option, Some, None, Result, Ok, Err, length, map, refl, ◌∙◌, subst, ◌&&◌, ◌==◌, IfOk}
use Rattle.design_blif.proofs.Vocabulary.{option_to_list, Vec, DesignFault, eqb-true, length-map, LogicalLine, is_bad_line, Cover, Lit}
use Rattle.design_blif.proofs.Vocabulary.{DesignKind, Model, Piece, Names, RowsFit, PiecesFit, HaveRightRows, Head, head_of, row_fault}
use Rattle.design_blif.proofs.Vocabulary.{placed_fault, fault_of, head_fault, State, after_head, closed_pieces}
use Rattle.design_netlist.specs.declared.fault.DesignKind.TheVariants as kind
use Rattle.design_blif.specs.declared.head.Head.TheVariants as head
use Rattle.design_blif.specs.Parts.{nth_word, lit_of, pattern, row_words, is_right_row}
use Rattle.design_blif.specs.Runs.{Gives, TextState, text_start, text_after_head, text_after, above_of, last_model, model_from, run, ended, whole}
use Rattle.design_blif.proofs.ModelsLemmas.{not_bad, run_by}
use Rattle.design_blif.proofs.StateLemmas.{placed_row}

abbrev CurrentFits : Option Cover → Type 0
CurrentFits None = Unit {0}
CurrentFits (Some c) = RowsFit (length c.ins) c.rows

pub record StateFits (s : State) : Type 0 where
  pub pieces : PiecesFit s.pieces
  pub current : CurrentFits s.seen.current

pieces_fit-append : (ps qs : List Piece) → PiecesFit ps → PiecesFit qs → PiecesFit (ps ++ qs)
pieces_fit-append [] qs h k = k
pieces_fit-append (p ∷ ps) qs h k = (h.0, pieces_fit-append ps qs h.1 k)

rows_fit-push : (n : ℕ) (rows : List (List Lit)) (row : List Lit) → RowsFit n rows → length row ≡ n → RowsFit n (rows ++ row ∷ [])
rows_fit-push n [] row h e = (e, tt)
rows_fit-push n (r ∷ rows) row h e = (h.0, rows_fit-push n rows row h.1 e)

closed_fits : (s : State) → StateFits s → PiecesFit (closed_pieces s)
closed_fits s h = pieces_fit-append s.pieces _ h.pieces (by s.seen.current h.current)
  where
    by : (o : Option Cover) → CurrentFits o → PiecesFit (option_to_list (option_map Names o))
    by None c = tt
    by (Some d) c = (c, tt)

and_left : (a b : Bool) → (a && b) ≡ true → a ≡ true
and_left true b h = refl
and_left false b h = absurd cc

right_row : (c : Cover) (words : List (List ℕ)) → row_fault c words ≡ None → length (pattern (length c.ins) words) ≡ length c.ins
right_row c words h = by (not (length words == row_words (length c.ins))) (is_right_row (length c.ins) words) _ refl h
  where
    by : (a b : Bool) (later : Option DesignKind) → is_right_row (length c.ins) words ≡ b → cond a (Some kind.Word) (cond (not b) (Some kind.Row) later) ≡ None → length (pattern (length c.ins) words) ≡ length c.ins
    by true b later e h = absurd cc
    by false false later e h = absurd cc
    by false true later e h =
        let first = and_left _ _ (and_left _ _ e) in
        eqb-true _ _ first

-- a line without a fault
fits_after : (s : State) (h : Head) (line : ℕ) (words : List (List ℕ)) → StateFits s → placed_fault s.seen h words ≡ None → StateFits (after_head s h line words)
fits_after s head.Model line words is p = record { pieces = closed_fits s is; current = tt }
fits_after s head.Inputs line words is p = record { pieces = closed_fits s is; current = tt }
fits_after s head.Outputs line words is p = record { pieces = closed_fits s is; current = tt }
fits_after s head.Names line words is p = record { pieces = closed_fits s is; current = tt }
fits_after s head.Latch line words is p = record { pieces = pieces_fit-append (closed_pieces s) _ (closed_fits s is) (tt, tt); current = tt }
fits_after s head.End line words is p = record { pieces = closed_fits s is; current = tt }
fits_after s head.Clock line words is p = record { pieces = closed_fits s is; current = tt }
fits_after s head.Subckt line words is p = record { pieces = pieces_fit-append (closed_pieces s) _ (closed_fits s is) (tt, tt); current = tt }
fits_after s head.LeftOut line words is p = is
fits_after s head.Passed line words is p = is
fits_after s head.Unknown line words is p = is
fits_after s head.Row line words is p =
    let r = placed_row s.seen.ended s.seen.begun s.seen.names s.seen.current s.seen.control words p in
    let c = r.0 in
    let old : RowsFit (length c.ins) c.rows = subst CurrentFits r.1 is.current in
    let new = rows_fit-push (length c.ins) c.rows (map lit_of (pattern (length c.ins) words)) old (length-map (pattern (length c.ins) words) lit_of ∙ right_row c words r.2) in
    record { pieces = is.pieces; current = rw r.1 new }

pub record TextFits (t : TextState) : Type 0 where
  pub done : HaveRightRows t.done
  pub this : StateFits t.this

models_fit-append : (ms ns : List Model) → HaveRightRows ms → HaveRightRows ns → HaveRightRows (ms ++ ns)
models_fit-append [] ns h k = k
models_fit-append (m ∷ ms) ns h k = (h.0, models_fit-append ms ns h.1 k)

all_fit : (t : TextState) → TextFits t → HaveRightRows (t.done ++ last_model t)
all_fit t is = models_fit-append t.done (last_model t) is.done (by t.this.seen.begun)
  where
    by : (b : Bool) → HaveRightRows (cond b (model_from t.name t.this ∷ []) [])
    by true = (closed_fits t.this is.this, tt)
    by false = tt

text_fits_after : (t : TextState) (l : LogicalLine) → TextFits t → fault_of (above_of t) l ≡ None → TextFits (text_after t l)
text_fits_after t l is none = by (head_of (nth_word 0 l.words)) (not_bad (is_bad_line l) (head_fault (above_of t) (head_of (nth_word 0 l.words)) l.words) none)
  where
    by : (h : Head) → head_fault (above_of t) h l.words ≡ None → TextFits (text_after_head t h l.number l.words)
    by head.Model p = record { done = all_fit t is; this = record { pieces = tt; current = tt } }
    by h p = record { done = is.done; this = fits_after t.this h l.number l.words is.this p }

run_fits : (lines : List LogicalLine) (t u : TextState) → TextFits t → run t lines ≡ Ok u → TextFits u
run_fits lines t u is e = run_by (λ t lines u. TextFits t → TextFits u) (λ t is. is) (λ t u l lines none below is. below (text_fits_after t l is none)) lines t u e is

abbrev no_line : ℕ × DesignKind
no_line = (0, kind.NoModel)

pub whole_fits : (lines : List LogicalLine) (models : List Model) → whole lines ≡ Ok models → HaveRightRows models
whole_fits lines models e = by (run text_start lines) refl e
  where
    by : (r : Result TextState (ℕ × DesignKind)) → run text_start lines ≡ r → ended r ≡ Ok models → HaveRightRows models
    by (Err f) is h = absurd cc
    by (Ok t) is h = with_begun t.this.seen.begun h
      where
        fits : TextFits t
        fits = run_fits lines text_start t (record { done = tt; this = record { pieces = tt; current = tt } }) is

        with_begun : (b : Bool) → cond b (Ok (t.done ++ last_model t)) (Err no_line) ≡ Ok models → HaveRightRows models
        with_begun true h = let same : t.done ++ last_model t ≡ models = cc in subst HaveRightRows same (all_fit t fits)
        with_begun false h = absurd cc

pub right_rows : (lines : List LogicalLine) (r : Result (Vec Model) DesignFault) → Gives (λ v. v.items) r (whole lines) → IfOk r (λ v. HaveRightRows v.items)
right_rows lines (Ok v) h = whole_fits lines v.items h
right_rows lines (Err e) h = tt
