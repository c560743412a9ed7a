-- Models of which each line gives no more than is needed have the same substituted design.
use Rattle.std.proofs.Common.{◌≡◌, ℕ, zero, suc, ◌+◌, Bool, true, false, cond, List, [], ◌∷◌, ◌++◌, Option, Some, None, option_map, map, refl, ap, sym, ◌∙◌, subst, ◌||◌, get_or}
use Rattle.design_flatten.proofs.Vocabulary.{filter, flat_map, option_or, unwrap_or, bytes_eq, map-append, or-true, PortDef, Signal}
use Rattle.design_flatten.proofs.Vocabulary.{PairDef, Model, Piece, Refusal, Memory, Limit, Substituted}
use Rattle.design_flatten.specs.declared.model.Piece.TheVariants as piece
use Rattle.design_flatten.specs.declared.work.Origin.{Origin as Kept}
use Rattle.design_flatten.specs.Vocabulary.{in_order, Control, GivenControl, NamedControl, Pair, Part, InputPart, OutputPart, CoverPart, LatchPart, UsePart, Line, is_use, pair_of, input_line, output_line, piece_line, ordered_lines, number_of_line, with_place, next_place, with_places, given, ModelPlace, becomes, control_becomes, pair_through, through, part_through, lines_at, at_first, first_model, without_ports, model_named, replace_first, after, is_left, is_among, Origin, first_use, origin_of, way_to, IsSink, IsOrigin, replaced_in, IsSubstitution, IsRefused, names_on, names_within, is_needed, lean_part, lean_line, lean_piece, lean_model, lean_models}
use Rattle.design_flatten.proofs.NameLemmas.{name_is, same_name}
use Rattle.design_flatten.proofs.FrameLemmas.{pieces_at}
use Rattle.design_flatten.proofs.OrderLemmas.{in_order-map, Each, each_in_order}

abbrev line_at : {S : Type 0} → ℕ → Part S → Line S
line_at n p = record { number = n; part = p }

abbrev led : List ℕ → Model → Origin
led way m = record { model = m; way = way }

-- ---- what is given

or_nothing : {X : Type 0} (o : Option X) → option_or o None ≡ o
or_nothing None = refl
or_nothing (Some x) = refl

-- what isn't among the names is asked for by none of them
given_needed : (names : List (List ℕ)) (pairs : List (Pair Signal)) (w : List ℕ) → is_among names w ≡ true → given (filter (λ p. is_among names p.formal) pairs) w ≡ given pairs w
given_needed names [] w h = refl
given_needed names (p ∷ pairs) w h = by (is_among names p.formal) refl (bytes_eq p.formal w) refl (given_needed names pairs w h)
  where
    by : (b : Bool) → is_among names p.formal ≡ b → (d : Bool) → bytes_eq p.formal w ≡ d → given (filter (λ p. is_among names p.formal) pairs) w ≡ given pairs w → given (cond b (p ∷ filter (λ p. is_among names p.formal) pairs) (filter (λ p. is_among names p.formal) pairs)) w ≡ option_or (given pairs w) (cond d (Some p.actual) None)
    by true e d is rest = (λ i. option_or (rest i) (cond (is i) (Some p.actual) None))
    by false e false is rest = rest ∙ sym (or_nothing (given pairs w))
    by false e true is rest = absurd (let no : true ≡ false = sym h ∙ ap (is_among names) (sym (name_is p.formal w is)) ∙ e in cc)

filter-through : (q : List ℕ → Bool) (f : ℕ → Signal) (pairs : List (Pair ℕ)) → map (pair_through f) (filter (λ p. q p.formal) pairs) ≡ filter (λ p. q p.formal) (map (pair_through f) pairs)
filter-through q f [] = refl
filter-through q f (p ∷ pairs) = by (q p.formal) (filter-through q f pairs)
  where
    by : (b : Bool) → map (pair_through f) (filter (λ p. q p.formal) pairs) ≡ filter (λ p. q p.formal) (map (pair_through f) pairs) → map (pair_through f) (cond b (p ∷ filter (λ p. q p.formal) pairs) (filter (λ p. q p.formal) pairs)) ≡ cond b (pair_through f p ∷ filter (λ p. q p.formal) (map (pair_through f) pairs)) (filter (λ p. q p.formal) (map (pair_through f) pairs))
    by true rest = ap (λ ps. pair_through f p ∷ ps) rest
    by false rest = rest

pub filter-defs : (q : List ℕ → Bool) (pairs : List PairDef) → map pair_of (filter (λ p. q p.formal) pairs) ≡ filter (λ p. q p.formal) (map pair_of pairs)
filter-defs q [] = refl
filter-defs q (p ∷ pairs) = by (q p.formal) (filter-defs q pairs)
  where
    by : (b : Bool) → map pair_of (filter (λ p. q p.formal) pairs) ≡ filter (λ p. q p.formal) (map pair_of pairs) → map pair_of (cond b (p ∷ filter (λ p. q p.formal) pairs) (filter (λ p. q p.formal) pairs)) ≡ cond b (pair_of p ∷ filter (λ p. q p.formal) (map pair_of pairs)) (filter (λ p. q p.formal) (map pair_of pairs))
    by true rest = ap (λ ps. pair_of p ∷ ps) rest
    by false rest = rest

pub lean_plain_part : {S : Type 0} (ms : List Model) (p : Part S) → is_use p ≡ false → lean_part ms p ≡ p
lean_plain_part ms (InputPart s) h = refl
lean_plain_part ms (OutputPart s) h = refl
lean_plain_part ms (CoverPart out ins rows off) h = refl
lean_plain_part ms (LatchPart from out init control) h = refl
lean_plain_part ms (UsePart m pairs way) h = absurd cc

-- ---- the lines of a model

lean_piece_line : (ms : List Model) (p : Piece) → piece_line (lean_piece ms p) ≡ lean_line ms (piece_line p)
lean_piece_line ms (piece.Names c) = refl
lean_piece_line ms (piece.Latch l control) = refl
lean_piece_line ms (piece.Inst m pairs line) = ap (λ ps. line_at line (UsePart m ps [])) (filter-defs (is_needed ms m) pairs)

lean_pieces : (ms : List Model) (ps : List Piece) → map piece_line (map (lean_piece ms) ps) ≡ map (lean_line ms) (map piece_line ps)
lean_pieces ms [] = refl
lean_pieces ms (p ∷ ps) = λ i. lean_piece_line ms p i ∷ lean_pieces ms ps i

lean_inputs : (ms : List Model) (ps : List PortDef) → map (lean_line ms) (map input_line ps) ≡ map input_line ps
lean_inputs ms [] = refl
lean_inputs ms (p ∷ ps) = ap (λ ls. input_line p ∷ ls) (lean_inputs ms ps)

lean_outputs : (ms : List Model) (ps : List PortDef) → map (lean_line ms) (map output_line ps) ≡ map output_line ps
lean_outputs ms [] = refl
lean_outputs ms (p ∷ ps) = ap (λ ls. output_line p ∷ ls) (lean_outputs ms ps)

pub pieces_lean : (ms : List Model) (m : Model) → in_order number_of_line (map piece_line (lean_model ms m).pieces) ≡ map (lean_line ms) (in_order number_of_line (map piece_line m.pieces))
pieces_lean ms m =
    ap (in_order number_of_line) (lean_pieces ms m.pieces)
    ∙ sym (in_order-map (lean_line ms) number_of_line number_of_line (λ l. refl) (map piece_line m.pieces))

pub ordered_lean : (ms : List Model) (m : Model) → ordered_lines (lean_model ms m) ≡ map (lean_line ms) (ordered_lines m)
ordered_lean ms m =
    let ins = map input_line m.inputs in
    let outs = map output_line m.outputs in
    let ps = map piece_line m.pieces in
    ap (in_order number_of_line) ((λ i. sym (lean_inputs ms m.inputs) i ++ sym (lean_outputs ms m.outputs) i ++ lean_pieces ms m.pieces i)
    ∙ ap (λ xs. xs ++ map (lean_line ms) ps) (sym (map-append (lean_line ms) ins outs)) ∙ sym (map-append (lean_line ms) (ins ++ outs) ps))
    ∙ sym (in_order-map (lean_line ms) number_of_line number_of_line (λ l. refl) (ins ++ outs ++ ps))

lean_places : (ms : List Model) (k : ℕ) (ls : List (Line ℕ)) → with_places k (map (lean_line ms) ls) ≡ map (lean_line ms) (with_places k ls)
lean_places ms k [] = refl
lean_places ms k (l ∷ ls) = by l.part (lean_places ms k ls) (lean_places ms (k + 1) ls)
  where
    by : (p : Part ℕ) → with_places k (map (lean_line ms) ls) ≡ map (lean_line ms) (with_places k ls) → with_places (k + 1) (map (lean_line ms) ls) ≡ map (lean_line ms) (with_places (k + 1) ls) → with_places k (map (lean_line ms) (line_at l.number p ∷ ls)) ≡ map (lean_line ms) (with_places k (line_at l.number p ∷ ls))
    by (InputPart s) rest more = ap (λ xs. line_at l.number (InputPart s) ∷ xs) rest
    by (OutputPart s) rest more = ap (λ xs. line_at l.number (OutputPart s) ∷ xs) rest
    by (CoverPart out ins rows off) rest more = ap (λ xs. line_at l.number (CoverPart out ins rows off) ∷ xs) rest
    by (LatchPart from out init control) rest more = ap (λ xs. line_at l.number (LatchPart from out init control) ∷ xs) rest
    by (UsePart m pairs way) rest more = ap (λ xs. lean_line ms (line_at l.number (UsePart m pairs (k ∷ []))) ∷ xs) more

pub lean_named : (all ms : List Model) (w : List ℕ) → model_named (map (lean_model all) ms) w ≡ lean_model all (model_named ms w)
lean_named all [] w = refl
lean_named all (m ∷ ms) w = by (bytes_eq m.name w) (lean_named all ms w)
  where
    by : (b : Bool) → model_named (map (lean_model all) ms) w ≡ lean_model all (model_named ms w) → cond b (lean_model all m) (model_named (map (lean_model all) ms) w) ≡ lean_model all (cond b m (model_named ms w))
    by true rest = refl
    by false rest = rest

pub lean_first : (all ms : List Model) → first_model (map (lean_model all) ms) ≡ lean_model all (first_model ms)
lean_first all [] = refl
lean_first all (m ∷ ms) = refl

-- ---- lines where a model stands

abbrev named_as : List ℕ → Option Signal → Control Signal
named_as w None = NamedControl w
named_as w (Some s) = GivenControl s

control_at : (at : ModelPlace) (w : List ℕ) (o : Option Signal) → at.actuals w ≡ o → control_becomes at (NamedControl w) ≡ named_as w o
control_at at w None e = rw e refl
control_at at w (Some s) e = rw e refl

module _ (ms : List Model) (used : ℕ) (way : List ℕ) (one other : List ℕ → Option Signal) (names : List (List ℕ)) where
  abbrev A : ModelPlace
  A = record { used = used; way = way; actuals = one }

  abbrev B : ModelPlace
  B = record { used = used; way = way; actuals = other }

  -- the signal becomes the same
  abbrev Same : ℕ → Type 0
  Same s = one (get_or names s []) ≡ other (get_or names s [])

  same_signal : (s : ℕ) → Same s → becomes A names s ≡ becomes B names s
  same_signal s h = ap (λ o. unwrap_or o (record { used = used; own = s })) h

  abbrev AllSame : List ℕ → Type 0
  AllSame [] = Unit {0}
  AllSame (s ∷ ss) = Same s × AllSame ss

  same_signals : (ss : List ℕ) → AllSame ss → map (becomes A names) ss ≡ map (becomes B names) ss
  same_signals [] h = refl
  same_signals (s ∷ ss) h = λ i. same_signal s h.0 i ∷ same_signals ss h.1 i

  abbrev AllPairsSame : List (Pair ℕ) → Type 0
  AllPairsSame [] = Unit {0}
  AllPairsSame (p ∷ ps) = Same p.actual × AllPairsSame ps

  same_pairs : (ps : List (Pair ℕ)) → AllPairsSame ps → map (pair_through (becomes A names)) ps ≡ map (pair_through (becomes B names)) ps
  same_pairs [] h = refl
  same_pairs (p ∷ ps) h = λ i. record { formal = p.formal; actual = same_signal p.actual h.0 i } ∷ same_pairs ps h.1 i

  abbrev SameControl : Option (Control ℕ) → Type 0
  SameControl None = Unit {0}
  SameControl (Some (GivenControl s)) = Unit {0}
  SameControl (Some (NamedControl w)) = one w ≡ other w

  same_control : (c : Option (Control ℕ)) → SameControl c → option_map (control_becomes A) c ≡ option_map (control_becomes B) c
  same_control None h = refl
  same_control (Some (GivenControl s)) h = refl
  same_control (Some (NamedControl w)) h = ap Some (control_at A w (other w) h ∙ sym (control_at B w (other w) refl))

  -- what stands on the line becomes the same
  abbrev PartSame : Part ℕ → Type 0
  PartSame (InputPart s) = Same s
  PartSame (OutputPart s) = Same s
  PartSame (CoverPart out ins rows off) = Same out × AllSame ins
  PartSame (LatchPart from out init control) = Same from × Same out × SameControl control
  PartSame (UsePart m pairs way) = AllPairsSame pairs

  lean_through : (l : Line ℕ) → PartSame l.part → through A names (lean_line ms l) ≡ lean_line ms (through B names l)
  lean_through l h = ap (λ p. line_at l.number p) (by l.part h)
    where
      by : (p : Part ℕ) → PartSame p → part_through A (becomes A names) (lean_part ms p) ≡ lean_part ms (part_through B (becomes B names) p)
      by (InputPart s) h = ap InputPart (same_signal s h)
      by (OutputPart s) h = ap OutputPart (same_signal s h)
      by (CoverPart out ins rows off) h = λ i. CoverPart (same_signal out h.0 i) (same_signals ins h.1 i) rows off
      by (LatchPart from out init control) h = λ i. LatchPart (same_signal from h.0 i) (same_signal out h.1 i) init (same_control control h.2 i)
      by (UsePart m pairs w) h =
          ap (λ ps. UsePart m ps (way ++ w)) (filter-through (is_needed ms m) (becomes A names) pairs ∙ ap (filter (λ p. is_needed ms m p.formal)) (same_pairs pairs h))

  abbrev LinesSame : List (Line ℕ) → Type 0
  LinesSame ls = Each (λ l. PartSame l.part) ls

  same_placed : (k : ℕ) (p : Part ℕ) → PartSame p → PartSame (with_place k p)
  same_placed k (InputPart s) h = h
  same_placed k (OutputPart s) h = h
  same_placed k (CoverPart out ins rows off) h = h
  same_placed k (LatchPart from out init control) h = h
  same_placed k (UsePart m pairs w) h = h

  lean_lines_through : (k : ℕ) (ls : List (Line ℕ)) → LinesSame ls → map (through A names) (map (lean_line ms) (with_places k ls)) ≡ map (lean_line ms) (map (through B names) (with_places k ls))
  lean_lines_through k [] h = refl
  lean_lines_through k (l ∷ ls) h =
      λ i. lean_through (line_at l.number (with_place k l.part)) (same_placed k l.part h.0) i ∷ lean_lines_through (next_place k l.part) ls h.1 i

  same_order : (ls : List (Line ℕ)) → LinesSame ls → LinesSame (in_order number_of_line ls)
  same_order = each_in_order (λ l. PartSame l.part) number_of_line

  -- ---- by the names on the lines

  module _ (within : List (List ℕ)) (same : (w : List ℕ) → is_among within w ≡ true → one w ≡ other w) where
    -- all of these are within
    abbrev AreWithin : List (List ℕ) → Type 0
    AreWithin [] = Unit {0}
    AreWithin (w ∷ ws) = (is_among within w ≡ true) × AreWithin ws

    within_split : (xs ys : List (List ℕ)) → AreWithin (xs ++ ys) → AreWithin xs × AreWithin ys
    within_split [] ys h = (tt, h)
    within_split (x ∷ xs) ys h = let p = within_split xs ys h.1 in ((h.0, p.0), p.1)

    signals_within : (ss : List ℕ) → AreWithin (map (λ s. get_or names s []) ss) → AllSame ss
    signals_within [] h = tt
    signals_within (s ∷ ss) h = (same (get_or names s []) h.0, signals_within ss h.1)

    pairs_within : (ps : List PairDef) → AreWithin (map (λ p. get_or names p.actual []) ps) → AllPairsSame (map pair_of ps)
    pairs_within [] h = tt
    pairs_within (p ∷ ps) h = (same (get_or names p.actual []) h.0, pairs_within ps h.1)

    piece_within : (p : Piece) → AreWithin (names_on names p) → PartSame (piece_line p).part
    piece_within (piece.Names c) h = (same (get_or names c.out []) h.0, signals_within c.ins h.1)
    piece_within (piece.Latch l None) h = (same (get_or names l.from []) h.0, same (get_or names l.out []) h.1.0, tt)
    piece_within (piece.Latch l (Some w)) h = (same (get_or names l.from []) h.0, same (get_or names l.out []) h.1.0, same w h.1.1.0)
    piece_within (piece.Inst m pairs line) h = pairs_within pairs h

    pieces_within : (ps : List Piece) → AreWithin (flat_map (names_on names) ps) → LinesSame (map piece_line ps)
    pieces_within [] h = tt
    pieces_within (p ∷ ps) h =
        let both = within_split (names_on names p) (flat_map (names_on names) ps) h in
        (piece_within p both.0, pieces_within ps both.1)

    all_within : (ns : List (List ℕ)) → ((w : List ℕ) → is_among ns w ≡ true → is_among within w ≡ true) → AreWithin ns
    all_within [] h = tt
    all_within (n ∷ ns) h =
        (h n (ap (λ b. b || is_among ns n) (same_name n)), all_within ns (λ w e. h w (ap (λ b. bytes_eq w n || b) e ∙ or-true (bytes_eq w n))))

  -- ---- where the same is given for every name

  module _ (same : (w : List ℕ) → one w ≡ other w) where
    all_signals : (ss : List ℕ) → AllSame ss
    all_signals [] = tt
    all_signals (s ∷ ss) = (same (get_or names s []), all_signals ss)

    all_pairs : (ps : List (Pair ℕ)) → AllPairsSame ps
    all_pairs [] = tt
    all_pairs (p ∷ ps) = (same (get_or names p.actual []), all_pairs ps)

    any_control : (c : Option (Control ℕ)) → SameControl c
    any_control None = tt
    any_control (Some (GivenControl s)) = tt
    any_control (Some (NamedControl w)) = same w

    any_part : (p : Part ℕ) → PartSame p
    any_part (InputPart s) = same (get_or names s [])
    any_part (OutputPart s) = same (get_or names s [])
    any_part (CoverPart out ins rows off) = (same (get_or names out []), all_signals ins)
    any_part (LatchPart from out init control) = (same (get_or names from []), same (get_or names out []), any_control control)
    any_part (UsePart m pairs w) = all_pairs pairs

    all_lines : (ls : List (Line ℕ)) → LinesSame ls
    all_lines [] = tt
    all_lines (l ∷ ls) = (any_part l.part, all_lines ls)

-- what stands for a line that uses the model
model_through : (ms : List Model) (k : ℕ) (way : List ℕ) (m : Model) (pairs : List (Pair Signal)) →
    without_ports (lines_at (lean_model ms m) (record { used = k; way = way; actuals = given (filter (λ p. is_among (names_within m) p.formal) pairs) }))
    ≡ map (lean_line ms) (without_ports (lines_at m (record { used = k; way = way; actuals = given pairs })))
model_through ms k way m pairs =
    let one = given (filter (λ p. is_among (names_within m) p.formal) pairs) in
    let other = given pairs in
    let ps = map piece_line m.pieces in
    let same : (w : List ℕ) → is_among (names_within m) w ≡ true → one w ≡ other w = λ w e. given_needed (names_within m) pairs w e in
    let within = all_within ms k way one other m.names (names_within m) same (names_within m) (λ w e. e) in
    let lines = same_order ms k way one other m.names ps (pieces_within ms k way one other m.names (names_within m) same m.pieces within) in
    pieces_at (lean_model ms m) (record { used = k; way = way; actuals = one })
    ∙ ap (λ ls. map (through (record { used = k; way = way; actuals = one }) m.names) (with_places 0 ls)) (pieces_lean ms m)
    ∙ ap (map (through (record { used = k; way = way; actuals = one }) m.names)) (lean_places ms 0 (in_order number_of_line ps))
    ∙ lean_lines_through ms k way one other m.names 0 (in_order number_of_line ps) lines
    ∙ ap (map (lean_line ms)) (sym (pieces_at m (record { used = k; way = way; actuals = other })))

first_through : (ms : List Model) (m : Model) → lines_at (lean_model ms m) at_first ≡ map (lean_line ms) (lines_at m at_first)
first_through ms m =
    ap (λ ls. map (through at_first m.names) (with_places 0 ls)) (ordered_lean ms m)
    ∙ ap (map (through at_first m.names)) (lean_places ms 0 (ordered_lines m))
    ∙ lean_lines_through ms 0 [] (λ w. None) (λ w. None) m.names 0 (ordered_lines m) (all_lines ms 0 [] (λ w. None) (λ w. None) m.names (λ w. refl) (ordered_lines m))

-- ---- the substituted design

lean_replace : (ms : List Model) (k : ℕ) (ls : List (Line Signal)) → replace_first (lean_models ms) k (map (lean_line ms) ls) ≡ map (lean_line ms) (replace_first ms k ls)
lean_replace ms k [] = refl
lean_replace ms k (l ∷ ls) = by l.part (lean_replace ms k ls)
  where
    by : (p : Part Signal) → replace_first (lean_models ms) k (map (lean_line ms) ls) ≡ map (lean_line ms) (replace_first ms k ls) → replace_first (lean_models ms) k (map (lean_line ms) (line_at l.number p ∷ ls)) ≡ map (lean_line ms) (replace_first ms k (line_at l.number p ∷ ls))
    by (InputPart s) rest = ap (λ xs. line_at l.number (InputPart s) ∷ xs) rest
    by (OutputPart s) rest = ap (λ xs. line_at l.number (OutputPart s) ∷ xs) rest
    by (CoverPart out ins rows off) rest = ap (λ xs. line_at l.number (CoverPart out ins rows off) ∷ xs) rest
    by (LatchPart from out init control) rest = ap (λ xs. line_at l.number (LatchPart from out init control) ∷ xs) rest
    by (UsePart m pairs way) rest =
        let M = model_named ms m in
        let lean : ModelPlace = record { used = k; way = way; actuals = given (filter (λ p. is_among (names_within M) p.formal) pairs) } in
        ap (λ x. without_ports (lines_at x lean) ++ map (lean_line ms) ls) (lean_named ms ms m)
        ∙ ap (λ xs. xs ++ map (lean_line ms) ls) (model_through ms k way M pairs)
        ∙ sym (map-append (lean_line ms) (without_ports (lines_at M (record { used = k; way = way; actuals = given pairs }))) ls)

lean_after : (ms : List Model) (k : ℕ) → after (lean_models ms) k ≡ map (lean_line ms) (after ms k)
unfolding after
lean_after ms zero = ap (λ m. lines_at m at_first) (lean_first ms ms) ∙ first_through ms (first_model ms)
lean_after ms (suc k) = ap (replace_first (lean_models ms) (suc k)) (lean_after ms k) ∙ lean_replace ms (suc k) (after ms k)

left_lean : (ms : List Model) (ls : List (Line Signal)) → is_left (map (lean_line ms) ls) ≡ is_left ls
left_lean ms [] = refl
left_lean ms (l ∷ ls) = λ i. by l.part i || left_lean ms ls i
  where
    by : (p : Part Signal) → is_use (lean_part ms p) ≡ is_use p
    by (InputPart s) = refl
    by (OutputPart s) = refl
    by (CoverPart out ins rows off) = refl
    by (LatchPart from out init control) = refl
    by (UsePart m pairs way) = refl

-- where no line uses a model
plain_lean : (ms : List Model) (ls : List (Line Signal)) → is_left ls ≡ false → map (lean_line ms) ls ≡ ls
plain_lean ms [] h = refl
plain_lean ms (l ∷ ls) h = by l.part h (plain_lean ms ls)
  where
    by : (p : Part Signal) → (is_use p || is_left ls) ≡ false → (is_left ls ≡ false → map (lean_line ms) ls ≡ ls) → map (lean_line ms) (line_at l.number p ∷ ls) ≡ line_at l.number p ∷ ls
    by (UsePart m pairs way) h rest = absurd cc
    by (InputPart s) h rest = ap (λ xs. line_at l.number (InputPart s) ∷ xs) (rest h)
    by (OutputPart s) h rest = ap (λ xs. line_at l.number (OutputPart s) ∷ xs) (rest h)
    by (CoverPart out ins rows off) h rest = ap (λ xs. line_at l.number (CoverPart out ins rows off) ∷ xs) (rest h)
    by (LatchPart from out init control) h rest = ap (λ xs. line_at l.number (LatchPart from out init control) ∷ xs) (rest h)

same_design : (ms : List Model) (k : ℕ) → is_left (after ms k) ≡ false → after (lean_models ms) k ≡ after ms k
same_design ms k none = lean_after ms k ∙ plain_lean ms (after ms k) none

none_left : (ms : List Model) (k : ℕ) → is_left (after (lean_models ms) k) ≡ false → is_left (after ms k) ≡ false
none_left ms k none = sym (left_lean ms (after ms k)) ∙ ap is_left (sym (lean_after ms k)) ∙ none

abbrev lean_origin : List Model → Origin → Origin
lean_origin ms o = led o.way (lean_model ms o.model)

lean_use : (ms : List Model) (ls : List (Line Signal)) → first_use (lean_models ms) (map (lean_line ms) ls) ≡ lean_origin ms (first_use ms ls)
lean_use ms [] = ap (led []) (lean_first ms ms)
lean_use ms (l ∷ ls) = by l.part (lean_use ms ls)
  where
    by : (p : Part Signal) → first_use (lean_models ms) (map (lean_line ms) ls) ≡ lean_origin ms (first_use ms ls) → first_use (lean_models ms) (map (lean_line ms) (line_at l.number p ∷ ls)) ≡ lean_origin ms (first_use ms (line_at l.number p ∷ ls))
    by (InputPart s) rest = rest
    by (OutputPart s) rest = rest
    by (CoverPart out ins rows off) rest = rest
    by (LatchPart from out init control) rest = rest
    by (UsePart m pairs way) rest = ap (led way) (lean_named ms ms m)

origin_is : (ms : List Model) (k : ℕ) → origin_of (lean_models ms) k ≡ lean_origin ms (origin_of ms k)
origin_is ms zero = ap (led []) (lean_first ms ms)
origin_is ms (suc k) = ap (first_use (lean_models ms)) (lean_after ms k) ∙ lean_use ms (after ms k)

way_is : (ms : List Model) (k : ℕ) → way_to (lean_models ms) k ≡ way_to ms k
way_is ms k = ap (λ (o : Origin). o.way) (origin_is ms k)

names_are : (ms : List Model) (k : ℕ) → (origin_of (lean_models ms) k).model.names ≡ (origin_of ms k).model.names
names_are ms k = ap (λ (o : Origin). o.model.names) (origin_is ms k)

origin_kept : (ms : List Model) (k : ℕ) (o : Kept) → IsOrigin (lean_models ms) k o → IsOrigin ms k o
origin_kept ms zero o h = h ∙ names_are ms 0
origin_kept ms (suc k) o h =
    (h.0 ∙ names_are ms (suc k), h.1, sym (way_is ms (suc k)) ∙ h.2 ∙ ap (λ w. w ++ o.place ∷ []) (way_is ms o.within))

-- the substituted design of the models
pub whole_design : (ms : List Model) (s : Substituted) → IsSubstitution (lean_models ms) s → IsSubstitution ms s
whole_design ms s h =
    let k = replaced_in s in
    let none = none_left ms k h.substituted.none_left in
    let same = same_design ms k none in
    let names : (first_model (lean_models ms)).names ≡ (first_model ms).names = ap (λ (m : Model). m.names) (lean_first ms ms) in
    record {
      sink = subst (λ ls. IsSink (first_model ms).names ls s.sink) same (subst (λ ns. IsSink ns (after (lean_models ms) k) s.sink) names h.sink);
      most = h.most;
      substituted = record { reached = refl; none_left = none };
      count = h.count;
      origins = λ j o lt. origin_kept ms j (get_or s.origins.items j o) (h.origins j o lt);
    }

pub whole_refused : (ms : List Model) (e : Refusal) → IsRefused (lean_models ms) e → IsRefused ms e
whole_refused ms Memory h = tt
whole_refused ms Limit h = λ k lines le s. h k lines le (record {
  reached = s.reached ∙ sym (same_design ms k (ap is_left (sym s.reached) ∙ s.none_left));
  none_left = s.none_left;
})
