-- The netlist that is read from the substituted design is well made.
use Rattle.std.proofs.Common.{◌≡◌, ℕ, ◌+◌, ◌<◌, ◌≤◌, false, List, [], ◌∷◌, length, map, refl, sym, ap, ◌∙◌, subst, arith, sum_by, nat_lt}
use Rattle.design_flatten.proofs.Vocabulary.{All, flat_map, or_parts, ltb-false, length-map, All-nil, All-cons, All-append, sum_by-cons}
use Rattle.design_flatten.proofs.Vocabulary.{NetlistData, Cover, LatchDef, PortDef, Model, Signal}
use Rattle.design_netlist.specs.Vocabulary.{cover_at, no_cover, IsCoverOver, word, word_at, cover_characters, IsWellMade, latch_at}
use Rattle.design_netlist.proofs.MadeLemmas.{made_of}
use Rattle.design_flatten.specs.Vocabulary.{Part, InputPart, OutputPart, CoverPart, LatchPart, UsePart, Line, HaveRightRows, first_model, signal_number, words_in, words_on, signals_of, size_in, size_of, is_over, printed, input_on, output_on, cover_on, latch_on, IsReadFrom, IsWithin, drive_on, read_on, drives_in, reads_in}
use Rattle.design_flatten.proofs.KnownLemmas.{IsKnown, AreKnown, number_below, lines_known, known_split, numbers_below}
use Rattle.design_flatten.proofs.FitLemmas.{PartFits, LinesFit, lines_fit, rows_at, count_outputs, outputs_are}

module _ (S : List Signal) where
  module _ {X : Type 0} (P : X → Type 0) (f : Line Signal → List X) (one : (l : Line Signal) → AreKnown S (words_on l) → PartFits l.part → All P (f l)) where
    each : (lines : List (Line Signal)) → AreKnown S (flat_map words_on lines) → LinesFit lines → All P (flat_map f lines)
    each [] known fit = All-nil P
    each (l ∷ lines) known fit =
        let p = known_split S (words_on l) (flat_map words_on lines) known in
        All-append P (f l) (flat_map f lines) (one l p.0 fit.0) (each lines p.1 fit.1)

  module _ {X : Type 0} (P : X → Type 0) (f : Line Signal → List X) (one : (l : Line Signal) → AreKnown S (words_on l) → All P (f l)) where
    each_known : (lines : List (Line Signal)) → AreKnown S (flat_map words_on lines) → All P (flat_map f lines)
    each_known [] known = All-nil P
    each_known (l ∷ lines) known =
        let p = known_split S (words_on l) (flat_map words_on lines) known in
        All-append P (f l) (flat_map f lines) (one l p.0) (each_known lines p.1)

  abbrev pub Below : PortDef → Type 0
  Below w = w.signal < length S

  one_word : (line : ℕ) (s : Signal) → IsKnown S s → All Below (word line (signal_number S s) ∷ [])
  one_word line s h = All-cons Below (word line (signal_number S s)) [] (number_below S s h) (All-nil Below)

  words_below : (line : ℕ) (ins : List Signal) → AreKnown S ins → All Below (map (λ s. word line (signal_number S s)) ins)
  words_below line [] h = All-nil Below
  words_below line (s ∷ ins) h = All-cons Below (word line (signal_number S s)) (map (λ s. word line (signal_number S s)) ins) (number_below S s h.0) (words_below line ins h.1)

  drive_and_read_below : (l : Line Signal) → AreKnown S (words_on l) → All Below (drive_on S l) × All Below (read_on S l)
  drive_and_read_below l = by l.part
    where
      by : (p : Part Signal) → AreKnown S (words_in p) → All Below (drive_on S (record { number = l.number; part = p })) × All Below (read_on S (record { number = l.number; part = p }))
      by (InputPart s) known = (one_word l.number s known.0, All-nil Below)
      by (OutputPart s) known = (All-nil Below, one_word l.number s known.0)
      by (CoverPart out ins rows off) known = let k = known_split S ins (out ∷ []) known in (one_word l.number out k.1.0, words_below l.number ins k.0)
      by (LatchPart from out init control) known = (one_word l.number out known.1.0, one_word l.number from known.0)
      by (UsePart m pairs way) known = (All-nil Below, All-nil Below)

  -- ports drive and are read
  ports_below : (l : Line Signal) → AreKnown S (words_on l) → All Below (input_on S l) × All Below (output_on S l)
  ports_below l known = by l.part (drive_and_read_below l known)
    where
      by : (p : Part Signal) → let k : Line Signal = record { number = l.number; part = p } in All Below (drive_on S k) × All Below (read_on S k) → All Below (input_on S k) × All Below (output_on S k)
      by (InputPart s) below = below
      by (OutputPart s) below = below
      by _ below = (All-nil Below, All-nil Below)

  abbrev IsOver : Cover → Type 0
  IsOver c = IsCoverOver c (length S)

  cover_below : (l : Line Signal) → AreKnown S (words_on l) → PartFits l.part → All IsOver (cover_on S l)
  cover_below l = by l.part
    where
      by : (p : Part Signal) → AreKnown S (words_in p) → PartFits p → All IsOver (cover_on S (record { number = l.number; part = p }))
      by (InputPart s) known fit = All-nil IsOver
      by (OutputPart s) known fit = All-nil IsOver
      by (CoverPart out ins rows off) known fit =
          let p = known_split S ins (out ∷ []) known in
          All-cons IsOver (record { out = signal_number S out; ins = map (signal_number S) ins; rows = rows; off = off; line = l.number }) []
          (record {
            out = number_below S out p.1.0;
            ins = λ k lk. numbers_below S ins p.0 k 0 lk;
            rows = λ k lk. rows_at (length ins) rows fit k lk ∙ sym (length-map ins (signal_number S));
          })
          (All-nil IsOver)
      by (LatchPart from out init control) known fit = All-nil IsOver
      by (UsePart m pairs way) known fit = All-nil IsOver

  abbrev IsLatchBelow : LatchDef → Type 0
  IsLatchBelow l = (l.out < length S) × (l.from < length S)

  latch_below : (l : Line Signal) → AreKnown S (words_on l) → All IsLatchBelow (latch_on S l)
  latch_below l = by l.part
    where
      by : (p : Part Signal) → AreKnown S (words_in p) → All IsLatchBelow (latch_on S (record { number = l.number; part = p }))
      by (InputPart s) known = All-nil IsLatchBelow
      by (OutputPart s) known = All-nil IsLatchBelow
      by (CoverPart out ins rows off) known = All-nil IsLatchBelow
      by (LatchPart from out init control) known =
          All-cons IsLatchBelow (record { from = signal_number S from; out = signal_number S out; init = init; line = l.number }) [] (number_below S out known.1.0, number_below S from known.0) (All-nil IsLatchBelow)
      by (UsePart m pairs way) known = All-nil IsLatchBelow

  characters_are : (lines : List (Line Signal)) → sum_by cover_characters (flat_map (cover_on S) lines) ≡ size_of lines
  characters_are [] = refl
  characters_are (l ∷ lines) = by l.part (characters_are lines)
    where
      plain : (p : Part Signal) → size_in p ≡ 0 → sum_by cover_characters (flat_map (cover_on S) lines) ≡ size_of lines → sum_by cover_characters (flat_map (cover_on S) lines) ≡ size_of (record { number = l.number; part = p } ∷ lines)
      plain p none e = omega (arith, e, none, sum_by-cons (λ l. size_in l.part) (record { number = l.number; part = p }) lines)

      by : (p : Part Signal) → sum_by cover_characters (flat_map (cover_on S) lines) ≡ size_of lines → sum_by cover_characters (flat_map (cover_on S) (record { number = l.number; part = p } ∷ lines)) ≡ size_of (record { number = l.number; part = p } ∷ lines)
      by (CoverPart out ins rows off) e =
          let k : Line Signal = record { number = l.number; part = CoverPart out ins rows off } in
          let c : Cover = record { out = signal_number S out; ins = map (signal_number S) ins; rows = rows; off = off; line = l.number } in
          sum_by-cons cover_characters c (flat_map (cover_on S) lines) ∙ ap (λ m. cover_characters c + m) e ∙ sym (sum_by-cons (λ l. size_in l.part) k lines)
      by (InputPart s) e = plain (InputPart s) refl e
      by (OutputPart s) e = plain (OutputPart s) refl e
      by (LatchPart from out init control) e = plain (LatchPart from out init control) refl e
      by (UsePart m pairs way) e = plain (UsePart m pairs way) refl e

  outputs_length : (lines : List (Line Signal)) → length (flat_map (output_on S) lines) ≡ count_outputs lines
  outputs_length [] = refl
  outputs_length (l ∷ lines) = by l.part (outputs_length lines)
    where
      by : (p : Part Signal) → length (flat_map (output_on S) lines) ≡ count_outputs lines → length (flat_map (output_on S) (record { number = l.number; part = p } ∷ lines)) ≡ count_outputs (record { number = l.number; part = p } ∷ lines)
      by (InputPart s) e = omega (arith, e)
      by (OutputPart s) e = omega (arith, e)
      by (CoverPart out ins rows off) e = omega (arith, e)
      by (LatchPart from out init control) e = omega (arith, e)
      by (UsePart m pairs way) e = omega (arith, e)

-- ---- within the limits

pub signals_within : (lines : List (Line Signal)) → is_over lines ≡ false → length (signals_of lines) ≤ 65535
signals_within lines h = ltb-false 65535 (length (signals_of lines)) (or_parts (nat_lt 65535 (length (signals_of lines))) (nat_lt 16777216 (size_of lines)) h).0

size_within : (lines : List (Line Signal)) → is_over lines ≡ false → size_of lines ≤ 16777216
size_within lines h = ltb-false 16777216 (size_of lines) (or_parts (nat_lt 65535 (length (signals_of lines))) (nat_lt 16777216 (size_of lines)) h).1

pub drives_below : (lines : List (Line Signal)) → All (Below (signals_of lines)) (drives_in lines)
drives_below lines = let S = signals_of lines in each_known S (Below S) (drive_on S) (λ l known. (drive_and_read_below S l known).0) lines (lines_known lines)

pub reads_below : (lines : List (Line Signal)) → All (Below (signals_of lines)) (reads_in lines)
reads_below lines = let S = signals_of lines in each_known S (Below S) (read_on S) (λ l known. (drive_and_read_below S l known).1) lines (lines_known lines)

module _ (ms : List Model) (right : HaveRightRows ms) (lines : List (Line Signal)) (within : IsWithin ms lines) where
  abbrev S : List Signal
  S = signals_of lines

  fit : LinesFit lines
  fit = subst LinesFit (sym within.substituted.reached) (lines_fit ms right within.replaced)

  pub well_made : (d : NetlistData) → IsReadFrom ms lines d → length (first_model ms).outputs ≤ 16777216 → IsWellMade d
  well_made d h few =
      let len : length S ≡ length d.names = sym (ap length h.names ∙ length-map S (printed ms)) in
      let covers = subst (All (IsOver S)) (sym h.covers) (each S (IsOver S) (cover_on S) (cover_below S) lines (lines_known lines) fit) in
      let inputs = subst (All (Below S)) (sym h.inputs) (each_known S (Below S) (input_on S) (λ l known. (ports_below S l known).0) lines (lines_known lines)) in
      let outputs = subst (All (Below S)) (sym h.outputs) (each_known S (Below S) (output_on S) (λ l known. (ports_below S l known).1) lines (lines_known lines)) in
      let latches = subst (All (IsLatchBelow S)) (sym h.latches) (each_known S (IsLatchBelow S) (latch_on S) (latch_below S) lines (lines_known lines)) in
      made_of d
      (λ i li. subst (λ m. IsCoverOver (cover_at d.covers i) m) len (covers i no_cover li))
      (λ k lk. subst (λ m. (word_at d.inputs k).signal < m) len (inputs k (word 0 0) lk))
      (λ k lk. subst (λ m. (word_at d.outputs k).signal < m) len (outputs k (word 0 0) lk))
      (λ k lk. subst (λ m. ((latch_at d.latches k).out < m) × ((latch_at d.latches k).from < m)) len (latches k (record { from = 0; out = 0; init = false; line = 0 }) lk))
      (omega (arith, len, signals_within lines within.within))
      (omega (arith, ap length h.outputs, outputs_length S lines, ap count_outputs within.substituted.reached, outputs_are ms within.replaced))
      (omega (arith, ap (sum_by cover_characters) h.covers, characters_are S lines, size_within lines within.within))
