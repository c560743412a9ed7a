-- A line is right exactly where it has no fault.
use Rattle.std.proofs.Common.{◌≡◌, ◌≤◌, ℕ, Bool, true, false, not, cond, ◌&&◌, ◌||◌, ◌==◌, List, [], ◌∷◌, ◌++◌, Option, Some, None, length, drop, map, refl, sym, subst, nat_lt, nat_le, codes}
use Rattle.design_blif.proofs.Vocabulary.{All, list_any, list_all, option_or, bytes_eq, LogicalLine, is_bad_line, Cover, DesignKind, Head}
use Rattle.design_blif.proofs.Vocabulary.{head_of, names_after, is_long, limit_at, Seen, Above}
use Rattle.std.proofs.lemmas.Bool.{ltb-true, ltb-false, le-ltb, lt-ltb, leb-false, lt-leb, eqb-true, eq-eqb, or_parts, not-false}
use Rattle.std.proofs.lemmas.List.Elements.{All-nil, All-cons, All-head, All-tail}
use Rattle.std.proofs.lemmas.Slice.Eq.{bytes_eq-Decides}
use Rattle.design_netlist.specs.declared.fault.DesignKind.TheVariants as kind
use Rattle.design_blif.specs.declared.head.Head.TheVariants as head
use Rattle.design_blif.specs.Parts.{nth_word, is_pair, actual_of, row_words, is_right_row, is_off, is_init, has_type, has_init, init_word, control_of}
use Rattle.design_blif.specs.Faults.{row_fault, same_bool, names_fault, is_other, latch_parts_fault, latch_fault, pairs_fault, subckt_fault, line_fault, model_fault, head_fault, fault_of, first_fault}
use Rattle.design_blif.specs.Right.{AreSignals, IsRow, IsNames, IsSame, IsLatch, IsSubckt, IsModel, AreRightWords, IsRightLine}
use Rattle.design_blif.specs.Grammar.{above_by, models_of, AreRight}
use Rattle.design_blif.proofs.StateLemmas.{same_bool-is}

-- ---- tests

-- a test that fails, and no fault behind it
none_if : (b : Bool) (k : DesignKind) (later : Option DesignKind) → cond b (Some k) later ≡ None → (b ≡ false) × (later ≡ None)
none_if true k later h = absurd cc
none_if false k later h = (refl, h)

if_none : (b : Bool) (k : DesignKind) (later : Option DesignKind) → b ≡ false → later ≡ None → cond b (Some k) later ≡ None
if_none b k later e h = rw e h

no_first : (first later : Option DesignKind) → option_or first later ≡ None → (first ≡ None) × (later ≡ None)
no_first None later h = (refl, h)
no_first (Some k) later h = absurd cc

not_both : (a b : Bool) → (a && b) ≡ false → a ≡ true → b ≡ false
not_both true b h e = h
not_both false b h e = absurd cc

neither_is : (a b : Bool) → a ≡ false → b ≡ false → (a || b) ≡ false
neither_is a b p q = rw (p, q) refl

is_not : (b : Bool) → b ≡ true → not b ≡ false
is_not b h = rw h refl

both_not : (a b : Bool) → (a ≡ true → b ≡ false) → (a && b) ≡ false
both_not true b h = h refl
both_not false b h = refl

-- ---- signals

abbrev IsShort : List ℕ → Type 0
IsShort w = length w ≤ 255

all_short : (words : List (List ℕ)) → list_any is_long words ≡ false → All IsShort words
all_short [] h = All-nil IsShort
all_short (w ∷ words) h =
    let p = or_parts (is_long w) (list_any is_long words) h in
    All-cons IsShort w words (ltb-false 255 (length w) p.0) (all_short words p.1)

none_long : (words : List (List ℕ)) → All IsShort words → list_any is_long words ≡ false
none_long [] h = refl
none_long (w ∷ words) h = neither_is (is_long w) (list_any is_long words) (le-ltb 255 (length w) (All-head IsShort w words h)) (none_long words (All-tail IsShort w words h))

signals_right : (names words : List (List ℕ)) → limit_at names words ≡ None → AreSignals names words
signals_right names words h =
    let p = none_if (list_any is_long words || nat_lt 65535 (length (names_after names words))) kind.Limit None h in
    let q = or_parts (list_any is_long words) (nat_lt 65535 (length (names_after names words))) p.0 in
    record { short = all_short words q.0; few = ltb-false 65535 (length (names_after names words)) q.1 }

signals_free : (names words : List (List ℕ)) → AreSignals names words → limit_at names words ≡ None
signals_free names words h =
    if_none (list_any is_long words || nat_lt 65535 (length (names_after names words))) kind.Limit None
    (neither_is (list_any is_long words) (nat_lt 65535 (length (names_after names words))) (none_long words h.short) (le-ltb 65535 (length (names_after names words)) h.few)) refl

-- ---- rows

is_same : (a b : Bool) → a ≡ b → same_bool a b ≡ true
is_same true true h = refl
is_same true false h = absurd cc
is_same false true h = absurd cc
is_same false false h = refl

module _ (c : Cover) (words : List (List ℕ)) where
  abbrev n : ℕ
  n = length c.ins

  abbrev mixed : Bool
  mixed = nat_lt 0 (length c.rows) && not (same_bool c.off (is_off n words))

  abbrev last : Option DesignKind
  last = cond (nat_le 4096 (length c.rows)) (Some kind.Limit) None

  abbrev middle : Option DesignKind
  middle = cond mixed (Some kind.RowMixed) last

  row_right : row_fault c words ≡ None → IsRow c words
  row_right h =
      let p = none_if (not (length words == row_words n)) kind.Word (cond (not (is_right_row n words)) (Some kind.Row) middle) h in
      let q = none_if (not (is_right_row n words)) kind.Row middle p.1 in
      let r = none_if mixed kind.RowMixed last q.1 in
      let s = none_if (nat_le 4096 (length c.rows)) kind.Limit None r.1 in
      record {
        words_are = eqb-true _ _ (not-false (length words == row_words n) p.0);
        shape = not-false (is_right_row n words) q.0;
        side = λ some. same_bool-is c.off (is_off n words) (not-false (same_bool c.off (is_off n words)) (not_both (nat_lt 0 (length c.rows)) (not (same_bool c.off (is_off n words))) r.0 (lt-ltb 0 (length c.rows) some)));
        few = leb-false 4096 (length c.rows) s.0;
      }

  row_free : IsRow c words → row_fault c words ≡ None
  row_free h =
      if_none (not (length words == row_words n)) kind.Word (cond (not (is_right_row n words)) (Some kind.Row) middle) (is_not (length words == row_words n) (eq-eqb _ _ h.words_are))
      (if_none (not (is_right_row n words)) kind.Row middle (is_not (is_right_row n words) h.shape)
      (if_none mixed kind.RowMixed last (both_not (nat_lt 0 (length c.rows)) (not (same_bool c.off (is_off n words))) (λ some. is_not (same_bool c.off (is_off n words)) (is_same c.off (is_off n words) (h.side (ltb-true 0 (length c.rows) some)))))
      (if_none (nat_le 4096 (length c.rows)) kind.Limit None (lt-leb 4096 (length c.rows) h.few) refl)))

-- ---- latches

same_control : (now earlier : Option (List ℕ)) → is_other now earlier ≡ false → IsSame now earlier
same_control None earlier h = tt
same_control (Some c) None h = tt
same_control (Some c) (Some d) h = (bytes_eq-Decides c d).0 (not-false (bytes_eq c d) h)

no_other : (now earlier : Option (List ℕ)) → IsSame now earlier → is_other now earlier ≡ false
no_other None earlier h = refl
no_other (Some c) None h = refl
no_other (Some c) (Some d) h = is_not (bytes_eq c d) ((bytes_eq-Decides c d).1 h)

module _ (seen : Seen) (words : List (List ℕ)) where
  abbrev ends : List (List ℕ)
  ends = nth_word 1 words ∷ nth_word 2 words ∷ []

  abbrev on_init : Option DesignKind
  on_init = cond (has_init words && not (is_init (init_word words))) (Some kind.LatchInit) None

  abbrev on_type : Option DesignKind
  on_type = cond (has_type words && not (bytes_eq (nth_word 3 words) (codes "re"))) (Some kind.LatchType) on_init

  abbrev behind : Option DesignKind
  behind = cond (is_other (control_of words) seen.control) (Some kind.Control) (limit_at seen.names ends)

  latch_right : latch_fault seen.control seen.names words ≡ None → IsLatch seen words
  unfolding latch_parts_fault
  latch_right h =
      let a = no_first (latch_parts_fault words) behind h in
      let p = none_if (nat_lt (length words) 3 || nat_lt 6 (length words)) kind.Word on_type a.0 in
      let size = or_parts (nat_lt (length words) 3) (nat_lt 6 (length words)) p.0 in
      let q = none_if (has_type words && not (bytes_eq (nth_word 3 words) (codes "re"))) kind.LatchType on_init p.1 in
      let r = none_if (has_init words && not (is_init (init_word words))) kind.LatchInit None q.1 in
      let b = none_if (is_other (control_of words) seen.control) kind.Control (limit_at seen.names ends) a.1 in
      record {
        least = ltb-false (length words) 3 size.0;
        most = ltb-false 6 (length words) size.1;
        edge = λ t. (bytes_eq-Decides (nth_word 3 words) (codes "re")).0 (not-false (bytes_eq (nth_word 3 words) (codes "re")) (not_both (has_type words) (not (bytes_eq (nth_word 3 words) (codes "re"))) q.0 t));
        init = λ t. not-false (is_init (init_word words)) (not_both (has_init words) (not (is_init (init_word words))) r.0 t);
        control = same_control (control_of words) seen.control b.0;
        signals = signals_right seen.names ends b.1;
      }

  parts_free : IsLatch seen words → latch_parts_fault words ≡ None
  unfolding latch_parts_fault
  parts_free h =
      if_none (nat_lt (length words) 3 || nat_lt 6 (length words)) kind.Word on_type (neither_is (nat_lt (length words) 3) (nat_lt 6 (length words)) (le-ltb (length words) 3 h.least) (le-ltb 6 (length words) h.most))
      (if_none (has_type words && not (bytes_eq (nth_word 3 words) (codes "re"))) kind.LatchType on_init (both_not (has_type words) (not (bytes_eq (nth_word 3 words) (codes "re"))) (λ t. is_not (bytes_eq (nth_word 3 words) (codes "re")) ((bytes_eq-Decides (nth_word 3 words) (codes "re")).1 (h.edge t))))
      (if_none (has_init words && not (is_init (init_word words))) kind.LatchInit None (both_not (has_init words) (not (is_init (init_word words))) (λ t. is_not (is_init (init_word words)) (h.init t))) refl))

  latch_free : IsLatch seen words → latch_fault seen.control seen.names words ≡ None
  latch_free h = rw (parts_free h) (if_none (is_other (control_of words) seen.control) kind.Control (limit_at seen.names ends) (no_other (control_of words) seen.control h.control) (signals_free seen.names ends h.signals))

-- ---- covers and the use of models

names_right : (names words : List (List ℕ)) → names_fault names words ≡ None → IsNames names words
names_right names words h =
    let p = none_if (nat_lt (length words) 2) kind.Word (cond (nat_lt 258 (length words)) (Some kind.Limit) (limit_at names (drop 1 words))) h in
    let q = none_if (nat_lt 258 (length words)) kind.Limit (limit_at names (drop 1 words)) p.1 in
    record { some = ltb-false (length words) 2 p.0; few = ltb-false 258 (length words) q.0; signals = signals_right names (drop 1 words) q.1 }

names_free : (names words : List (List ℕ)) → IsNames names words → names_fault names words ≡ None
names_free names words h =
    if_none (nat_lt (length words) 2) kind.Word (cond (nat_lt 258 (length words)) (Some kind.Limit) (limit_at names (drop 1 words))) (le-ltb (length words) 2 h.some)
    (if_none (nat_lt 258 (length words)) kind.Limit (limit_at names (drop 1 words)) (le-ltb 258 (length words) h.few) (signals_free names (drop 1 words) h.signals))

pairs_right : (b : Bool) → cond b None (Some kind.Word) ≡ None → b ≡ true
pairs_right true h = refl
pairs_right false h = absurd cc

subckt_right : (names words : List (List ℕ)) → subckt_fault names words ≡ None → IsSubckt names words
subckt_right names words h =
    let p = none_if (nat_lt (length words) 2) kind.Word (option_or (pairs_fault (drop 2 words)) (limit_at names (map actual_of (drop 2 words)))) h in
    let q = no_first (pairs_fault (drop 2 words)) (limit_at names (map actual_of (drop 2 words))) p.1 in
    record { some = ltb-false (length words) 2 p.0; pairs = pairs_right (list_all is_pair (drop 2 words)) q.0; signals = signals_right names (map actual_of (drop 2 words)) q.1 }

subckt_free : (names words : List (List ℕ)) → IsSubckt names words → subckt_fault names words ≡ None
subckt_free names words h =
    if_none (nat_lt (length words) 2) kind.Word (option_or (pairs_fault (drop 2 words)) (limit_at names (map actual_of (drop 2 words)))) (le-ltb (length words) 2 h.some)
    (rw h.pairs (signals_free names (map actual_of (drop 2 words)) h.signals))

-- ---- lines

end_right : (words : List (List ℕ)) → cond (length words == 1) None (Some kind.Word) ≡ None → length words ≡ 1
end_right words h = eqb-true _ _ (pairs_right (length words == 1) h)

end_free : (words : List (List ℕ)) → length words ≡ 1 → cond (length words == 1) None (Some kind.Word) ≡ None
end_free words h = rw (eq-eqb (length words) 1 h) refl

row_says : (begun ended : Bool) (names : List (List ℕ)) (o : Option Cover) (control : Option (List ℕ)) (words : List (List ℕ)) → line_fault (record { begun = begun; ended = ended; names = names; current = o; control = control }) head.Row words ≡ None → (c : Cover) × (o ≡ Some c) × IsRow c words
row_says begun ended names None control words h = absurd cc
row_says begun ended names (Some c) control words h = (c, refl, row_right c words h)

same_cover : (c d : Cover) → Some c ≡ Some d → d ≡ c
same_cover c d e = cc

row_said : (begun ended : Bool) (names : List (List ℕ)) (o : Option Cover) (control : Option (List ℕ)) (words : List (List ℕ)) → (c : Cover) × (o ≡ Some c) × IsRow c words → line_fault (record { begun = begun; ended = ended; names = names; current = o; control = control }) head.Row words ≡ None
row_said begun ended names None control words h = absurd (let no-cover = h.1 in cc)
row_said begun ended names (Some c) control words h = row_free c words (subst (λ d. IsRow d words) (same_cover c h.0 h.1) h.2)

module _ (seen : Seen) (words : List (List ℕ)) where
  abbrev placed : Option DesignKind → Option DesignKind
  placed fault = cond seen.ended (Some kind.Word) (cond (not seen.begun) (Some kind.NoModel) fault)

  in_place : (fault : Option DesignKind) {P : Type 0} → (fault ≡ None → P) → placed fault ≡ None → (seen.begun ≡ true) × (seen.ended ≡ false) × P
  in_place fault says h =
      let p = none_if seen.ended kind.Word (cond (not seen.begun) (Some kind.NoModel) fault) h in
      let q = none_if (not seen.begun) kind.NoModel fault p.1 in
      (not-false seen.begun q.0, p.0, says q.1)

  placed_free : (fault : Option DesignKind) {P : Type 0} → (P → fault ≡ None) → (seen.begun ≡ true) × (seen.ended ≡ false) × P → placed fault ≡ None
  placed_free fault said h =
      if_none seen.ended kind.Word (cond (not seen.begun) (Some kind.NoModel) fault) h.1 (if_none (not seen.begun) kind.NoModel fault (is_not seen.begun h.0) (said h.2))

  placed_right : (fault : Option DesignKind) {P : Type 0} → (fault ≡ None → P) → (P → fault ≡ None) → (placed fault ≡ None → (seen.begun ≡ true) × (seen.ended ≡ false) × P) × ((seen.begun ≡ true) × (seen.ended ≡ false) × P → placed fault ≡ None)
  placed_right fault says said = (in_place fault says, placed_free fault said)

abbrev IsOther : List ℕ → List ℕ → Type 0
IsOther w name = name ≡ w → ⊥

other_name : (w v : List ℕ) → bytes_eq w v ≡ false → IsOther w v
other_name w v h e = let same : bytes_eq w v ≡ true = (bytes_eq-Decides w v).1 (sym e) in cc

all_other : (w : List ℕ) (names : List (List ℕ)) → list_any (bytes_eq w) names ≡ false → All (IsOther w) names
all_other w [] h = All-nil (IsOther w)
all_other w (v ∷ names) h =
    let p = or_parts (bytes_eq w v) (list_any (bytes_eq w) names) h in
    All-cons (IsOther w) v names (other_name w v p.0) (all_other w names p.1)

differ : (w v : List ℕ) → IsOther w v → (b : Bool) → bytes_eq w v ≡ b → b ≡ false
differ w v h true e = absurd (h (sym ((bytes_eq-Decides w v).0 e)))
differ w v h false e = refl

none_same : (w : List ℕ) (names : List (List ℕ)) → All (IsOther w) names → list_any (bytes_eq w) names ≡ false
none_same w [] h = refl
none_same w (v ∷ names) h = neither_is (bytes_eq w v) (list_any (bytes_eq w) names) (differ w v (All-head (IsOther w) v names h) (bytes_eq w v) refl) (none_same w names (All-tail (IsOther w) v names h))

module _ (above : Above) (words : List (List ℕ)) where
  abbrev later : Option DesignKind
  later = cond (list_any (bytes_eq (nth_word 1 words)) above.models) (Some kind.SameModel) None

  model_right : model_fault above words ≡ None → IsModel above words
  model_right h =
      let p = none_if (nat_lt 2 (length words) || (above.this.begun && nat_lt (length words) 2)) kind.Word later h in
      let size = or_parts (nat_lt 2 (length words)) (above.this.begun && nat_lt (length words) 2) p.0 in
      let q = none_if (list_any (bytes_eq (nth_word 1 words)) above.models) kind.SameModel None p.1 in
      record {
        most = ltb-false 2 (length words) size.0;
        named = λ begun. ltb-false (length words) 2 (not_both above.this.begun (nat_lt (length words) 2) size.1 begun);
        differs = all_other (nth_word 1 words) above.models q.0;
      }

  model_free : IsModel above words → model_fault above words ≡ None
  model_free h =
      if_none (nat_lt 2 (length words) || (above.this.begun && nat_lt (length words) 2)) kind.Word later
      (neither_is (nat_lt 2 (length words)) (above.this.begun && nat_lt (length words) 2) (le-ltb 2 (length words) h.most) (both_not above.this.begun (nat_lt (length words) 2) (λ begun. le-ltb (length words) 2 (h.named begun))))
      (if_none (list_any (bytes_eq (nth_word 1 words)) above.models) kind.SameModel None (none_same (nth_word 1 words) above.models h.differs) refl)

  abbrev fault_on : Head → Option DesignKind
  fault_on h = line_fault above.this h words

  -- words of a head are right exactly where they have no fault
  right_words : (h : Head) → (head_fault above h words ≡ None → AreRightWords above h words) × (AreRightWords above h words → head_fault above h words ≡ None)
  right_words head.Model = (model_right, model_free)
  right_words head.Passed = (λ f. tt, λ r. refl)
  right_words head.Inputs = placed_right above.this words (fault_on head.Inputs) (signals_right above.this.names (drop 1 words)) (signals_free above.this.names (drop 1 words))
  right_words head.Outputs = placed_right above.this words (fault_on head.Outputs) (signals_right above.this.names (drop 1 words)) (signals_free above.this.names (drop 1 words))
  right_words head.Names = placed_right above.this words (fault_on head.Names) (names_right above.this.names words) (names_free above.this.names words)
  right_words head.Row = placed_right above.this words (fault_on head.Row) (row_says above.this.begun above.this.ended above.this.names above.this.current above.this.control words) (row_said above.this.begun above.this.ended above.this.names above.this.current above.this.control words)
  right_words head.Latch = placed_right above.this words (fault_on head.Latch) (latch_right above.this words) (latch_free above.this words)
  right_words head.Subckt = placed_right above.this words (fault_on head.Subckt) (subckt_right above.this.names words) (subckt_free above.this.names words)
  right_words head.Clock = placed_right above.this words (fault_on head.Clock) (λ _. tt) (λ _. refl)
  right_words head.End = placed_right above.this words (fault_on head.End) (end_right words) (end_free words)
  right_words head.LeftOut = placed_right above.this words (fault_on head.LeftOut) (λ no-fault. absurd cc) (λ no-words. absurd no-words)
  right_words head.Unknown = placed_right above.this words (fault_on head.Unknown) (λ no-fault. absurd cc) (λ no-words. absurd no-words)

line_right : (above : Above) (l : LogicalLine) → fault_of above l ≡ None → IsRightLine above l
line_right above l h =
    let p = none_if (is_bad_line l) kind.Byte (head_fault above (head_of (nth_word 0 l.words)) l.words) h in
    (p.0, (right_words above l.words (head_of (nth_word 0 l.words))).0 p.1)

line_free : (above : Above) (l : LogicalLine) → IsRightLine above l → fault_of above l ≡ None
line_free above l h = if_none (is_bad_line l) kind.Byte (head_fault above (head_of (nth_word 0 l.words)) l.words) h.0 ((right_words above l.words (head_of (nth_word 0 l.words))).1 h.1)

-- ---- texts

-- lines without a fault are right
pub right_lines : (lines above : List LogicalLine) → first_fault above lines ≡ None → AreRight above lines
unfolding first_fault AreRight
right_lines [] above h = tt
right_lines (l ∷ lines) above h = by (fault_of (above_by (models_of above)) l) refl (right_lines lines (above ++ l ∷ [])) h
  where
    by : (f : Option DesignKind) → fault_of (above_by (models_of above)) l ≡ f → (first_fault (above ++ l ∷ []) lines ≡ None → AreRight (above ++ l ∷ []) lines) → first_fault above (l ∷ lines) ≡ None → AreRight above (l ∷ lines)
    by None e rest none = (line_right (above_by (models_of above)) l e, rest (rw e at none))
    by (Some k) e rest none = absurd (let some : first_fault above (l ∷ lines) ≡ Some (l.number, k) = rw e refl in cc)

-- right lines have no fault
pub no_fault : (lines above : List LogicalLine) → AreRight above lines → first_fault above lines ≡ None
unfolding first_fault AreRight
no_fault [] above h = refl
no_fault (l ∷ lines) above h = rw (line_free (above_by (models_of above)) l h.0) (no_fault lines (above ++ l ∷ []) h.1)
