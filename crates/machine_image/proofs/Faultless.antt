-- The bytes of an image have no fault.
use Rattle.std.proofs.Common.{◌≡◌, ℕ, zero, suc, ◌+◌, ◌^◌, ◌<◌, ◌≤◌, List, [], ◌∷◌, ◌++◌, Bool, true, false, Option, Some, None, length, drop, get_or, All, refl, sym, ap, ◌∙◌, subst, arith, ◌≢◌, ◌==◌, if◌then◌else◌}
use Rattle.machine_image.proofs.Vocabulary.{flat_map, range_with_len, list_any, AllPairs, nat_tests, append_assoc, append-nil}
use Rattle.machine_image.proofs.Vocabulary.{length-append, length-drop, get_or-append, list_any_none, big_bytes, Shape, pins_of, tables_of}
use Rattle.machine_image.proofs.Vocabulary.{crosses_of, most_ticks, most_closed, Setting, CellsFit, is_closed, setting_of, ImageKind}
use Rattle.std.proofs.Math.Seq.{get_or-append_seam}
use Rattle.machine_image.specs.Vocabulary.{counts_of, magic, count_fault, ticks_fault, most_fault, closed_fault, pin_fault, above_fault, flags_fault, InField, InEnd, InCrosses, InTables, InPins, InTicks, InCounts, InImage, ImageValue, two, four, on_at, tables_on, closed_in, flags_of, table_bytes, IsImage, image_bytes, Bounds}
use Rattle.machine_image.proofs.Bytes.{behind_number, number_within, same_number}
use Rattle.machine_image.proofs.Whole.{Each, each_of, Small, Fits, few_flags, few_pins, few_on, few_closed, on_within, closed_within, closed_few, tail}

-- a right number is passed
pass : {size : ℕ} {fault_of : ℕ → Option ImageKind} {B : ℕ → Type 0} {bytes : List ℕ} {l : ℕ} {k : ImageKind} {at : ℕ} (n : ℕ) (more : List ℕ) → 0 < size → n < 256 ^ size → drop at bytes ≡ big_bytes size n ++ more → fault_of n ≡ None →
    InField bytes l k at size fault_of B → B n × (drop (at + size) bytes ≡ more)
pass {size} {fault_of} {B} {bytes} {l} {k} {at} n more pos small text right (InField.cut h _ _) = absurd (let no : ⊥ = omega (arith, h, number_within size n bytes more at pos small text) in no)
pass {size} {fault_of} {B} {bytes} {l} {k} {at} n more pos small text right (InField.wrong j s w _) =
    let no : None ≡ Some k = sym right ∙ ap fault_of (sym (same_number size n bytes more at pos small text j s)) ∙ w in cc
pass {size} {fault_of} {B} {bytes} {l} {k} {at} n more pos small text right (InField.behind j s r b) =
    (subst B (same_number size n bytes more at pos small text j s) b, behind_number size n bytes more at pos small text)

module _ (m : Shape) (bytes : List ℕ) (l : ℕ) (k : ImageKind) where
  -- ---- counts
  pass_counts : (cs : List ℕ) (at : ℕ) (more : List ℕ) → Each Small cs → drop at bytes ≡ flat_map two cs ++ more → InCounts m bytes l k at cs → (to : ℕ) × InTicks m bytes l k to × (drop to bytes ≡ more)
  pass_counts [] at more each text fault = (at, fault, text)
  pass_counts (c ∷ cs) at more each text fault =
      let p = pass c (flat_map two cs ++ more) (omega arith) (omega (arith, each.0)) (text ∙ append_assoc (two c) (flat_map two cs) more) (let r : count_fault c c ≡ None = grind (arith, nat_tests) in r) fault in
      pass_counts cs (at + 2) more each.1 p.1 p.0

  -- ---- pins
  abbrev ArePinsRight : List ℕ → List ℕ → Type 0
  ArePinsRight before [] = Unit {0}
  ArePinsRight before (p ∷ ps) = (pin_fault (pins_of m) before p ≡ None) × ((p < 65536) × ArePinsRight (before ++ p ∷ []) ps)

  pass_pins : (ps : List ℕ) (before : List ℕ) (at : ℕ) (more : List ℕ) → ArePinsRight before ps → drop at bytes ≡ flat_map two ps ++ more → InPins m bytes l k at (length ps) before → (to : ℕ) × InPins m bytes l k to 0 [] × (drop to bytes ≡ more)
  pass_pins [] before at more right text fault = (at, fault, text)
  pass_pins (p ∷ ps) before at more right text fault =
      let r = pass p (flat_map two ps ++ more) (omega arith) (omega (arith, right.1.0)) (text ∙ append_assoc (two p) (flat_map two ps) more) right.0 fault in
      pass_pins ps (before ++ p ∷ []) (at + 2) more right.1.1 r.1 r.0

  pins_right : pins_of m ≤ 16384 → (ps before : List ℕ) → All (λ q. q < pins_of m) (before ++ ps) → AllPairs (λ i j. i ≢ j) (before ++ ps) → ArePinsRight before ps
  pins_right few [] before within apart = tt
  pins_right few (p ∷ ps) before within apart =
      let at_p : (d : ℕ) → get_or (before ++ p ∷ ps) (length before) d ≡ p = λ d. get_or-append_seam before p ps d in
      let below : p < pins_of m = subst (λ z. z < pins_of m) (at_p p) (within (length before) p (omega (arith, length-append before (p ∷ ps)))) in
      let none : list_any (λ q. q == p) before ≡ false = list_any_none (λ q. q == p) before (λ i d h. unequal (get_or before i d) p (λ same. apart i (length before) d h (omega (arith, length-append before (p ∷ ps))) (get_or-append before (p ∷ ps) d i h ∙ same ∙ sym (at_p d)))) in
      let e = append_assoc before (p ∷ []) ps in (
        pin_fine (pins_of m) p before below none,
        (omega (arith, below, few), pins_right few ps (before ++ p ∷ []) (subst (All (λ q. q < pins_of m)) (sym e) within) (subst (AllPairs (λ i j. i ≢ j)) (sym e) apart)),
      )
    where
      pin_fine : (pins n : ℕ) (before : List ℕ) → n < pins → list_any (λ q. q == n) before ≡ false → pin_fault pins before n ≡ None
      pin_fine pins n before h e = rw e (grind (arith, nat_tests, h))

      unequal : (x y : ℕ) → x ≢ y → (x == y) ≡ false
      unequal x y h = grind (arith, nat_tests, h)

  -- ---- tables
  abbrev AreTablesRight : ℕ → List (ℕ × Setting) → Type 0
  AreTablesRight least [] = Unit {0}
  AreTablesRight least (t ∷ ts) = (above_fault (tables_of m) least t.0 ≡ None) × (Fits t × AreTablesRight (suc t.0) ts)

  pass_tables : (ts : List (ℕ × Setting)) (least at : ℕ) (more : List ℕ) → AreTablesRight least ts → drop at bytes ≡ flat_map table_bytes ts ++ more → InTables m bytes l k at (length ts) least → (to : ℕ) × InTables m bytes l k to 0 0 × (drop to bytes ≡ more)
  pass_tables [] least at more right text fault = (at, fault, text)
  pass_tables (t ∷ ts) least at more right text fault =
      let p = pass t.0 (big_bytes 1 (flags_of t.1) ++ (big_bytes 8 t.1.cells ++ (flat_map table_bytes ts ++ more))) (omega arith) (omega (arith, right.1.0.number)) (text ∙ append_assoc (table_bytes t) (flat_map table_bytes ts) more) right.0 fault in
      let q = pass (flags_of t.1) (big_bytes 8 t.1.cells ++ (flat_map table_bytes ts ++ more)) (omega arith) (omega (arith, few_flags t.1)) p.1 (few_right (flags_of t.1) (few_flags t.1)) p.0 in
      let r = pass t.1.cells (flat_map table_bytes ts ++ more) (omega arith) (omega (arith, right.1.0.cells)) (ap (λ z. drop z bytes) (let e : at + 3 ≡ at + 2 + 1 = omega arith in e) ∙ q.1) refl q.0 in
      pass_tables ts (suc t.0) (at + 11) more right.1.1 (ap (λ z. drop z bytes) (let e : at + 11 ≡ at + 3 + 8 = omega arith in e) ∙ r.1) r.0
    where
      few_right : (n : ℕ) → n ≤ 3 → flags_fault n ≡ None
      few_right n h = grind (arith, nat_tests, h)

  tables_right : tables_of m ≤ 65536 → (f : ℕ → Option Setting) → ((t : ℕ) → t < tables_of m → CellsFit (f t)) → (a n least : ℕ) → least ≤ a → a + n ≤ tables_of m → AreTablesRight least (flat_map (λ t. on_at t (f t)) (range_with_len a n))
  tables_right few f fit a zero least h u = tt
  tables_right few f fit a (suc n) least h u = by_piece (f a) (fit a (omega (arith, u))) (λ z hz. tables_right few f fit (a + 1) n z (omega (arith, hz)) (omega (arith, u)))
    where
      by_piece : (o : Option Setting) → CellsFit o → ((z : ℕ) → z ≤ a + 1 → AreTablesRight z (flat_map (λ t. on_at t (f t)) (range_with_len (a + 1) n))) → AreTablesRight least (on_at a o ++ flat_map (λ t. on_at t (f t)) (range_with_len (a + 1) n))
      by_piece None e more = more least (omega (arith, h))
      by_piece (Some s) e more =
          let below : a < tables_of m = omega (arith, u) in
          ((let r : above_fault (tables_of m) least a ≡ None = grind (arith, nat_tests, below, h) in r), (record { number = omega (arith, below, few); cells = e }, more (suc a) (omega arith)))

  -- ---- crosspoints
  abbrev AreCrossesRight : ℕ → List ℕ → Type 0
  AreCrossesRight least [] = Unit {0}
  AreCrossesRight least (x ∷ xs) = (above_fault (crosses_of m) least x ≡ None) × ((x < 4294967296) × AreCrossesRight (suc x) xs)

  pass_crosses : (xs : List ℕ) (least at : ℕ) (more : List ℕ) → AreCrossesRight least xs → drop at bytes ≡ flat_map four xs ++ more → InCrosses m bytes l k at (length xs) least → (to : ℕ) × InEnd bytes l k to × (drop to bytes ≡ more)
  pass_crosses [] least at more right text fault = (at, fault, text)
  pass_crosses (x ∷ xs) least at more right text fault =
      let r = pass x (flat_map four xs ++ more) (omega arith) (omega (arith, right.1.0)) (text ∙ append_assoc (four x) (flat_map four xs) more) right.0 fault in
      pass_crosses xs (suc x) (at + 4) more right.1.1 r.1 r.0

  crosses_right : crosses_of m ≤ 268435456 → (f : ℕ → Bool) (a n least : ℕ) → least ≤ a → a + n ≤ crosses_of m → AreCrossesRight least (flat_map (λ x. if f x then x ∷ [] else []) (range_with_len a n))
  crosses_right few f a zero least h u = tt
  crosses_right few f a (suc n) least h u = by_piece (f a) (λ z hz. crosses_right few f (a + 1) n z (omega (arith, hz)) (omega (arith, u)))
    where
      by_piece : (b : Bool) → ((z : ℕ) → z ≤ a + 1 → AreCrossesRight z (flat_map (λ x. if f x then x ∷ [] else []) (range_with_len (a + 1) n))) → AreCrossesRight least ((if b then a ∷ [] else []) ++ flat_map (λ x. if f x then x ∷ [] else []) (range_with_len (a + 1) n))
      by_piece false more = more least (omega (arith, h))
      by_piece true more =
          let below : a < crosses_of m = omega (arith, u) in
          ((let r : above_fault (crosses_of m) least a ≡ None = grind (arith, nat_tests, below, h) in r), (omega (arith, below, few), more (suc a) (omega arith)))

  at_end : (at : ℕ) → InEnd bytes l k at → drop at bytes ≡ [] → ⊥
  at_end at fault e = omega (arith, fault.0, length-drop at bytes, ap length e)

-- ---- the whole

module _ (i : ImageValue) (t : IsImage i) (b : Bounds i.config.shape) (bytes : List ℕ) (l : ℕ) (k : ImageKind) (text : image_bytes i ≡ bytes) (fault : InImage i.config.shape bytes l k) where
  pub faultless : ⊥
  unfolding image_bytes
  faultless =
      let m = i.config.shape in
      let p1 = pass magic (flat_map two (counts_of m) ++ tail i) (omega arith) (omega arith) (sym text) refl fault in
      let p2 = pass_counts m bytes l k (counts_of m) 8 (tail i) (each_of (λ n. n < 65536) Small (λ n h. h) (counts_of m) b.counts) p1.1 p1.0 in
      let p3 = pass i.config.ticks _ (omega arith) (omega (arith, t.config.few_ticks, b.ticks)) p2.2 (ticks_fine (most_ticks m) i.config.ticks t.config.some_ticks t.config.few_ticks) p2.1 in
      let p4 = pass (length i.inputs) _ (omega arith) (omega (arith, few_pins i t b)) p3.1 refl p3.0 in
      let p5 = pass (length i.outputs) _ (omega arith) (omega (arith, few_pins i t b)) (moved p2.0 2 2 4 (omega arith) p4.1) refl p4.0 in
      let p6 = pass_pins m bytes l k (i.inputs ++ i.outputs) [] (p2.0 + 6) _ (pins_right m bytes l k b.pins (i.inputs ++ i.outputs) [] t.within t.apart) (moved p2.0 4 2 6 (omega arith) p5.1)
      (subst (λ z. InPins m bytes l k (p2.0 + 6) z []) (sym (length-append i.inputs i.outputs)) p5.0) in
      let p7 = pass (length (tables_on i.config)) _ (omega arith) (omega (arith, few_on i t b)) p6.2 (most_fine (tables_of m) (length (tables_on i.config)) (on_within i)) p6.1 in
      let p8 = pass_tables m bytes l k (tables_on i.config) 0 (p6.0 + 2) _ (tables_right m bytes l k b.tables (λ x. setting_of i.config x) (λ x h. t.config.cells x None (omega (arith, h, t.config.tables))) 0 (tables_of m) 0 (omega arith) (omega arith)) p7.1 p7.0 in
      let p9 = pass {B = λ n. InCrosses m bytes l k (p8.0 + 4) n 0} {at = p8.0} (length (closed_in i.config)) _ (omega arith) (omega (arith, few_closed i t b)) p8.2 (closed_fine (most_closed m) (crosses_of m) (length (closed_in i.config)) (closed_within i) (omega (arith, closed_few i, t.few))) p8.1 in
      let p10 = pass_crosses m bytes l k (closed_in i.config) 0 (p8.0 + 4) [] (crosses_right m bytes l k b.crosses (λ x. is_closed i.config x) 0 (crosses_of m) 0 (omega arith) (omega arith)) (with_end (p8.0 + 4) (flat_map four (closed_in i.config)) p9.1) p9.0 in
      at_end m bytes l k p10.0 p10.1 p10.2
    where
      moved : {xs : List ℕ} (a x y z : ℕ) → a + x + y ≡ a + z → drop (a + x + y) bytes ≡ xs → drop (a + z) bytes ≡ xs
      moved a x y z e f = ap (λ n. drop n bytes) (sym e) ∙ f

      with_end : (at : ℕ) (xs : List ℕ) → drop at bytes ≡ xs → drop at bytes ≡ xs ++ []
      with_end at xs e = e ∙ sym (append-nil xs)

      ticks_fine : (most n : ℕ) → 1 ≤ n → n ≤ most → ticks_fault most n ≡ None
      ticks_fine most n h u = grind (arith, nat_tests, h, u)

      closed_fine : (most crosses n : ℕ) → n ≤ crosses → n ≤ most → closed_fault most crosses n ≡ None
      closed_fine most crosses n h u = grind (arith, nat_tests, h, u)

      most_fine : (most n : ℕ) → n ≤ most → most_fault most n ≡ None
      most_fine most n h = grind (arith, nat_tests, h)
