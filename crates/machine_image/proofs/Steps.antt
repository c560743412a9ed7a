-- The steps of reading.
use Rattle.std.proofs.Common.{◌≡◌, ℕ, suc, ◌+◌, ◌<◌, ◌≤◌, List, [], ◌∷◌, ◌++◌, Bool, true, false, ◌||◌, Some, None, length, take, drop, get_or, set, refl, sym, ap, ◌∙◌, subst, arith, ◌≢◌, ◌==◌, if◌then◌else◌}
use Rattle.machine_image.proofs.Vocabulary.{flat_map, list_any, nat_cmp_total, len-insert, nat_tests, All-push, list_any-append}
use Rattle.machine_image.proofs.Vocabulary.{list_any_at, Shape, tables_of, crosses_of, pins_of, Setting, ImageFault}
use Rattle.std.specs.FinSet as set_
use Rattle.std.proofs.{Math.Bool.or-false, Math.Bool.or-true, lemmas.List.Quantifiers.all_pairs_push}
use Rattle.std.proofs.lemmas.List.{drop_more, take_more, take_all, drop_all, length-append, length-set, get_or-set_same, get_or-set_other}
use native.Mathlib.Decide.{ℕ_discrete}
use Rattle.machine_config.specs.Configuration.{Configuration, is_closed, setting_of, with_closed, with_setting}
use Rattle.machine_image.specs.Vocabulary.{count_fault, pin_fault, above_fault, InTicks, InCounts, InPins, InTables, InCrosses, IsField, IsRefusedField, FaultIn, Passed, AreMarks, two, four, table_bytes, tables_on, closed_in, on_at, ArePins, AreTables, AreCrosses, TablesRead, CrossesRead, IsTable}
use Rattle.machine_image.proofs.Wrong.{count_right, pin_right, above_right}
use Rattle.machine_image.proofs.Passing.{refused_in, passed_in, pass_field, pass_none, pass_item}
use Rattle.machine_image.proofs.Growing.{none_flat, closed_more, tables_more, setting_after, closed_after}

-- ---- counts

module _ (m : Shape) (bytes : List ℕ) (start : ℕ) (cs : List ℕ) where
  abbrev pub CountsSoFar : ℕ → ℕ → Type 0
  CountsSoFar at i = Passed bytes start at (flat_map two (take i cs)) (λ l k. InCounts m bytes l k start cs) (λ l k. InCounts m bytes l k at (drop i cs))

  pub count_step : (at at' i n : ℕ) → CountsSoFar at i → i < length cs → at' ≡ at + 2 → IsField 2 (count_fault (get_or cs i 0)) bytes at n → CountsSoFar at' (i + 1)
  count_step at at' i n p h e f =
      subst (λ r. Passed bytes start at' (flat_map two r) (λ l k. InCounts m bytes l k start cs) (λ l k. InCounts m bytes l k at' (drop (i + 1) cs))) (sym (take_more cs i 0 h))
      (pass_item two (take i cs) (get_or cs i 0)
      (subst (λ r. Passed bytes start at (flat_map two (take i cs)) (λ l k. InCounts m bytes l k start cs) (λ l k. InCounts m bytes l k at r)) (drop_more cs i 0 h) p)
      (subst (λ z. Passed bytes at z (two (get_or cs i 0)) (λ l k. InCounts m bytes l k at (get_or cs i 0 ∷ drop (i + 1) cs)) (λ l k. InCounts m bytes l k z (drop (i + 1) cs))) (sym e)
      (subst (λ c. Passed bytes at (at + 2) (two c) (λ l k. InCounts m bytes l k at (get_or cs i 0 ∷ drop (i + 1) cs)) (λ l k. InCounts m bytes l k (at + 2) (drop (i + 1) cs))) (count_right (get_or cs i 0) n f.right)
      (pass_field (at + 2) (λ l k _. InCounts m bytes l k (at + 2) (drop (i + 1) cs)) refl f))))

  pub count_refused : (at i : ℕ) (f : ImageFault) → CountsSoFar at i → i < length cs → IsRefusedField 2 (count_fault (get_or cs i 0)) bytes at f → FaultIn (λ l k. InCounts m bytes l k start cs) f
  count_refused at i f p h r =
      passed_in (subst (λ r. Passed bytes start at (flat_map two (take i cs)) (λ l k. InCounts m bytes l k start cs) (λ l k. InCounts m bytes l k at r)) (drop_more cs i 0 h) p)
      f (refused_in (λ l k _. InCounts m bytes l k (at + 2) (drop (i + 1) cs)) f r)

  pub counts_done : (at i : ℕ) → CountsSoFar at i → length cs ≤ i → Passed bytes start at (flat_map two cs) (λ l k. InCounts m bytes l k start cs) (λ l k. InTicks m bytes l k at)
  counts_done at i p h =
      subst (λ r. Passed bytes start at (flat_map two r) (λ l k. InCounts m bytes l k start cs) (λ l k. InTicks m bytes l k at)) (take_all i cs h)
      (subst (λ r. Passed bytes start at (flat_map two (take i cs)) (λ l k. InCounts m bytes l k start cs) (λ l k. InCounts m bytes l k at r)) (drop_all i cs h) p)

-- ---- pins

module _ (m : Shape) (bytes : List ℕ) (start count : ℕ) where
  pub pins_start : (left : ℕ) → left ≡ count → start ≤ length bytes → ArePins m bytes start start count left []
  pins_start left e h = subst (λ z. ArePins m bytes start start count z []) (sym e) (record {
    len = omega arith;
    within = λ k d l. let no : ⊥ = omega (arith, l) in absurd no;
    apart = λ i j d l u. let no : ⊥ = omega (arith, u) in absurd no;
    passed = pass_none h;
  })

  module _ (at left left' : ℕ) (pins : List ℕ) (old : ArePins m bytes start at count left pins) (e : left ≡ suc left') where
    again : ArePins m bytes start at count (suc left') pins
    again = subst (λ z. ArePins m bytes start at count z pins) e old

    pub pin_refused : (marks : List Bool) (f : ImageFault) → length marks ≡ pins_of m → IsRefusedField 2 (pin_fault (length marks) pins) bytes at f → FaultIn (λ l k. InPins m bytes l k start count []) f
    pin_refused marks f len r =
        passed_in again.passed f (refused_in (λ l k n. InPins m bytes l k (at + 2) left' (pins ++ n ∷ [])) f (subst (λ z. IsRefusedField 2 (pin_fault z pins) bytes at f) len r))

    pub pin_step : (at' n : ℕ) (marks : List Bool) → length marks ≡ pins_of m → at' ≡ at + 2 → IsField 2 (pin_fault (length marks) pins) bytes at n → ArePins m bytes start at' count left' (pins ++ n ∷ [])
    pin_step at' n marks len a f = record {
      len = omega (arith, length-append pins (n ∷ []), old.len, e);
      within = All-push (λ k. k < pins_of m) pins n old.within right.0;
      apart = all_pairs_push (λ j k. j ≢ k) pins n old.apart (λ k d l same. let no : true ≡ false = sym (list_any_at (λ p. p == n) pins k d l (let t : (get_or pins k d == n) ≡ true = grind (arith, nat_tests, same) in t)) ∙ right.1 in cc);
      passed = subst (λ z. Passed bytes start z (flat_map two (pins ++ n ∷ [])) (λ l k. InPins m bytes l k start count []) (λ l k. InPins m bytes l k z left' (pins ++ n ∷ []))) (sym a) (pass_item two pins n again.passed (pass_field (at + 2) (λ l k x. InPins m bytes l k (at + 2) left' (pins ++ x ∷ [])) refl field));
    }
      where
        field : IsField 2 (pin_fault (pins_of m) pins) bytes at n
        field = subst (λ z. IsField 2 (pin_fault z pins) bytes at n) len f

        right : (n < pins_of m) × (list_any (λ p. p == n) pins ≡ false)
        right = pin_right (pins_of m) pins n field.right

-- the marks with one more
pub marks_step : (count : ℕ) (pins : List ℕ) (marks : List Bool) (n : ℕ) → AreMarks count pins marks → n < count → AreMarks count (pins ++ n ∷ []) (set marks n true)
marks_step count pins marks n are h = record {
  len = length-set marks n true ∙ are.len;
  told = λ k l. by_place k l (ℕ_discrete k n);
}
  where
    by_place : (k : ℕ) → k < count → Dec (k ≡ n) → get_or (set marks n true) k false ≡ list_any (λ p. p == k) (pins ++ n ∷ [])
    by_place k l (yes e) =
        ap (λ j. get_or (set marks n true) j false) e ∙ get_or-set_same marks n true false (omega (arith, are.len, h))
        ∙ sym (list_any-append (λ p. p == k) pins (n ∷ []) ∙ ap (λ b. list_any (λ p. p == k) pins || (b || false)) (let t : (n == k) ≡ true = grind (arith, nat_tests, e) in t) ∙ or-true _)
    by_place k l (no d) =
        get_or-set_other marks n k true false d ∙ are.told k l
        ∙ sym (list_any-append (λ p. p == k) pins (n ∷ []) ∙ ap (λ b. list_any (λ p. p == k) pins || (b || false)) (let t : (n == k) ≡ false = grind (arith, nat_tests, d) in t) ∙ or-false _)

-- ---- tables

module _ (m : Shape) (bytes : List ℕ) (start count : ℕ) where
  pub tables_start : (left : ℕ) (g : Configuration) → left ≡ count → start ≤ length bytes → ((t : ℕ) → setting_of g t ≡ None) → AreTables m bytes start start count left 0 g
  tables_start left g e h off =
      let none : tables_on g ≡ [] = none_flat (λ t. on_at t (setting_of g t)) 0 (tables_of g.shape) (λ y l. ap (on_at y) (off y)) in
      subst (λ z. AreTables m bytes start start count z 0 g) (sym e) (record {
        len = omega (arith, ap length none);
        off = λ t l. off t;
        passed = subst (λ r. Passed bytes start start (flat_map table_bytes r) (λ l k. InTables m bytes l k start count 0) (λ l k. InTables m bytes l k start count 0)) (sym none) (pass_none h);
      })

  module _ (at left left' least : ℕ) (g : Configuration) (old : AreTables m bytes start at count left least g) (e : left ≡ suc left') where
    again_tables : AreTables m bytes start at count (suc left') least g
    again_tables = subst (λ z. AreTables m bytes start at count z least g) e old

    pub table_refused : (f : ImageFault) → ((left : ℕ) → FaultIn (λ l k. InTables m bytes l k at (suc left) least) f) → FaultIn (λ l k. InTables m bytes l k start count 0) f
    table_refused f r = passed_in again_tables.passed f (r left')

    pub table_step : (at' least' t : ℕ) (s : Setting) → at' ≡ at + 11 → least' ≡ suc t → IsTable m bytes at least t s → t < tables_of m → g.shape ≡ m → length g.tables ≡ tables_of g.shape →
        AreTables m bytes start at' count left' least' (with_setting g t (Some s))
    table_step at' least' t s a b is h shape len =
        let h' : t < tables_of g.shape = subst (λ z. t < tables_of z) (sym shape) h in
        let more : tables_on (with_setting g t (Some s)) ≡ tables_on g ++ (t, s) ∷ [] = tables_more g t s h' len (λ y l. old.off y (omega (arith, l, is.least_is))) in
        subst (λ z. AreTables m bytes start at' count left' z (with_setting g t (Some s))) (sym b) (subst (λ z. AreTables m bytes start z count left' (suc t) (with_setting g t (Some s))) (sym a) (record {
          len = omega (arith, ap length more, length-append (tables_on g) ((t, s) ∷ []), old.len, e);
          off = λ y l. setting_after g t s (λ z u. old.off z (omega (arith, u, is.least_is))) y (omega (arith, l));
          passed = subst (λ r. Passed bytes start (at + 11) (flat_map table_bytes r) (λ l k. InTables m bytes l k start count 0) (λ l k. InTables m bytes l k (at + 11) left' (suc t))) (sym more) (pass_item table_bytes (tables_on g) (t, s) again_tables.passed (is.passed left'));
        }))

  pub tables_done : (at left least : ℕ) (g : Configuration) → AreTables m bytes start at count left least g → left ≡ 0 → TablesRead m bytes start at count g
  tables_done at left least g old e =
      let last : AreTables m bytes start at count 0 least g = subst (λ z. AreTables m bytes start at count z least g) e old in
      record { len = omega (arith, last.len); passed = last.passed }

-- ---- crosspoints

module _ (m : Shape) (bytes : List ℕ) (start count : ℕ) where
  pub crosses_start : (left : ℕ) (g : Configuration) → left ≡ count → start ≤ length bytes → ((x : ℕ) → is_closed g x ≡ false) → set_.len g.closed ≡ 0 → AreCrosses m bytes start start count left 0 g
  crosses_start left g e h off len =
      let none : closed_in g ≡ [] = none_flat (λ x. if is_closed g x then x ∷ [] else []) 0 (crosses_of g.shape) (λ y l. ap (λ b. if b then y ∷ [] else []) (off y)) in
      subst (λ z. AreCrosses m bytes start start count z 0 g) (sym e) (record {
        len = omega (arith, ap length none);
        few = omega (arith, len);
        off = λ x l. off x;
        passed = subst (λ r. Passed bytes start start (flat_map four r) (λ l k. InCrosses m bytes l k start count 0) (λ l k. InCrosses m bytes l k start count 0)) (sym none) (pass_none h);
      })

  module _ (at left left' least : ℕ) (g : Configuration) (old : AreCrosses m bytes start at count left least g) (e : left ≡ suc left') where
    again_crosses : AreCrosses m bytes start at count (suc left') least g
    again_crosses = subst (λ z. AreCrosses m bytes start at count z least g) e old

    pub cross_refused : (f : ImageFault) → IsRefusedField 4 (above_fault (crosses_of m) least) bytes at f → FaultIn (λ l k. InCrosses m bytes l k start count 0) f
    cross_refused f r = passed_in again_crosses.passed f (refused_in (λ l k x. InCrosses m bytes l k (at + 4) left' (suc x)) f r)

    pub cross_step : (at' least' x : ℕ) → at' ≡ at + 4 → least' ≡ suc x → IsField 4 (above_fault (crosses_of m) least) bytes at x → g.shape ≡ m →
        AreCrosses m bytes start at' count left' least' (with_closed g x)
    cross_step at' least' x a b f shape =
        let right : (x < crosses_of m) × (least ≤ x) = above_right (crosses_of m) least x f.right in
        let more : closed_in (with_closed g x) ≡ closed_in g ++ x ∷ [] = closed_more g x (subst (λ z. x < crosses_of z) (sym shape) right.0) (λ y l. old.off y (omega (arith, l, right.1))) in
        let grew : set_.len (set_.insert g.closed x) ≡ (if set_.contains g.closed x then set_.len g.closed else set_.len g.closed + 1) = len-insert nat_cmp_total g.closed x in
        subst (λ z. AreCrosses m bytes start at' count left' z (with_closed g x)) (sym b) (subst (λ z. AreCrosses m bytes start z count left' (suc x) (with_closed g x)) (sym a) (record {
          len = omega (arith, ap length more, length-append (closed_in g) (x ∷ []), old.len, e);
          few = at_most (set_.contains g.closed x) grew;
          off = λ y l. closed_after g x (λ z u. old.off z (omega (arith, u, right.1))) y (omega (arith, l));
          passed = subst (λ r. Passed bytes start (at + 4) (flat_map four r) (λ l k. InCrosses m bytes l k start count 0) (λ l k. InCrosses m bytes l k (at + 4) left' (suc x))) (sym more) (pass_item four (closed_in g) x again_crosses.passed (pass_field (at + 4) (λ l k y. InCrosses m bytes l k (at + 4) left' (suc y)) refl f));
        }))
      where
        at_most : (b : Bool) → set_.len (set_.insert g.closed x) ≡ (if b then set_.len g.closed else set_.len g.closed + 1) → set_.len (set_.insert g.closed x) + left' ≤ count
        at_most true q = omega (arith, q, old.few, e)
        at_most false q = omega (arith, q, old.few, e)

  pub crosses_done : (at left least : ℕ) (g : Configuration) → AreCrosses m bytes start at count left least g → left ≡ 0 → CrossesRead m bytes start at count g
  crosses_done at left least g old e =
      let last : AreCrosses m bytes start at count 0 least g = subst (λ z. AreCrosses m bytes start at count z least g) e old in
      record { len = omega (arith, last.len); few = omega (arith, last.few); passed = last.passed }
