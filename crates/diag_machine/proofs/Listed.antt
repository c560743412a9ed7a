-- A list of what isn't known or kept, one entry at a time.
use Rattle.std.proofs.Common.{◌≡◌, ◌⊎◌, ◌<◌, ◌+◌, ℕ, zero, suc, List, Bool, true, false, not, ◌&&◌, if◌then◌else◌, refl, sym, ap, ◌∙◌, subst, inl, inr, arith, ◌==◌}
use Rattle.std.specs.FinSet as set
use Rattle.diag_machine.proofs.Vocabulary.{false≢true, nat_tests, Shape, ends_of, table_wire, wires_of, crosses_of, tables_of, Kept}
use Rattle.diag_machine.proofs.Vocabulary.{keeps_cross, keeps_cell, keeps_register, HasWire, VerifiedWire, KeepsTable, IsListing, IsListOf}
use Rattle.std.specs.{FinSet.contains-empty, Ordering.nat_cmp}
use Rattle.machine_meaning.specs.Defects.{IsFreeWire, IsFreeTable}
use Rattle.machine_defects.specs.Lists.{DefectList, IsDefectList, IsWithWire, no_defects, with_cross, with_table, has_free_ends, has_free_pins, all_below}
use Rattle.base_bits.proofs.SetsLemmas.{contains_more}

clash : {b : Bool} → b ≡ true → b ≡ false → ⊥
clash e d = false≢true (sym d ∙ e)

lt_or : (i j : ℕ) → i < j + 1 → (i ≡ j) ⊎ (i < j)
lt_or i j h = grind arith

and_left : (a b : Bool) → (a && b) ≡ true → a ≡ true
and_left true b e = refl
and_left false b e = e

-- a number is put in
member : (s : set.FinSet nat_cmp) (i q : ℕ) → (q ≡ i) ⊎ (set.contains s q ≡ true) → set.contains (set.insert s i) q ≡ true
member s i q (inl e) = contains_more s i q ∙ by (q == i) (grind (arith, nat_tests))
  where
    by : (b : Bool) → b ≡ true → (if b then true else set.contains s q) ≡ true
    by true d = refl
    by false d = absurd (false≢true d)
member s i q (inr e) = contains_more s i q ∙ by (q == i)
  where
    by : (b : Bool) → (if b then true else set.contains s q) ≡ true
    by true = refl
    by false = e

members : (s : set.FinSet nat_cmp) (i q : ℕ) → set.contains (set.insert s i) q ≡ true → (q ≡ i) ⊎ (set.contains s q ≡ true)
members s i q e = by (q == i) refl (sym (contains_more s i q) ∙ e)
  where
    by : (b : Bool) → (q == i) ≡ b → (if b then true else set.contains s q) ≡ true → (q ≡ i) ⊎ (set.contains s q ≡ true)
    by true d g = inl (grind (arith, nat_tests))
    by false d g = inr g

none_in : (q : ℕ) → set.contains no_defects.wires q ≡ true → ⊥
none_in q e = clash e (contains-empty nat_cmp q)

module _ (k : Kept) (ss : List VerifiedWire) where
  pub listing_none : (m : Shape) → m ≡ k.shape → IsListing k ss (record { shape = m; list = no_defects }) 0 0 0
  listing_none m e = record {
    shape = e;
    wires = λ w is. absurd (none_in w is);
    all_wires = λ w h. absurd (omega arith);
    crosses = λ x is. absurd (none_in x is);
    all_crosses = λ x h. absurd (omega arith);
    tables = λ t is. absurd (none_in t is);
    all_tables = λ t h. absurd (omega arith);
  }

  pub wire_listed : (d e : DefectList) (i : ℕ) → ¬ HasWire ss i → IsWithWire d i e → IsListing k ss d i 0 0 → IsListing k ss e (i + 1) 0 0
  wire_listed d e i bad with_it l = record {
    shape = with_it.shape ∙ l.shape;
    wires = λ w is. of_wire w (members d.list.wires i w (subst (λ s. set.contains s w ≡ true) with_it.wires is));
    all_wires = λ w h isnt. by w h isnt (lt_or w i h) (set.contains d.list.wires w) refl;
    crosses = λ x is. l.crosses x (and_left _ _ (sym (with_it.crosses x) ∙ is));
    all_crosses = λ x h. absurd (omega arith);
    tables = λ t is. l.tables t (and_left _ _ (sym (with_it.tables t) ∙ is));
    all_tables = λ t h. absurd (omega arith);
  }
    where
      of_wire : (w : ℕ) → (w ≡ i) ⊎ (set.contains d.list.wires w ≡ true) → ¬ HasWire ss w
      of_wire w (inl s) = subst (λ v. ¬ HasWire ss v) (sym s) bad
      of_wire w (inr h) = l.wires w h

      there : (w : ℕ) → (w ≡ i) ⊎ (set.contains d.list.wires w ≡ true) → set.contains e.list.wires w ≡ true
      there w h = subst (λ s. set.contains s w ≡ true) (sym with_it.wires) (member d.list.wires i w h)

      by : (w : ℕ) → w < i + 1 → set.contains e.list.wires w ≡ false → (w ≡ i) ⊎ (w < i) → (b : Bool) → set.contains d.list.wires w ≡ b → HasWire ss w
      by w h isnt (inl s) b o = absurd (clash (there w (inl s)) isnt)
      by w h isnt (inr less) true o = absurd (clash (there w (inr o)) isnt)
      by w h isnt (inr less) false o = l.all_wires w less o

  pub wire_passed : (d : DefectList) (i : ℕ) → HasWire ss i → IsListing k ss d i 0 0 → IsListing k ss d (i + 1) 0 0
  wire_passed d i good l = record { shape = l.shape; wires = l.wires; all_wires = λ w h isnt. by w isnt (lt_or w i h); crosses = l.crosses; all_crosses = l.all_crosses; tables = l.tables; all_tables = l.all_tables }
    where
      by : (w : ℕ) → set.contains d.list.wires w ≡ false → (w ≡ i) ⊎ (w < i) → HasWire ss w
      by w isnt (inl s) = subst (HasWire ss) (sym s) good
      by w isnt (inr h) = l.all_wires w h isnt

  pub cross_listed : (d : DefectList) (i j : ℕ) → keeps_cross k j ≡ false → IsListing k ss d i j 0 → IsListing k ss (record { shape = d.shape; list = with_cross d.shape d.list j }) i (j + 1) 0
  cross_listed d i j bad l = by (has_free_ends d.shape d.list j) refl
    where
      by : (b : Bool) → has_free_ends d.shape d.list j ≡ b → IsListing k ss (record { shape = d.shape; list = if b then record d.list { crosses = set.insert d.list.crosses j } else d.list }) i (j + 1) 0
      by true e = record {
        shape = l.shape;
        wires = l.wires;
        all_wires = l.all_wires;
        crosses = λ x is. of_cross x (members d.list.crosses j x is);
        all_crosses = λ x h isnt free. member d.list.crosses j x (old x isnt free (lt_or x j h));
        tables = l.tables;
        all_tables = λ t h. absurd (omega arith);
      }
        where
          of_cross : (x : ℕ) → (x ≡ j) ⊎ (set.contains d.list.crosses x ≡ true) → keeps_cross k x ≡ false
          of_cross x (inl s) = subst (λ v. keeps_cross k v ≡ false) (sym s) bad
          of_cross x (inr h) = l.crosses x h

          old : (x : ℕ) → keeps_cross k x ≡ false → has_free_ends k.shape d.list x ≡ true → (x ≡ j) ⊎ (x < j) → (x ≡ j) ⊎ (set.contains d.list.crosses x ≡ true)
          old x isnt free (inl s) = inl s
          old x isnt free (inr h) = inr (l.all_crosses x h isnt free)
      by false e = record { shape = l.shape; wires = l.wires; all_wires = l.all_wires; crosses = l.crosses; all_crosses = λ x h isnt free. old x isnt free (lt_or x j h); tables = l.tables; all_tables = λ t h. absurd (omega arith) }
        where
          old : (x : ℕ) → keeps_cross k x ≡ false → has_free_ends k.shape d.list x ≡ true → (x ≡ j) ⊎ (x < j) → set.contains d.list.crosses x ≡ true
          old x isnt free (inl s) = absurd (clash (subst (λ v. has_free_ends k.shape d.list v ≡ true) s free) (subst (λ m. has_free_ends m d.list j ≡ false) l.shape e))
          old x isnt free (inr h) = l.all_crosses x h isnt free

  pub cross_passed : (d : DefectList) (i j : ℕ) → keeps_cross k j ≡ true → IsListing k ss d i j 0 → IsListing k ss d i (j + 1) 0
  cross_passed d i j good l = record { shape = l.shape; wires = l.wires; all_wires = l.all_wires; crosses = l.crosses; all_crosses = λ x h isnt free. by x isnt free (lt_or x j h); tables = l.tables; all_tables = l.all_tables }
    where
      by : (x : ℕ) → keeps_cross k x ≡ false → has_free_ends k.shape d.list x ≡ true → (x ≡ j) ⊎ (x < j) → set.contains d.list.crosses x ≡ true
      by x isnt free (inl s) = absurd (clash good (subst (λ v. keeps_cross k v ≡ false) s isnt))
      by x isnt free (inr h) = l.all_crosses x h isnt free

  pub table_listed : (d : DefectList) (i j n : ℕ) → ¬ KeepsTable k n → IsListing k ss d i j n → IsListing k ss (record { shape = d.shape; list = with_table d.shape d.list n }) i j (n + 1)
  table_listed d i j n bad l = by (has_free_pins d.shape d.list n) refl
    where
      by : (b : Bool) → has_free_pins d.shape d.list n ≡ b → IsListing k ss (record { shape = d.shape; list = if b then record d.list { tables = set.insert d.list.tables n } else d.list }) i j (n + 1)
      by true e = record {
        shape = l.shape;
        wires = l.wires;
        all_wires = l.all_wires;
        crosses = l.crosses;
        all_crosses = l.all_crosses;
        tables = λ t is. of_table t (members d.list.tables n t is);
        all_tables = λ t h isnt free. member d.list.tables n t (old t isnt free (lt_or t n h));
      }
        where
          of_table : (t : ℕ) → (t ≡ n) ⊎ (set.contains d.list.tables t ≡ true) → ¬ KeepsTable k t
          of_table t (inl s) = subst (λ v. ¬ KeepsTable k v) (sym s) bad
          of_table t (inr h) = l.tables t h

          old : (t : ℕ) → ¬ KeepsTable k t → has_free_pins k.shape d.list t ≡ true → (t ≡ n) ⊎ (t < n) → (t ≡ n) ⊎ (set.contains d.list.tables t ≡ true)
          old t isnt free (inl s) = inl s
          old t isnt free (inr h) = inr (l.all_tables t h isnt free)
      by false e = record { shape = l.shape; wires = l.wires; all_wires = l.all_wires; crosses = l.crosses; all_crosses = l.all_crosses; tables = l.tables; all_tables = λ t h isnt free. old t isnt free (lt_or t n h) }
        where
          old : (t : ℕ) → ¬ KeepsTable k t → has_free_pins k.shape d.list t ≡ true → (t ≡ n) ⊎ (t < n) → set.contains d.list.tables t ≡ true
          old t isnt free (inl s) = absurd (clash (subst (λ v. has_free_pins k.shape d.list v ≡ true) s free) (subst (λ m. has_free_pins m d.list n ≡ false) l.shape e))
          old t isnt free (inr h) = l.all_tables t h isnt free

  pub table_passed : (d : DefectList) (i j n : ℕ) → KeepsTable k n → IsListing k ss d i j n → IsListing k ss d i j (n + 1)
  table_passed d i j n good l = record { shape = l.shape; wires = l.wires; all_wires = l.all_wires; crosses = l.crosses; all_crosses = l.all_crosses; tables = l.tables; all_tables = λ t h isnt free. by t isnt free (lt_or t n h) }
    where
      by : (t : ℕ) → ¬ KeepsTable k t → has_free_pins k.shape d.list t ≡ true → (t ≡ n) ⊎ (t < n) → set.contains d.list.tables t ≡ true
      by t isnt free (inl s) = absurd (isnt (subst (KeepsTable k) (sym s) good))
      by t isnt free (inr h) = l.all_tables t h isnt free

  pub wire_step : (d e : DefectList) (i : ℕ) (b : Bool) → (b ≡ true → HasWire ss i) → (b ≡ false → ¬ HasWire ss i) → (b ≡ false → IsWithWire d i e) → (b ≡ true → e ≡ d) → IsListing k ss d i 0 0 → IsListing k ss e (i + 1) 0 0
  wire_step d e i false is isnt bad good l = wire_listed d e i (isnt refl) (bad refl) l
  wire_step d e i true is isnt bad good l = subst (λ x. IsListing k ss x (i + 1) 0 0) (sym (good refl)) (wire_passed d i (is refl) l)

  pub cross_step : (d e : DefectList) (i j : ℕ) (b : Bool) → b ≡ keeps_cross k j → (b ≡ false → e ≡ record { shape = d.shape; list = with_cross d.shape d.list j }) → (b ≡ true → e ≡ d) → IsListing k ss d i j 0 → IsListing k ss e i (j + 1) 0
  cross_step d e i j false s bad good l = subst (λ x. IsListing k ss x i (j + 1) 0) (sym (bad refl)) (cross_listed d i j (sym s) l)
  cross_step d e i j true s bad good l = subst (λ x. IsListing k ss x i (j + 1) 0) (sym (good refl)) (cross_passed d i j (sym s) l)

  pub table_step : (d e : DefectList) (i j n : ℕ) (b : Bool) → (b ≡ true → KeepsTable k n) → (b ≡ false → ¬ KeepsTable k n) → (b ≡ false → e ≡ record { shape = d.shape; list = with_table d.shape d.list n }) → (b ≡ true → e ≡ d) → IsListing k ss d i j n → IsListing k ss e i j (n + 1)
  table_step d e i j n false is isnt bad good l = subst (λ x. IsListing k ss x i j (n + 1)) (sym (bad refl)) (table_listed d i j n (isnt refl) l)
  table_step d e i j n true is isnt bad good l = subst (λ x. IsListing k ss x i j (n + 1)) (sym (good refl)) (table_passed d i j n (is refl) l)

  all_or : (n : ℕ) (test : ℕ → Bool) → ((a : ℕ) → a < n → test a ≡ true) ⊎ (((a : ℕ) → a < n → test a ≡ true) → ⊥)
  all_or zero test = inl (λ a h. absurd (omega arith))
  all_or (suc n) test = by (all_or n test) (test n) refl
    where
      lower : (a : ℕ) → a < suc n → (a ≡ n) ⊎ (a < n)
      lower a h = grind arith

      by : ((a : ℕ) → a < n → test a ≡ true) ⊎ (((a : ℕ) → a < n → test a ≡ true) → ⊥) → (b : Bool) → test n ≡ b → ((a : ℕ) → a < suc n → test a ≡ true) ⊎ (((a : ℕ) → a < suc n → test a ≡ true) → ⊥)
      by (inr none) b e = inr (λ h. none (λ a lt. h a (omega arith)))
      by (inl all) false e = inr (λ h. clash (h n (omega arith)) e)
      by (inl all) true e = inl (λ a h. at a (lower a h))
        where
          at : (a : ℕ) → (a ≡ n) ⊎ (a < n) → test a ≡ true
          at a (inl s) = subst (λ i. test i ≡ true) (sym s) e
          at a (inr lt) = all a lt

  pub table_or : (t : ℕ) → KeepsTable k t ⊎ (¬ KeepsTable k t)
  table_or t = by (all_or 64 (keeps_cell k t)) (keeps_register k t) refl
    where
      by : ((a : ℕ) → a < 64 → keeps_cell k t a ≡ true) ⊎ (((a : ℕ) → a < 64 → keeps_cell k t a ≡ true) → ⊥) → (b : Bool) → keeps_register k t ≡ b → KeepsTable k t ⊎ (¬ KeepsTable k t)
      by (inl all) true e = inl (record { cells = all; register = e })
      by (inl all) false e = inr (λ h. clash h.register e)
      by (inr none) b e = inr (λ h. none h.cells)

  all_true : (n : ℕ) (test : ℕ → Bool) → ((a : ℕ) → a < n → test a ≡ true) → all_below n test ≡ true
  all_true zero test h = refl
  all_true (suc n) test h = rw (all_true n test (λ a lt. h a (omega arith)), h n (omega arith)) refl

  pub whole_list : (d : DefectList) → IsListing k ss d (wires_of k.shape) (crosses_of k.shape) (tables_of k.shape) → IsDefectList d → IsListOf k.shape k ss d.list
  whole_list d l right = record {
    wire_free = λ w h is. l.all_wires w h is;
    wire_listed = λ w h u. not_in (set.contains d.list.wires w) (λ e. l.wires w e u);
    cross_free = λ x h is. by_bool (keeps_cross k x) (λ e. clash (l.all_crosses x h e (rw (is.tap, is.line) refl)) is.itself);
    cross_listed = λ x h is. (l.crosses x is, subst (λ m. IsFreeWire d.list (ends_of m x).0) l.shape (right.taps x is), subst (λ m. IsFreeWire d.list (ends_of m x).1) l.shape (right.lines x is));
    table_free = λ t h is. by_table t h is (table_or t);
    table_listed = λ t h is. (l.tables t is, λ j b. subst (λ m. IsFreeWire d.list (table_wire m t j)) l.shape (right.pins t j is b));
  }
    where
      by_bool : (b : Bool) → (b ≡ false → ⊥) → b ≡ true
      by_bool true never = refl
      by_bool false never = absurd (never refl)

      not_in : (b : Bool) → (b ≡ true → ⊥) → b ≡ false
      not_in true never = absurd (never refl)
      not_in false never = refl

      by_table : (t : ℕ) → t < tables_of k.shape → IsFreeTable k.shape d.list t → KeepsTable k t ⊎ (¬ KeepsTable k t) → KeepsTable k t
      by_table t h is (inl kept) = kept
      by_table t h is (inr isnt) = absurd (clash (l.all_tables t h isnt (all_true 7 _ (λ j b. ap not (is.pins j b)))) is.itself)
