-- Which nets are kept: those without a closed crosspoint and a table that isn't free.
use Rattle.std.proofs.Common.{◌≡◌, ◌≢◌, ◌⊎◌, ℕ, ◌+◌, ◌<◌, ◌≤◌, Bool, true, false, List, length, get_or, refl, sym, ◌∙◌, subst, inl, inr, arith, IsSome, is_some, ◌↔◌, ◌==◌, if◌then◌else◌, count_by}
use Rattle.place_repair.proofs.Vocabulary.{false≢true, cases_eq, Cross, Table, Defects, IsFreeWire, IsFreeCross, IsFreeTable, is_free_cross}
use Rattle.place_repair.proofs.Vocabulary.{is_free_table, Configuration, is_closed, setting_of, ImageValue, IsImage, AreThose, IsEnd}
use Rattle.place_repair.proofs.Vocabulary.{as_tap, as_line, IsLowest, HasWire, IsKept, AreMoves, AreMarks, IsMarked, IsOfFirst}
use Rattle.machine_shape.specs.Vocabulary.{ends_of, table_wire, pin_wire, IsNumbered}
use Rattle.place_repair.specs.Making.{IsUnfreeCross, IsUnfreeCrossOf, IsUnfreeTable, IsBrokenBy, IsBrokenHere, IsBroken, no_cross, no_table}
use Rattle.place_repair.proofs.Hanging.{has_end, line_to_tap}
use Rattle.place_repair.proofs.Marking.{marked_same, marked_then, first_all, all_first}
use Rattle.place_repair.proofs.Using.{on_is, is_on}

-- ---- one after the other

pub broken_more : (g : Configuration) (lowest : List ℕ) (t j : ℕ) (old mid new : List Bool) → IsMarked (IsBrokenBy g lowest t j) old mid → IsMarked (λ k. HasWire g lowest k (table_wire g.shape t j)) mid new → IsMarked (IsBrokenBy g lowest t (j + 1)) old new
broken_more g lowest t j old mid new p q = marked_then (IsBrokenBy g lowest t j) (λ k. HasWire g lowest k (table_wire g.shape t j)) (IsBrokenBy g lowest t (j + 1)) old mid new p q
    (λ k a. (a.0, omega (arith, a.1), a.2)) (λ k b. (j, omega arith, b)) (λ k c. by k c (cases_eq c.0 j))
  where
    by : (k : ℕ) → (c : IsBrokenBy g lowest t (j + 1) k) → (c.0 ≡ j) ⊎ (c.0 ≢ j) → IsBrokenBy g lowest t j k ⊎ HasWire g lowest k (table_wire g.shape t j)
    by k c (inl e) = inr (subst (λ z. HasWire g lowest k (table_wire g.shape t z)) e c.2)
    by k c (inr ne) = inl (c.0, omega (arith, c.1, ne), c.2)

module _ (d : Defects) (g : Configuration) (lowest : List ℕ) where
  pub crosses_first : (xs : List Cross) → ((x : ℕ) → count_by (λ (c : Cross). c.0 == x) xs ≡ (if is_closed g x then 1 else 0)) → (n : ℕ) → length xs ≤ n → n ≤ length xs → (old new : List Bool) →
      IsMarked (IsOfFirst (λ (c : Cross). IsUnfreeCrossOf d g lowest c.0) no_cross xs n) old new → IsMarked (IsUnfreeCross d g lowest) old new
  crosses_first xs counts n ge le old new marked = marked_same (IsOfFirst (λ (c : Cross). IsUnfreeCrossOf d g lowest c.0) no_cross xs n) (IsUnfreeCross d g lowest) old new marked
      (λ k first. first_all (λ (c : Cross). c.0) xs (is_closed g) counts (IsUnfreeCrossOf d g lowest) no_cross n k ge le first)
      (λ k r. all_first (λ (c : Cross). c.0) xs (is_closed g) counts (IsUnfreeCrossOf d g lowest) no_cross n k ge r.0 r.1 r.2)

  pub tables_first : (xs : List Table) → ((t : ℕ) → count_by (λ (c : Table). c.0 == t) xs ≡ (if is_some (setting_of g t) then 1 else 0)) → (n : ℕ) → length xs ≤ n → n ≤ length xs → (old new : List Bool) →
      IsMarked (IsOfFirst (λ (c : Table). IsBrokenHere d g lowest c.0) no_table xs n) old new → IsMarked (IsUnfreeTable d g lowest) old new
  tables_first xs counts n ge le old new marked = marked_same (IsOfFirst (λ (c : Table). IsBrokenHere d g lowest c.0) no_table xs n) (IsUnfreeTable d g lowest) old new marked
      (λ k first. let r = first_all (λ (c : Table). c.0) xs (λ t. is_some (setting_of g t)) counts (IsBrokenHere d g lowest) no_table n k ge le first in (r.0, on_is (setting_of g r.0) r.1, r.2))
      (λ k r. all_first (λ (c : Table). c.0) xs (λ t. is_some (setting_of g t)) counts (IsBrokenHere d g lowest) no_table n k ge r.0 (is_on (setting_of g r.0) r.1) r.2)

-- ---- marks of nets that are broken say which nets move

module _ (d : Defects) (i : ImageValue) (is : IsImage i) (numbered : IsNumbered i.config.shape) (lowest : List ℕ) (are : AreThose (IsLowest i.config) lowest)
    (crosses_tell : (x : ℕ) → (is_free_cross i.config.shape d x ≡ true) ↔ IsFreeCross i.config.shape d x)
    (tables_tell : (t : ℕ) → (is_free_table i.config.shape d t ≡ true) ↔ IsFreeTable i.config.shape d t)
    (marks : List Bool) (marked : AreMarks (length lowest) (IsBroken d i.config lowest) marks) where
  unmarked_whole : (k : ℕ) → get_or marks k false ≡ false → ¬ IsBroken d i.config lowest k
  unmarked_whole k e broken = false≢true (sym e ∙ marked.each k broken)

  by_test : (b : Bool) {P : Type 0} → (b ≡ true → P) → (P → b ≡ true) → ¬ ¬ P → P
  by_test true to from nn = to refl
  by_test false to from nn = absurd (nn (λ p. false≢true (from p)))

  whole_cross : (k x : ℕ) → get_or marks k false ≡ false → is_closed i.config x ≡ true → HasWire i.config lowest k (ends_of i.config.shape x).0 → IsFreeCross i.config.shape d x
  whole_cross k x e on wire = by_test (is_free_cross i.config.shape d x) (crosses_tell x).0 (crosses_tell x).1 (λ unfree. unmarked_whole k e (inl (x, on, (unfree, wire))))

  whole_wire : (k w : ℕ) → get_or marks k false ≡ false → HasWire i.config lowest k w → IsFreeWire d w
  whole_wire k w e wire = by (has_end i.config numbered is.config lowest are k w wire)
    where
      by : IsEnd i.config w → IsFreeWire d w
      by (as_tap x on at) = subst (IsFreeWire d) at (whole_cross k x e on (subst (HasWire i.config lowest k) (sym at) wire)).tap
      by (as_line x on at) = subst (IsFreeWire d) at (whole_cross k x e on (line_to_tap i.config lowest k x on (subst (HasWire i.config lowest k) (sym at) wire))).line

  whole_table : (k t j : ℕ) → get_or marks k false ≡ false → IsSome (setting_of i.config t) → j < 7 → HasWire i.config lowest k (table_wire i.config.shape t j) → IsFreeTable i.config.shape d t
  whole_table k t j e on l wire = by_test (is_free_table i.config.shape d t) (tables_tell t).0 (tables_tell t).1 (λ unfree. unmarked_whole k e (inr (t, on, (unfree, (j, l, wire)))))

  not_kept : (k : ℕ) → IsBroken d i.config lowest k → ¬ IsKept d i lowest k
  not_kept k (inl (x, on, (unfree, wire))) kept = unfree (kept.crosses x on wire)
  not_kept k (inr (t, on, (unfree, (j, l, wire)))) kept = unfree (kept.tables t j on l wire)

  pub broken_moves : AreMoves d i lowest marks
  broken_moves = record {
    sized = marked.sized;
    kept = λ k l e. record {
      within = l;
      wires = λ w wire. whole_wire k w e wire;
      crosses = λ x on wire. whole_cross k x e on wire;
      pins = λ p has wire. whole_wire k (pin_wire i.config.shape p) e wire;
      tables = λ t j on h wire. whole_table k t j e on h wire;
    };
    moving = λ k l e. not_kept k (marked.only k e);
  }
