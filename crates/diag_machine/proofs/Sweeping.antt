-- A sweep of the whole machine, and growth behind it.
use Rattle.std.proofs.Common.{◌≡◌, ◌⊎◌, ◌≤◌, ◌<◌, ◌+◌, ◌*◌, ℕ, Bool, true, false, Option, Some, List, [], ◌∷◌, ◌++◌, length, replicate, length-append, refl, sym, ap, ◌∙◌, subst, inl, inr, arith, All, not, slice_set}
use Rattle.diag_machine.proofs.Vocabulary.{false≢true, count_by-le-length, has_number, Shape, Table, tables_of, Faults, IsFaultless}
use Rattle.diag_machine.proofs.Vocabulary.{all_sound, RigState, ForEach, Narrows, Kept, HoldsFor, IsMoreButPairs, IsFieldOf, HasWire, Field}
use Rattle.diag_machine.proofs.Vocabulary.{VerifiedWire, AreMarksFor, HasTable, MarksIn, TrueIf, DefectMarks, IfFaultless, IsWhole}
use Rattle.diag_machine.proofs.Vocabulary.{TablesIf}
use native.Mathlib.Decide.{dec_lt}
use Rattle.diag_known.proofs.Counting.{none_has, set_only}
use Rattle.diag_growth.specs.Tables.{SeatedIsKept, SeatedAreKept, fresh_tables, keeps_table}
use Rattle.diag_sweep.proofs.Marking.{marks_for}
use Rattle.diag_machine.proofs.Stepping.{has_before, has_last}

pub always : {told : Option Faults} {k : Kept} {P : Type 0} → P → IfFaultless told k P
always p = record { at = λ f e none holds. p }

pub few_when : {told : Option Faults} {k : Kept} {P : Type 0} → ((f : Faults) → told ≡ Some f → IsFaultless f → HoldsFor k f → P) → IfFaultless told k P
few_when p = record { at = p }

-- marks that stay true, of each set that explains what was read
pub marks_each : {r s : RigState} {k l : Kept} {old new : List VerifiedWire} {b c : DefectMarks} → ForEach s (λ told. TrueIf told k old b → TrueIf told l new c) → Narrows r s →
    ForEach r (λ told. TrueIf told k old b) → ForEach s (λ told. TrueIf told l new c)
marks_each p narrows q = λ f e. p f e (q f (narrows f e))

-- Nothing is marked, and what is kept is true.
pub marks_of_none : {told : Option Faults} {k : Kept} (ss : List VerifiedWire) {b : DefectMarks} → ((f : Faults) → HoldsFor k f) → ((x : ℕ) → has_number b.stuck x ≡ false) → ((x : ℕ) → has_number b.unfit x ≡ false) → ((x : ℕ) → has_number b.unclear x ≡ false) →
    ((x : ℕ) → has_number b.wrong x ≡ false) → TrueIf told k ss b
marks_of_none ss holds stuck unfit unclear wrong = record {
  at = λ f e. (
    holds f,
    record {
      stuck = λ x on. absurd (false≢true (sym (stuck x) ∙ on));
      unfit = λ x on. absurd (false≢true (sym (unfit x) ∙ on));
      unclear = λ x on. absurd (false≢true (sym (unclear x) ∙ on));
      wrong = λ x on. absurd (false≢true (sym (wrong x) ∙ on));
    },
  );
}

-- Marks of a machine stay so.
pub marks_of : {m : Shape} {a : Field} {tables : List Table} {b c : DefectMarks} → AreMarksFor m b → MarksIn a tables b c → AreMarksFor m c
marks_of are in_ = marks_for refl are in_

pub field_later : {k l : Kept} {a : Field} → IsMoreButPairs k l → IsFieldOf k.shape a → IsFieldOf l.shape a
field_later {a = a} more field = subst (λ (m : Shape). IsFieldOf m a) (sym more.shape) field

pub whole_later : {k l : Kept} {a : Field} → IsMoreButPairs k l → IsWhole k.shape a → IsWhole l.shape a
whole_later {a = a} more whole = subst (λ (m : Shape). IsWhole m a) (sym more.shape) whole

pub marks_on : {k l : Kept} {b : DefectMarks} → IsMoreButPairs k l → AreMarksFor k.shape b → AreMarksFor l.shape b
marks_on {b = b} more marks = subst (λ (m : Shape). AreMarksFor m b) (sym more.shape) marks

pub marks_back : {k l : Kept} {b : DefectMarks} → IsMoreButPairs k l → AreMarksFor l.shape b → AreMarksFor k.shape b
marks_back {b = b} more marks = subst (λ (m : Shape). AreMarksFor m b) more.shape marks

pub at_once : {x y : ℕ} → x ≡ y → x ≤ y
at_once e = omega (arith, e)

pub at_most : {x y z : ℕ} → x ≤ y → y ≤ z → x ≤ z
at_most a b = omega (arith, a, b)

-- Without faults no wire is marked unfit that isn't known.
pub none_unfit : {told : Option Faults} {k : Kept} {ss : List VerifiedWire} {b : DefectMarks} (set : List Bool) (f : Faults) → told ≡ Some f → IsFaultless f → TrueIf told k ss b →
    ((w : ℕ) → has_number set w ≡ true → (has_number b.unfit w ≡ true) × (¬ HasWire ss w)) → (w : ℕ) → has_number set w ≡ false
none_unfit {ss = ss} {b = b} set f e none marks each w = by (has_number set w) refl
  where
    by : (x : Bool) → has_number set w ≡ x → x ≡ false
    by false is = refl
    by true is = let both = each w is in absurd ((marks.at f e).1.unfit w both.0 (λ u s. none.wires u) (λ u has s. both.1 (subst (HasWire ss) ((all_sound none w).alone u s) has)))

-- numbers that are marked one by one
pub marked_none : (set : List Bool) (n : ℕ) → set ≡ replicate n false → (w : ℕ) → has_number set w ≡ true → ⊥
marked_none set n is w on = none_has n w (subst (λ (s : List Bool). has_number s w ≡ true) is on)

pub marked_next : (P : ℕ → Type 0) (old new : List Bool) (u : ℕ) → ((w : ℕ) → has_number old w ≡ true → P w) → P u → new ≡ slice_set old u true → (w : ℕ) → has_number new w ≡ true → P w
marked_next P old new u all has is w on = by (set_only old u w (subst (λ (s : List Bool). has_number s w ≡ true) is on))
  where
    by : (has_number old w ≡ true) ⊎ (u ≡ w) → P w
    by (inl before) = all w before
    by (inr same) = subst P same has

-- One table more is among those that are left, or it is marked.
module _ (wrong : List Bool) (old : List Table) (n : ℕ) where
  pub left_kept : (t : Table) (new : List Table) → t.0 ≡ n → new ≡ old ++ t ∷ [] → ((u : ℕ) → u < n → (has_number wrong u ≡ true) ⊎ HasTable old u) → (u : ℕ) → u < n + 1 → (has_number wrong u ≡ true) ⊎ HasTable new u
  left_kept t new is more each u less = by (dec_lt u n)
    where
      later : (has_number wrong u ≡ true) ⊎ HasTable old u → (has_number wrong u ≡ true) ⊎ HasTable new u
      later (inl on) = inl on
      later (inr x) = inr (has_before old t new more x)

      by : Dec (u < n) → (has_number wrong u ≡ true) ⊎ HasTable new u
      by (yes h) = later (each u h)
      by (no h) = inr (has_last old t new more (is ∙ omega (arith, h, less)))

  pub left_out : has_number wrong n ≡ true → ((u : ℕ) → u < n → (has_number wrong u ≡ true) ⊎ HasTable old u) → (u : ℕ) → u < n + 1 → (has_number wrong u ≡ true) ⊎ HasTable old u
  left_out on each u less = by (dec_lt u n)
    where
      by : Dec (u < n) → (has_number wrong u ≡ true) ⊎ HasTable old u
      by (yes h) = each u h
      by (no h) = let e : u ≡ n = omega (arith, h, less) in inl (ap (has_number wrong) e ∙ on)

pub left_count : (old : List Table) (t : Table) (new : List Table) (n : ℕ) → new ≡ old ++ t ∷ [] → length old ≤ n → length new ≤ n + 1
left_count old t new n more few = let l = ap length more ∙ length-append old (t ∷ []) in omega (arith, l, few)

-- All tables were tested that aren't marked wrong.
pub tables_left_if : {told : Option Faults} {m : Shape} {k l : Kept} {ss ts : List VerifiedWire} {b : DefectMarks} {tables : List Table} → m ≡ k.shape → TrueIf told k ts b →
    ((t : ℕ) → t < tables_of m → (has_number b.wrong t ≡ true) ⊎ HasTable tables t) → SeatedAreKept told k l ss tables → TablesIf told k l ss
tables_left_if {told} {m} {k} {l} {ss} {ts} {b} {tables} e marks has kept = record { each = λ t h. by t (has t (subst (λ n. t < tables_of n) (sym e) h)) }
  where
    by : (t : ℕ) → (has_number b.wrong t ≡ true) ⊎ HasTable tables t → SeatedIsKept told k l ss t
    by t (inl on) = record { at = λ f is holds seated right. absurd ((marks.at f is).1.wrong t on right) }
    by t (inr x) = subst (SeatedIsKept told k l ss) x.is (kept.each x.place x.table x.here)

pub tables_left_most : (k : Kept) (tables : List Table) (before : ℕ) {n after : ℕ} → length tables ≤ n → after ≤ before + 130 * fresh_tables k tables → after ≤ before + 130 * n
tables_left_most k tables before count loads = let few = count_by-le-length (λ (t : Table). not (keeps_table k t.0)) tables in omega (arith, count, loads, few)
