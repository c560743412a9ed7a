-- What the tests of tables keep, table by table.
use Rattle.std.proofs.Common.{◌≡◌, ℕ, zero, suc, ◌+◌, ◌<◌, ◌≤◌, Bool, true, false, not, Some, Option, List, [], ◌∷◌, length, get_or, refl, sym, ap, ◌∙◌, subst, arith, All, slice_get}
use Rattle.diag_growth.proofs.Vocabulary.{false≢true, more_itself, slice_get_within, Shape, Table, crosses_of, tables_of, hextant_of, IsLine, IsPort, Faults}
use Rattle.diag_growth.proofs.Vocabulary.{StandsBy, IsOutside, StandsWithout, IsSeated, IsRightTable, Kept, HoldsFor, IsMore, KnownWires}
use Rattle.diag_growth.proofs.Vocabulary.{HasWire, IsKnown, IsKeptCrossOf, InSet, AreAllWithout, IsPlaceAt, IsWithout, SeatedIsKept}
use Rattle.diag_growth.proofs.Vocabulary.{SeatedAreKept, VerifiedWire, known_later, KeepsTable, TableIf, AddsOnlyTableFacts}
use native.Mathlib.Decide.{ℕ_discrete}
use Rattle.machine_meaning.proofs.Seats.{stands_also, seated_also}
use Rattle.diag_growth.proofs.Placing.{seated_place}

-- what stands without the hextant stands by the known wires outside it
pub stands_within : (k : Kept) (ss : List VerifiedWire) (h : ℕ) (set : List Bool) → ((w : ℕ) → HasWire ss w → IsOutside k.shape h w → InSet set w) →
    (w : ℕ) → StandsWithout k.shape (HasWire ss) (IsKeptCrossOf k) h w → StandsBy k.shape (InSet set) (IsKeptCrossOf k) w
stands_within k ss h set all w s = stands_also (λ u is. all u is.0 is.1) (λ x a b is at p q. is) s

-- where no place was found, or a pin isn't known, the table isn't seated
pub no_seat : {k : Kept} {ss without : List VerifiedWire} {t : ℕ} → ((w : ℕ) → StandsWithout k.shape (HasWire ss) (IsKeptCrossOf k) (hextant_of k.shape t) w → HasWire without w) →
    ((near line : ℕ) → IsPort k.shape (hextant_of k.shape t) near → HasWire without near → IsLine k.shape (hextant_of k.shape t) line → ¬ IsPlaceAt k ss without t near line) →
    ¬ IsSeated k.shape (HasWire ss) (IsKeptCrossOf k) t
no_seat whole none s = none s.near s.line s.near_port (whole s.near s.near_stands) (s.out).0 (seated_place whole s)

-- seated by what was kept before other tables were tested, and after
pub seated_same : {k l : Kept} {ss : List VerifiedWire} {t : ℕ} → l.shape ≡ k.shape → AddsOnlyTableFacts k l → IsSeated k.shape (HasWire ss) (IsKeptCrossOf k) t → IsSeated l.shape (HasWire ss) (IsKeptCrossOf l) t
seated_same {k} {l} {ss} {t} shape only s = subst (λ m. IsSeated m (HasWire ss) (IsKeptCrossOf l) t) (sym shape)
    (seated_also k.shape (HasWire ss) (HasWire ss) (IsKeptCrossOf k) (IsKeptCrossOf l) (λ w is. is)
    (λ x a b is at p q. (subst (λ m. x < crosses_of m) (sym shape) is.0, only.crosses x ∙ is.1)) t s)

-- a table that was tested, and one that isn't seated
pub kept_over : {told : Option Faults} {k l : Kept} {ss : List VerifiedWire} {t u : ℕ} → u ≡ t → TableIf told k l u → SeatedIsKept told k l ss t
kept_over {l = l} e table = record { at = λ f is h seated right. subst (KeepsTable l) e (table.at f is h (subst (IsRightTable f) (sym e) right)) }

pub kept_unseated : {told : Option Faults} {k l : Kept} {ss : List VerifiedWire} {t : ℕ} → ¬ IsSeated k.shape (HasWire ss) (IsKeptCrossOf k) t → SeatedIsKept told k l ss t
kept_unseated none = record { at = λ f is h seated right. absurd (none seated) }

-- each of the first n tables
pub record AreTested (told : Option Faults) (k l : Kept) (ss : List VerifiedWire) (tables : List Table) (n : ℕ) : Type 0 where
  pub each : (j : ℕ) (t : Table) → j < n → slice_get tables j ≡ Some t → SeatedIsKept told k l ss t.0

pub tested_first : {told : Option Faults} {k : Kept} {ss : List VerifiedWire} {tables : List Table} → AreTested told k k ss tables 0
tested_first = record { each = λ j t less here. absurd (let no : ⊥ = omega (arith, less) in no) }

keeps_later : {l n : Kept} {t : ℕ} → IsMore l n → KeepsTable l t → KeepsTable n t
keeps_later {t = t} more h = record { cells = λ a below. more.cells t a (h.cells a below); register = more.registers t h.register }

pub tested_on : {told : Option Faults} {k l n : Kept} {ss : List VerifiedWire} {tables : List Table} {i : ℕ} {t : Table} → ((f : Faults) → told ≡ Some f → HoldsFor k f → HoldsFor l f) → IsMore k l → AddsOnlyTableFacts k l → IsMore l n →
    slice_get tables i ≡ Some t → AreTested told k l ss tables i → SeatedIsKept told l n ss t.0 → AreTested told k n ss tables (i + 1)
tested_on {told} {k} {l} {n} {ss} {tables} {i} {t} later first only more this old new = record { each = λ j u less here. by j u less here (ℕ_discrete j i) }
  where
    now : SeatedIsKept told k n ss t.0
    now = record { at = λ f is h seated right. new.at f is (later f is h) (seated_same first.shape only seated) right }

    before : (u : ℕ) → SeatedIsKept told k l ss u → SeatedIsKept told k n ss u
    before u s = record { at = λ f is h seated right. keeps_later more (s.at f is h seated right) }

    some_same : {x y : Table} → Some x ≡ Some y → x ≡ y
    some_same e = cc

    by : (j : ℕ) (u : Table) → j < i + 1 → slice_get tables j ≡ Some u → Dec (j ≡ i) → SeatedIsKept told k n ss u.0
    by j u less here (yes e) = subst (λ (v : Table). SeatedIsKept told k n ss v.0) (some_same (sym this ∙ ap (slice_get tables) (sym e) ∙ here)) now
    by j u less here (no d) = before u.0 (old.each j u (omega (arith, less, d)) here)

pub tested_all : {told : Option Faults} {k l : Kept} {ss : List VerifiedWire} {tables : List Table} {n : ℕ} → AreTested told k l ss tables n → length tables ≤ n → SeatedAreKept told k l ss tables
tested_all {tables = tables} {n = n} are le = record { each = λ j t here. are.each j t (let low = slice_get_within tables j t here in omega (arith, low, le)) here }

-- no facts are new
pub only_none : {k : Kept} → AddsOnlyTableFacts k k
only_none = record { crosses = λ x. refl; wires = λ w. refl; apart = λ w. refl }

-- where no test is made
pub tested_next : {told : Option Faults} {k : Kept} {ss : List VerifiedWire} {tables : List Table} {i : ℕ} {t : Table} → slice_get tables i ≡ Some t → AreTested told k k ss tables i → SeatedIsKept told k k ss t.0 →
    AreTested told k k ss tables (i + 1)
tested_next {k = k} this old new = tested_on (λ f is h. h) (more_itself k) only_none (more_itself k) this old new

pub is_off : (b : Bool) → not b ≡ true → b ≡ false
is_off true e = absurd (false≢true e)
is_off false e = refl

-- the table at a place
pub table_at : (tables : List Table) (i : ℕ) (t d : Table) → i < length tables → t ≡ get_or tables i d → slice_get tables i ≡ Some t
table_at [] i t d below e = absurd (let no : ⊥ = omega (arith, below) in no)
table_at (u ∷ tables) zero t d below e = ap (λ x. Some x) (sym e)
table_at (u ∷ tables) (suc i) t d below e = table_at tables i t d (omega (arith, below)) e

-- .. is below what all are
pub table_below : (k l : Kept) → l.shape ≡ k.shape → (tables : List Table) (i : ℕ) (d : Table) → i < length tables → All (λ (t : Table). t.0 < tables_of k.shape) tables → (get_or tables i d).0 < tables_of l.shape
table_below k l e tables i d below all = subst (λ (m : Shape). (get_or tables i d).0 < tables_of m) (sym e) (all i d below)

-- .. and one after the other
pub only_then : {k l n : Kept} → AddsOnlyTableFacts k l → AddsOnlyTableFacts l n → AddsOnlyTableFacts k n
only_then f g = record { crosses = λ x. g.crosses x ∙ f.crosses x; wires = λ w. g.wires w ∙ f.wires w; apart = λ w. g.apart w ∙ f.apart w }

-- What stands without a hextant, by the shape of what is known and by that of the proof.
module _ {k : Kept} {known : KnownWires} (is : IsKnown k known) (h : ℕ) (set : List Bool) where
  on_proof : {w : ℕ} → IsOutside known.shape h w → IsOutside k.shape h w
  on_proof {w} out = subst (λ (m : Shape). IsOutside m h w) is.shape out

  on_known : {w : ℕ} → IsOutside k.shape h w → IsOutside known.shape h w
  on_known {w} out = subst (λ (m : Shape). IsOutside m h w) (sym is.shape) out

  pub all_without : (without : KnownWires) → ((w : ℕ) → InSet set w → HasWire known.steps w) → ((w : ℕ) → InSet set w → IsOutside known.shape h w) →
      ((w : ℕ) → HasWire known.steps w → IsOutside known.shape h w → InSet set w) → IsKnown k without → ((w : ℕ) → HasWire without.steps w → InSet set w) →
      ((w : ℕ) → StandsBy k.shape (InSet set) (IsKeptCrossOf k) w → HasWire without.steps w) → AreAllWithout k known.steps h without
  all_without without has outside whole stand within all = record {
    known = stand;
    within = record { known = λ w on. has w (within w on); outside = λ w on. on_proof (outside w (within w on)) };
    whole = λ w s. all w (stands_within k known.steps h set (λ u on out. whole u on (on_known out)) w s);
  }

pub without_at : {k : Kept} {ss : List VerifiedWire} {h n : ℕ} {without : KnownWires} → h ≡ n → AreAllWithout k ss h without → AreAllWithout k ss n without
without_at {k} {ss} {without = without} e all = subst (λ i. AreAllWithout k ss i without) e all

-- .. and once tables were tested
pub without_later : {k l : Kept} {ss : List VerifiedWire} {h : ℕ} {without : KnownWires} → IsMore k l → AddsOnlyTableFacts k l → AreAllWithout k ss h without → AreAllWithout l ss h without
without_later {k} {l} {ss} {h} {without} more only all = record {
  known = known_later more all.known;
  within = subst (λ (m : Shape). IsWithout m ss without.steps h) (sym more.shape) all.within;
  whole = λ w s. all.whole w (back w (subst (λ (m : Shape). StandsWithout m (HasWire ss) (IsKeptCrossOf l) h w) more.shape s));
}
  where
    back : (w : ℕ) → StandsWithout k.shape (HasWire ss) (IsKeptCrossOf l) h w → StandsWithout k.shape (HasWire ss) (IsKeptCrossOf k) h w
    back w s = stands_also (λ u is. is) (λ x a b is at p q. (subst (λ (m : Shape). x < crosses_of m) more.shape is.0, sym (only.crosses x) ∙ is.1)) s

-- the hextant of a table, by the shape of what is known and by that of the proof
pub hextant_is : {n m s : Shape} {h : ℕ} (t : ℕ) → n ≡ m → s ≡ n → h ≡ hextant_of s t → h ≡ hextant_of m t
hextant_is {h = h} t e same node = subst (λ (z : Shape). h ≡ hextant_of z t) (same ∙ e) node
