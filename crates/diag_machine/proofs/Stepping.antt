-- The steps of a diagnosis, together.
use Rattle.std.proofs.Common.{◌≡◌, ◌<◌, ◌+◌, ℕ, zero, suc, true, Some, Option, List, [], ◌∷◌, ◌++◌, length, refl, sym, ap, subst, All, slice_get}
use Rattle.std.specs.Option.{option_map_or}
use Rattle.std.proofs.lemmas.List.Elements.{All-push}
use Rattle.diag_machine.proofs.Vocabulary.{has_number, Shape, Table, IsNumbered, pin_wire, wires_of, crosses_of, tables_of, Faults, Defects}
use Rattle.diag_machine.proofs.Vocabulary.{Covers, IsFair, HasFeet, two, IsTight, RigState, Explains, ForEach, advances_rest, holds_untried}
use Rattle.diag_machine.proofs.Vocabulary.{of_told, ClosedIf, GrowsIn, KnownWires, HasWire, IsKnown, Field, VerifiedWire}
use Rattle.diag_machine.proofs.Vocabulary.{AddsOnlyTableFacts, IsListOf, HasTable, TrueIf, DefectMarks, IsReached, ReachedIf, TablesIf}
use Rattle.diag_evidence.specs.Kept.{Kept, HoldsFor, IsMoreButPairs, Advances, AdvancesButPairs}
use Rattle.diag_machine.specs.Diagnosis.{IsDiagnosis}
use Rattle.diag_sweep.proofs.Marking.{true_later}
use Rattle.diag_machine.proofs.Covering.{covers, tight}
use Rattle.diag_machine.proofs.Losing.{reached_later}

some_same : (f g : Faults) → Some f ≡ Some g → f ≡ g
some_same f g is = ap (λ (o : Option Faults). option_map_or (λ x. x) o f) is

-- a set that explains what was read is the one that is spoken of
pub holds_each : {s t : RigState} {k l : Kept} {f : Faults} → AdvancesButPairs s t k l → Explains f t → (g : Faults) → Some f ≡ Some g → HoldsFor k g → HoldsFor l g
holds_each {t = t} {f = f} on e g is h = on.explained g (subst (λ (x : Faults). Explains x t) (some_same f g is) e) h

-- marks stay true as what is known grows
pub grown_true : {s t : RigState} {k l : Kept} {f : Faults} {a : Field} {old new : List VerifiedWire} {b : DefectMarks} → Advances s t k l → Explains f t → GrowsIn a old new → TrueIf (Some f) k old b → TrueIf (Some f) l new b
grown_true {k = k} {l = l} on e grows marks = true_later on.more (of_told (λ g. HoldsFor k g → HoldsFor l g) (on.explained _ e)) grows.stays marks

-- What is closed in the whole machine is all that can be reached.
pub reached_if : {told : Option Faults} {m : Shape} {l : Kept} {a : Field} {ss : List VerifiedWire} → m ≡ l.shape → IsNumbered l.shape → ((w : ℕ) → w < wires_of m → has_number a.wires w ≡ true) →
    ((x : ℕ) → x < crosses_of m → has_number a.crosses x ≡ true) → ((f : Faults) → told ≡ Some f → HoldsFor l f) → ClosedIf told l a ss → ReachedIf told l ss
reached_if {told} {m} {l} {a} {ss} e numbered wires crosses holds closed = record {
  at = λ f t. let c = closed.at f t (holds_untried (holds f t)) in record {
    pins = λ i h clear alone. c.pins i h (wire (pin_wire l.shape i) (numbered.pins i h)) clear alone;
    wires = λ w h clear alone feet. c.wires w (wire w h) clear alone (by f w feet);
    crosses = λ x h tap line unstuck. c.crosses x (cross x h) tap line unstuck;
  };
}
  where
    wire : (w : ℕ) → w < wires_of l.shape → has_number a.wires w ≡ true
    wire w h = wires w (subst (λ n. w < wires_of n) (sym e) h)

    cross : (x : ℕ) → x < crosses_of l.shape → has_number a.crosses x ≡ true
    cross x h = crosses x (subst (λ n. x < crosses_of n) (sym e) h)

    by : (f : Faults) (w : ℕ) → HasFeet l.shape f (λ x. x < crosses_of l.shape) (HasWire ss) w → HasFeet l.shape f (λ x. has_number a.crosses x ≡ true) (HasWire ss) w
    by f w (two x y u v cx cy ex ey differ hu hv sx sy) = two x y u v (cross x cx) (cross y cy) ex ey differ hu hv sx sy

pub reached_then : {told : Option Faults} {k l : Kept} {a b : KnownWires} → IsMoreButPairs k l → b ≡ a → ReachedIf told k a.steps → ReachedIf told l b.steps
reached_then {told} {k} {l} {a} {b} more e r = record { at = λ f t. subst (λ (n : KnownWires). IsReached l f (HasWire n.steps)) (sym e) (reached_later more (r.at f t)) }

-- what stands in a list with one more
get_before : (ts : List Table) (t : Table) (i : ℕ) (u : Table) → slice_get ts i ≡ Some u → slice_get (ts ++ t ∷ []) i ≡ Some u
get_before [] t i u e = cc
get_before (v ∷ ts) t zero u e = e
get_before (v ∷ ts) t (suc i) u e = get_before ts t i u e

get_last : (ts : List Table) (t : Table) → slice_get (ts ++ t ∷ []) (length ts) ≡ Some t
get_last [] t = refl
get_last (v ∷ ts) t = get_last ts t

-- One table more is in the list.
module _ (old : List Table) (t : Table) (new : List Table) (more : new ≡ old ++ t ∷ []) where
  pub has_before : {u : ℕ} → HasTable old u → HasTable new u
  has_before x = record { place = x.place; table = x.table; here = subst (λ us. slice_get us x.place ≡ Some x.table) (sym more) (get_before old t x.place x.table x.here); is = x.is }

  pub has_last : {u : ℕ} → t.0 ≡ u → HasTable new u
  has_last e = record { place = length old; table = t; here = subst (λ us. slice_get us (length old) ≡ Some t) (sym more) (get_last old t); is = e }

  pub tables_within : {n : ℕ} → t.0 ≡ n → (m : Shape) → All (λ (u : Table). u.0 < tables_of m) old → n < tables_of m → All (λ (u : Table). u.0 < tables_of m) new
  tables_within is m all less = rw more (All-push (λ (u : Table). u.0 < tables_of m) old t all (subst (λ i. i < tables_of m) (sym is) less))

-- What was known by the first proof, and what the second kept besides of tables, makes the list a diagnosis, of each set of faults that
-- explains what was read.
pub diagnosed_each : {s t u : RigState} {k l n : Kept} {known : KnownWires} {d : Defects} → ((m : Shape) → IsNumbered m) → ((m : Shape) (d : Defects) (f : Faults) → IsTight m d f → IsFair m d f) →
    ((f : Faults) → HoldsFor k f) → AdvancesButPairs s t k l → Advances t u l n → IsKnown l known → ForEach t (λ told. ReachedIf told l known.steps) → ForEach u (λ told. TablesIf told l n known.steps) →
    AddsOnlyTableFacts l n → IsListOf n.shape n known.steps d → ForEach u (λ told. IsDiagnosis told k.shape d)
diagnosed_each {s} {t} {u} {k} {l} {n} {known} {d} numbering law nothing one other is reached tables only list = λ f e. record {
  covers = λ g same. subst (λ m. Covers m d g) one.more.shape (covers is other.more (holds_each (advances_rest other) e g same (first f e g same)) here);
  fair = λ g same. law k.shape d g (tight_by f e g same);
  tight = λ g same. tight_by f e g same;
}
  where
    first : (f : Faults) → Explains f u → (g : Faults) → Some f ≡ Some g → HoldsFor l g
    first f e g same = holds_each one (other.narrows f e) g same (nothing g)

    here : IsListOf l.shape n known.steps d
    here = subst (λ m. IsListOf m n known.steps d) other.more.shape list

    tight_by : (f : Faults) → Explains f u → (g : Faults) → Some f ≡ Some g → IsTight k.shape d g
    tight_by f e g same = subst (λ m. IsTight m d g) one.more.shape
        (tight (numbering l.shape) is ((reached f (other.narrows f e)).at g same) only (λ i h seated right. ((tables f e).each i h).at g same (first f e g same) seated right) here)
