-- Known wires stay known, and one more is known.
use Rattle.std.proofs.Common.{◌≡◌, ◌⊎◌, ℕ, ◌+◌, ◌<◌, ◌&&◌, Bool, Some, List, [], ◌∷◌, ◌++◌, length, refl, sym, ap, ◌∙◌, subst, true, inl, inr, arith, slice_get}
use Rattle.diag_known.proofs.Vocabulary.{and_parts, has_number, slice_get_within, Shape, Ends, ends_of, pin_wire, pins_of, crosses_of, Kept}
use Rattle.diag_known.proofs.Vocabulary.{keeps_cross, keeps_wire, is_apart, IsMore, KeepsSet, HasRetaken, retaken_shape, retaken_cross}
use Rattle.diag_known.proofs.Vocabulary.{retaken_wire, pair_apart, pair_differs, Support, SupportedBy, VerifiedWire, Walk, IsRoute}
use Rattle.diag_known.specs.Vocabulary.{KnownWires, HasWire, IsBefore, IsFoot, Stands, on_pin, on_feet, IsKnownStep, IsKnown, IsGood, KnowsAll, IsWay, AreWays}
use Rattle.diag_known.proofs.Places.{get_pushed, before_later, before_has}

-- What is known stays so where the crosspoints and wires that were kept are, and the known wires are of the set.
module _ {k l : Kept} (shape : l.shape ≡ k.shape) (crosses : (x : ℕ) → keeps_cross k x ≡ true → keeps_cross l x ≡ true) where
  foot_stays : {ss : List VerifiedWire} {i w : ℕ} {a : Support} → IsFoot k ss i w a → IsFoot l ss i w a
  foot_stays {w = w} {a = a} f = record {
    within = subst (λ (m : Shape). a.cross.0 < crosses_of m) (sym shape) f.within;
    kept = crosses a.cross.0 f.kept;
    at = subst (λ (m : Shape). Ends (ends_of m a.cross.0) a.wire.0 w) (sym shape) f.at;
    before = f.before;
  }

  stands_still : {ss : List VerifiedWire} {i w : ℕ} {s : SupportedBy} → Stands k ss i w s → Stands l ss i w s
  stands_still {w = w} (on_pin {n = n} within e) = on_pin (subst (λ (m : Shape). n < pins_of m) (sym shape) within) (subst (λ (m : Shape). w ≡ pin_wire m n) (sym shape) e)
  stands_still (on_feet f g differ) = on_feet (foot_stays f) (foot_stays g) differ

  pub known_stays : {known : KnownWires} → ((w : ℕ) → keeps_wire k w ≡ true → keeps_wire l w ≡ true) → ((w : ℕ) → HasWire known.steps w → is_apart l w ≡ true) → IsKnown k known → IsKnown l known
  known_stays {known} wires of_set is = record {
    shape = is.shape ∙ sym shape;
    of_set = of_set;
    steps = λ i s here. let step = is.steps i s here in record {
      kept = wires s.wire.0 step.kept;
      apart = λ u before. pair_apart l u s.wire.0 (pair_differs k u s.wire.0 (step.apart u before)) (of_set u (before_has before)) (of_set s.wire.0 (record { place = i; at = record { step = s; here = here; wire = refl } }));
      stands = stands_still step.stands;
    };
  }

pub foot_later : {k l : Kept} {ss : List VerifiedWire} {i w : ℕ} {a : Support} → IsMore k l → IsFoot k ss i w a → IsFoot l ss i w a
foot_later more f = foot_stays more.shape more.crosses f

pub stands_later : {k l : Kept} {ss : List VerifiedWire} {i w : ℕ} {s : SupportedBy} → IsMore k l → Stands k ss i w s → Stands l ss i w s
stands_later more s = stands_still more.shape more.crosses s

pub known_later : {k l : Kept} {known : KnownWires} → IsMore k l → IsKnown k known → IsKnown l known
known_later more is = known_stays more.shape more.crosses more.wires (λ w has. more.apart w (is.of_set w has)) is

-- .. so where the set is taken back to what is known
pub known_retaken : {k l : Kept} {known : KnownWires} {wires : List Bool} → HasRetaken wires k l → ((w : ℕ) → HasWire known.steps w → has_number wires w ≡ true) → IsKnown k known → IsKnown l known
known_retaken {k} {l} {known} {wires} r whole is =
    known_stays (retaken_shape r) (λ x on. retaken_cross r x ∙ on) (λ w on. retaken_wire r w ∙ on) (λ w has. r.apart w ∙ both (has_number wires w) (is_apart k w) (whole w has) (is.of_set w has)) is
  where
    both : (a b : Bool) → a ≡ true → b ≡ true → (a && b) ≡ true
    both a b p q = rw (p, q) refl

-- .. and then all of it is known
pub retaken_all : {k l : Kept} {ss : List VerifiedWire} {wires : List Bool} → HasRetaken wires k l → ((w : ℕ) → has_number wires w ≡ true → HasWire ss w) → KnowsAll l ss
retaken_all {k} {wires = wires} r known w on = known w (and_parts (has_number wires w) (is_apart k w) (sym (r.apart w) ∙ on)).0

foot_more : {k : Kept} {ss : List VerifiedWire} {i w : ℕ} {a : Support} (ts : List VerifiedWire) → IsFoot k ss i w a → IsFoot k (ss ++ ts) i w a
foot_more ts f = record { within = f.within; kept = f.kept; at = f.at; before = before_later ts f.before }

stands_more : {k : Kept} {ss : List VerifiedWire} {i w : ℕ} {s : SupportedBy} (ts : List VerifiedWire) → Stands k ss i w s → Stands k (ss ++ ts) i w s
stands_more ts (on_pin within e) = on_pin within e
stands_more ts (on_feet f g differ) = on_feet (foot_more ts f) (foot_more ts g) differ

-- what came before a place before the last one is of the old list
before_pushed : {ss : List VerifiedWire} (s : VerifiedWire) {i u : ℕ} → i < length ss + 1 → IsBefore (ss ++ s ∷ []) i u → IsBefore ss i u
before_pushed {ss} s {i} {u} within b = by_place (get_pushed ss s b.place b.at.step b.at.here)
  where
    by_place : (slice_get ss b.place ≡ Some b.at.step) ⊎ ((b.place ≡ length ss) × (s ≡ b.at.step)) → IsBefore ss i u
    by_place (inl h) = record { place = b.place; early = b.early; at = record { step = b.at.step; here = h; wire = b.at.wire } }
    by_place (inr h) = absurd (let e = b.early in let f = h.0 in let no : ⊥ = omega (arith, e, f, within) in no)

pub learnt : {k : Kept} {known new : KnownWires} {s : VerifiedWire} → IsKnown k known → IsGood k known.steps s.wire.0 → Stands k known.steps (length known.steps) s.wire.0 s.stand →
    new.shape ≡ known.shape → new.steps ≡ known.steps ++ s ∷ [] → IsKnown k new
learnt {k} {known} {new} {s} is good stands shape steps = record {
  shape = shape ∙ is.shape;
  of_set = λ w has. of_set w (subst (λ ss. HasWire ss w) steps has);
  steps = λ i t here. subst (λ ss. IsKnownStep k ss i t) (sym steps) (by_place i t (get_pushed known.steps s i t (subst (λ ss. slice_get ss i ≡ Some t) steps here)));
}
  where
    of_set : (w : ℕ) → HasWire (known.steps ++ s ∷ []) w → is_apart k w ≡ true
    of_set w has = by (get_pushed known.steps s has.place has.at.step has.at.here)
      where
        by : (slice_get known.steps has.place ≡ Some has.at.step) ⊎ ((has.place ≡ length known.steps) × (s ≡ has.at.step)) → is_apart k w ≡ true
        by (inl here) = is.of_set w (record { place = has.place; at = record { step = has.at.step; here = here; wire = has.at.wire } })
        by (inr last) = subst (λ v. is_apart k v ≡ true) (ap (λ (t : VerifiedWire). t.wire.0) last.1 ∙ has.at.wire) good.of_set

    by_place : (i : ℕ) (t : VerifiedWire) → (slice_get known.steps i ≡ Some t) ⊎ ((i ≡ length known.steps) × (s ≡ t)) → IsKnownStep k (known.steps ++ s ∷ []) i t
    by_place i t (inl h) = let step = is.steps i t h in let low = slice_get_within known.steps i t h in record {
      kept = step.kept;
      apart = λ u before. step.apart u (before_pushed s (omega (arith, low)) before);
      stands = stands_more (s ∷ []) step.stands;
    }
    by_place i t (inr h) = subst (λ j. IsKnownStep k (known.steps ++ s ∷ []) j t) (sym h.0) (subst (IsKnownStep k (known.steps ++ s ∷ []) (length known.steps)) h.1 (record {
      kept = good.kept;
      apart = λ u before. good.apart u (before_has (before_pushed s (omega arith) before));
      stands = stands_more (s ∷ []) stands;
    }))

-- ways stay ways
pub way_later : {k l : Kept} {ss : List VerifiedWire} {w : ℕ} {q : Walk} → IsMore k l → IsWay k ss w q → IsWay l ss w q
way_later {q = q} more way = record {
  route = subst (λ (m : Shape). IsRoute m q) (sym more.shape) way.route;
  crosses = λ x on. more.crosses x (way.crosses x on);
  end = way.end;
  wires = way.wires;
}

pub ways_later : {k l : Kept} {ss : List VerifiedWire} {w : ℕ} {p q : Walk} → IsMore k l → AreWays k ss w p q → AreWays l ss w p q
ways_later more a = record { first = way_later more a.first; second = way_later more a.second; meet = a.meet }

-- where the set stays as it was, all of it is known still
pub all_still : (k l : Kept) {ss : List VerifiedWire} → KeepsSet k l → KnowsAll k ss → KnowsAll l ss
all_still k l same all w on = all w (sym (same w) ∙ on)

-- nothing is known at first
pub known_none : {k : Kept} {known : KnownWires} → known.shape ≡ k.shape → known.steps ≡ [] → IsKnown k known
known_none {k} {known} shape none = record {
  shape = shape;
  of_set = λ w has. absurd (at_none has.place has.at.step (subst (λ (ss : List VerifiedWire). slice_get ss has.place ≡ Some has.at.step) none has.at.here));
  steps = λ i s here. absurd (at_none i s (subst (λ (ss : List VerifiedWire). slice_get ss i ≡ Some s) none here));
}
  where
    at_none : (i : ℕ) (s : VerifiedWire) → slice_get [] i ≡ Some s → ⊥
    at_none i s e = cc
