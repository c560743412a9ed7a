-- What a load of hangs leaves.
use Rattle.std.proofs.Common.{◌≡◌, ◌≢◌, ◌⊎◌, ℕ, zero, suc, ◌+◌, ◌<◌, ◌≤◌, Bool, true, false, ◌&&◌, Result, Ok, Err, Some, List, [], ◌∷◌, length, get_or, refl, sym, ap, ◌∙◌, subst, inl, inr, arith, All, OnOk, OnErr, ◌==◌, map, slice_get}
use Rattle.diag_sweep.proofs.Vocabulary.{list_any, nat_tests, has_number, Table, crosses_of, Faults, RigState, Explains, ForEach, of_told}
use Rattle.diag_sweep.proofs.Vocabulary.{WireTest, IsFieldOf, KnownWires, HasWire, Field, VerifiedWire, known_later, MarksIn, MarksSome}
use Rattle.diag_sweep.proofs.Vocabulary.{TrueIf, GoesYet, IsHand, in_hand, DefectMarks, LoadBudget}
use Rattle.std.proofs.lemmas.Bool.{false≢true, or_cases, and_parts, or_left, or_right}
use Rattle.diag_evidence.specs.Vocabulary.{Trees, Foot, HasMarked, ShowsTried, StayMarked, UnfitIf, UnclearIf, is_unfit_in, is_unclear_in, overs, turned, Kept, HoldsFor, IsMore}
use Rattle.diag_sweep.proofs.Going.{grows_itself, goes_tested}
use Rattle.diag_sweep.proofs.Marking.{marks_for, marks_itself, some_itself, true_later}
use Rattle.diag_sweep.proofs.Paying.{funded_test}

-- a wire is one of those that are known, as a test
abbrev pub is_step : List VerifiedWire → ℕ → Bool
is_step ss w = list_any (λ (s : VerifiedWire). s.wire.0 == w) ss

pub equal : {a b : ℕ} → (a == b) ≡ true → a ≡ b
equal e = grind (arith, nat_tests, e)

pub has_step : (ss : List VerifiedWire) (w : ℕ) → is_step ss w ≡ true → HasWire ss w
has_step [] w on = absurd (false≢true on)
has_step (s ∷ ss) w on = by (has_step ss w) (or_cases (s.wire.0 == w) (is_step ss w) on)
  where
    later : HasWire ss w → HasWire (s ∷ ss) w
    later has = record { place = suc has.place; at = record { step = has.at.step; here = has.at.here; wire = has.at.wire } }

    by : (is_step ss w ≡ true → HasWire ss w) → ((s.wire.0 == w) ≡ true) ⊎ (is_step ss w ≡ true) → HasWire (s ∷ ss) w
    by more (inl e) = record { place = 0; at = record { step = s; here = refl; wire = equal e } }
    by more (inr is) = later (more is)

pub step_has : (ss : List VerifiedWire) (w : ℕ) → HasWire ss w → is_step ss w ≡ true
step_has ss w has = at ss has.place has.at.step has.at.here has.at.wire
  where
    same : (n : ℕ) → (n == n) ≡ true
    same n = grind (arith, nat_tests)

    at : (rs : List VerifiedWire) (i : ℕ) (s : VerifiedWire) → slice_get rs i ≡ Some s → s.wire.0 ≡ w → is_step rs w ≡ true
    at [] i s here e = cc
    at (r ∷ rs) zero s here e = or_left (r.wire.0 == w) (is_step rs w) (subst (λ n. (n == w) ≡ true) (sym (ap (λ (t : VerifiedWire). t.wire.0) (some r s here) ∙ e)) (same w))
      where
        some : (p q : VerifiedWire) → Some p ≡ Some q → p ≡ q
        some p q e = cc
    at (r ∷ rs) (suc i) s here e = or_right (r.wire.0 == w) (is_step rs w) (at rs i s here e)

-- the wires are of a field
abbrev AreOf : Field → List WireTest → Type 0
AreOf a hs = All (λ h. has_number a.wires h.wire.0 ≡ true) hs

turned_of : (a : Field) (hs : List WireTest) → AreOf a hs → AreOf a (map turned hs)
turned_of a [] all = λ i d none. absurd (omega (arith, none))
turned_of a (h ∷ hs) all = at (turned_of a hs (λ k e less. all (suc k) e (omega (arith, less))))
  where
    at : AreOf a (map turned hs) → (i : ℕ) (d : WireTest) → i < length (map turned (h ∷ hs)) → has_number a.wires (get_or (map turned (h ∷ hs)) i d).wire.0 ≡ true
    at rest zero d below = all 0 h (omega arith)
    at rest (suc i) d below = rest i d (omega (arith, below))

-- a wire of a foot
wire_of_field : (a : Field) (q : Foot → Bool) (w : ℕ) (hs : List WireTest) → AreOf a hs → list_any (λ foot. (foot.0.0 == w) && q foot) (overs hs) ≡ true → has_number a.wires w ≡ true
wire_of_field a q w [] all on = absurd (false≢true on)
wire_of_field a q w (h ∷ hs) all on =
    by (wire_of_field a q w hs (λ i d below. all (suc i) d (omega (arith, below)))) (or_cases ((h.wire.0 == w) && q (h.wire, h.over)) (list_any (λ foot. (foot.0.0 == w) && q foot) (overs hs)) on)
  where
    by : (list_any (λ foot. (foot.0.0 == w) && q foot) (overs hs) ≡ true → has_number a.wires w ≡ true) →
        (((h.wire.0 == w) && q (h.wire, h.over)) ≡ true) ⊎ (list_any (λ foot. (foot.0.0 == w) && q foot) (overs hs) ≡ true) → has_number a.wires w ≡ true
    by more (inl e) = subst (λ n. has_number a.wires n ≡ true) (equal ((and_parts (h.wire.0 == w) (q (h.wire, h.over)) e).0)) (all 0 h (omega arith))
    by more (inr is) = more is

-- each new mark is of the field
abbrev pub IsNewOf : Field → List Bool → List Bool → Type 0
IsNewOf a was is = (w : ℕ) → has_number is w ≡ true → (has_number was w ≡ true) ⊎ (has_number a.wires w ≡ true)

new_then : (a : Field) (x y z : List Bool) → IsNewOf a x y → IsNewOf a y z → IsNewOf a x z
new_then a x y z p q w on = by (q w on)
  where
    by : (has_number y w ≡ true) ⊎ (has_number a.wires w ≡ true) → (has_number x w ≡ true) ⊎ (has_number a.wires w ≡ true)
    by (inl old) = p w old
    by (inr is) = inr is

pub new_same : (a : Field) (was is : List Bool) → is ≡ was → IsNewOf a was is
new_same a was is same w on = inl (subst (λ bits. has_number bits w ≡ true) same on)

-- one look's marks
one_unfit : (a : Field) (hs : List WireTest) → AreOf a hs → {trees : Trees} {rows : List (List Bool)} {was is were are : List Bool} → HasMarked trees (overs hs) rows was is were are → IsNewOf a was is
one_unfit a hs of {trees} {rows} {was} m w on = by (or_cases (is_unfit_in trees (overs hs) rows w) (has_number was w) (sym (m.unfit w) ∙ on))
  where
    by : (is_unfit_in trees (overs hs) rows w ≡ true) ⊎ (has_number was w ≡ true) → (has_number was w ≡ true) ⊎ (has_number a.wires w ≡ true)
    by (inl new) = inr (wire_of_field a _ w hs of new)
    by (inr old) = inl old

one_unclear : (a : Field) (hs : List WireTest) → AreOf a hs → {trees : Trees} {rows : List (List Bool)} {was is were are : List Bool} → HasMarked trees (overs hs) rows was is were are → IsNewOf a were are
one_unclear a hs of {trees} {rows} {were = were} m w on = by (or_cases (is_unclear_in trees (overs hs) rows w) (has_number were w) (sym (m.unclear w) ∙ on))
  where
    by : (is_unclear_in trees (overs hs) rows w ≡ true) ⊎ (has_number were w ≡ true) → (has_number were w ≡ true) ⊎ (has_number a.wires w ≡ true)
    by (inl new) = inr (wire_of_field a _ w hs of new)
    by (inr old) = inl old

tried_unfit : (a : Field) (hs : List WireTest) → AreOf a hs → {trees : Trees} {before after : RigState} {k l : Kept} {was is were are : List Bool} → ShowsTried trees hs before after k l was is were are → IsNewOf a was is
tried_unfit a hs of {was = was} {is = is} (inl h) = new_same a was is h.unmarked
tried_unfit a hs of {was = was} {is = is} (inr h) = new_then a was h.some is (one_unfit a (map turned hs) (turned_of a hs of) h.first_marks) (one_unfit a hs of h.second_marks)

tried_unclear : (a : Field) (hs : List WireTest) → AreOf a hs → {trees : Trees} {before after : RigState} {k l : Kept} {was is were are : List Bool} → ShowsTried trees hs before after k l was is were are → IsNewOf a were are
tried_unclear a hs of {were = were} {are = are} (inl h) = new_same a were are h.unmarked_too
tried_unclear a hs of {were = were} {are = are} (inr h) = new_then a were h.few are (one_unclear a (map turned hs) (turned_of a hs of) h.first_marks) (one_unclear a hs of h.second_marks)

pub unfit_marks : (a : Field) (trees : Trees) (hs : List WireTest) (before after : RigState) (k l : Kept) (was is were are : List Bool) {T E : Type 0} (r : Result T E) → All (λ h. has_number a.wires h.wire.0 ≡ true) hs → length is ≡ length was → StayMarked was is →
    OnOk r (ShowsTried trees hs before after k l was is were are) → OnErr r (is ≡ was) → MarksSome (λ w. has_number a.wires w ≡ true) was is
unfit_marks a trees hs before after k l was is were are (Ok v) of len stay tried same = record { len = len; stays = stay; within = tried_unfit a hs of tried }
unfit_marks a trees hs before after k l was is were are (Err e) of len stay tried same = record { len = len; stays = stay; within = new_same a was is same }

pub unclear_marks : (a : Field) (trees : Trees) (hs : List WireTest) (before after : RigState) (k l : Kept) (was is were are : List Bool) {T E : Type 0} (r : Result T E) → All (λ h. has_number a.wires h.wire.0 ≡ true) hs → length are ≡ length were → StayMarked were are →
    OnOk r (ShowsTried trees hs before after k l was is were are) → OnErr r (are ≡ were) → MarksSome (λ w. has_number a.wires w ≡ true) were are
unclear_marks a trees hs before after k l was is were are (Ok v) of len stay tried same = record { len = len; stays = stay; within = tried_unclear a hs of tried }
unclear_marks a trees hs before after k l was is were are (Err e) of len stay tried same = record { len = len; stays = stay; within = new_same a were are same }

-- a test that marks wires, and was paid for
pub hang_goes : {now : RigState} {a : Field} {tables : List Table} {k l : Kept} {known : KnownWires} {bad : DefectMarks} {unfit unclear : List Bool} {budget : LoadBudget} {before after : ℕ} (n : ℕ) → IsHand a (in_hand k known bad budget before) → before + n ≤ budget.most → after ≤ before + n → IsMore k l →
    ((f : Faults) → Explains f now → HoldsFor k f → HoldsFor l f) → MarksSome (λ w. has_number a.wires w ≡ true) bad.unfit unfit → MarksSome (λ w. has_number a.wires w ≡ true) bad.unclear unclear →
    ForEach now (λ told. UnfitIf told k (is_step known.steps) bad.unfit → UnfitIf told l (is_step known.steps) unfit) → ForEach now (λ told. UnclearIf told k bad.unclear → UnclearIf told l unclear) →
    GoesYet now a tables (in_hand k known bad budget before) (in_hand l known (record bad { unfit = unfit; unclear = unclear }) budget after)
hang_goes {now} {a} {tables} {k} {l} {known} {bad} {unfit} {unclear} {budget} {before} {after} n hand can took more explained marks also fit clear = goes_tested n hand can took more marked holds
  where
    marked : MarksIn a tables bad (record bad { unfit = unfit; unclear = unclear })
    marked = record { stuck = some_itself _ bad.stuck; unfit = marks; unclear = also; wrong = some_itself _ bad.wrong }

    holds : ForEach now (λ told. TrueIf told k known.steps bad → TrueIf told l known.steps (record bad { unfit = unfit; unclear = unclear }))
    holds s x t = record {
      at = λ f e. let both = (true_later more (of_told (λ g. HoldsFor k g → HoldsFor l g) (explained s x)) (λ u on. on) t).at f e in (
        both.0,
        record {
          stuck = both.1.stuck;
          unfit = λ w on is alone. fit s x (λ f e h w on is alone. (t.at f e).1.unfit w on is (λ u has. alone u (step_has known.steps u has))) f e both.0 w on is (λ u step. alone u (has_step known.steps u step));
          unclear = λ w on. clear s x (λ f e h. (t.at f e).1.unclear) f e both.0 w on;
          wrong = both.1.wrong;
        },
      );
    }

-- a test that marks nothing, and was paid for
pub plain_goes : {now : RigState} {a : Field} {tables : List Table} {k l : Kept} {known : KnownWires} {bad : DefectMarks} {budget : LoadBudget} {before after : ℕ} (n : ℕ) → IsHand a (in_hand k known bad budget before) → before + n ≤ budget.most → after ≤ before + n → IsMore k l →
    ((f : Faults) → Explains f now → HoldsFor k f → HoldsFor l f) → GoesYet now a tables (in_hand k known bad budget before) (in_hand l known bad budget after)
plain_goes {now} {a} {tables} {k} {l} {known} {bad} {budget} {before} {after} n hand can took more explained = record {
  hand = record {
    known = known_later more hand.known;
    field = subst (λ m. IsFieldOf m a) (sym more.shape) hand.field;
    marks = marks_for more.shape hand.marks (marks_itself a tables bad);
    budget = hand.budget ∙ ap crosses_of (sym more.shape);
  };
  grows = grows_itself a known.steps;
  marks = marks_itself a tables bad;
  holds = λ f e t. true_later more (of_told (λ g. HoldsFor k g → HoldsFor l g) (explained f e)) (λ u on. on) t;
  funded = funded_test n can took more (λ x on. on);
}
