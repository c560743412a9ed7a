-- Swings and partings of a wire that isn't known pass, where it is clear and shorted to no known wire.
use Rattle.std.proofs.Common.{◌≡◌, ◌≢◌, ◌⊎◌, ℕ, ◌+◌, ◌<◌, ◌≤◌, Bool, true, false, Some, None, Option, All, List, [], length, refl, sym, ap, ◌∙◌, subst, inl, inr, arith, slice_get, slice_index_or, ◌==◌, ◌||◌, ◌&&◌}
use Rattle.std.specs.Option.{option_map_or}
use Rattle.diag_growth.proofs.Vocabulary.{false≢true, nat_tests, slice_get-get_or, Shape, Wire, pin_wire, Pins, Faults, Shorted, IsClear}
use Rattle.diag_growth.proofs.Vocabulary.{Configuration, is_closed, among, IsWithin, AreGroups, IsDrivenAlone, Walk, IsLoopConfig}
use Rattle.diag_growth.proofs.Vocabulary.{holds_earlier, trial_by_gain, trial_pair, grown, laid_cases, or_first, or_third, IsListed}
use Rattle.diag_growth.proofs.Vocabulary.{AreLeft, LeavesAt, IsParting, IsParted, IsApartBeside, VerifiedWire, at_within}
use native.Mathlib.Decide.{ℕ_discrete}
use Rattle.machine_config.proofs.Grouped.{LeadsTo-start, LeadsTo-end, LeadsTo-within}
use Rattle.diag_evidence.specs.Vocabulary.{Kept, HoldsUntried, IsMore, KeepsSet, KeepsTrial, Gains, these_wires, row_over, keeps_wire, keeps_pair, in_row, RoutePasses, AllApartPasses, IsReady, wires_over}
use Rattle.diag_evidence.proofs.KeptLemmas.{IsPair, of_set, of_row, of_other, pair_is, pair_of, tried_is, tried_only}
use Rattle.diag_known.specs.Vocabulary.{KnownWires, IsAt, HasWire, IsKnown, KnowsAll, InSome, IsOn, IsReached, IsOnWalk, IsFit, IsBad, IsWay, AreWays}
use Rattle.diag_known.proofs.Besides.{beside}
use Rattle.diag_known.proofs.Hung.{over_at, at_over, reached_known, reached_off}
use Rattle.diag_known.proofs.Passing.{rests_known, known_clear, known_unshorted}
use Rattle.diag_known.proofs.Rising.{not_true}

-- what holds of each element by its place
pub all_of : {X : Type 0} (P : X → Type 0) (xs : List X) → ((j : ℕ) (x : X) → slice_get xs j ≡ Some x → P x) → All P xs
all_of P xs h k d within = h k (slice_index_or xs k d) (slice_get-get_or xs k d within)

-- a wire of a way is its end or known
pub on_way : {k : Kept} {ss : List VerifiedWire} {w : ℕ} {q : Walk} → IsWay k ss w q → (P : ℕ → Type 0) → P w → ((u : ℕ) → HasWire ss u → P u) → (u : ℕ) → among q.wires u ≡ true → P u
on_way {w = w} way P one others u on = by_test (u == w) refl
  where
    by_test : (b : Bool) → (u == w) ≡ b → P u
    by_test true e = subst P (sym (grind (arith, nat_tests, e))) one
    by_test false e = others u (rests_known (way.wires u on (grind (arith, nat_tests, e))))

pub end_on : {k : Kept} {ss : List VerifiedWire} {w : ℕ} {q : Walk} → IsWay k ss w q → among q.wires w ≡ true
end_on {q = q} way = subst (λ u. among q.wires u ≡ true) way.end (LeadsTo-end way.route.leads)

-- a wire that isn't fit stays so
pub bad_later : {told : Option Faults} {k l : Kept} {ss : List VerifiedWire} {w : ℕ} → IsMore k l → IsBad told k ss w → IsBad told l ss w
bad_later {ss = ss} {w = w} more b = record { at = λ f told holds fit. b.at f told (holds_earlier more holds) (subst (λ (m : Shape). IsFit m f ss w) more.shape fit) }

-- a swing
pub swing_kept : {k l : Kept} {ss : List VerifiedWire} {w : ℕ} {q : Walk} → IsWay k ss w q → Gains (these_wires q.wires) k l → keeps_wire l w ≡ true
swing_kept {k} {l} {ss} {w} {q} way gains = gains.wires w ∙ rw (end_on way) refl

pub swing_bad : {told : Option Faults} {k l : Kept} {known : KnownWires} {w : ℕ} {q : Walk} {answer : Bool} → IsKnown k known → IsWay k known.steps w q → RoutePasses told k.shape q answer → IsMore k l → answer ≡ false → IsBad told l known.steps w
swing_bad {k = k} {known = known} {w = w} is way passes more is_no = record {
  at = λ f told holds fit. let before = holds_earlier more holds in
      false≢true (sym is_no ∙ passes.at f told (on_way way (IsClear k.shape f) (subst (λ m. IsClear m f w) more.shape fit.clear) (λ u has. known_clear is before has)));
}

-- a parting
row_now : (a b c : Bool) → a ≡ true → b ≡ true → ((a && b) || c) ≡ true
row_now a b c p q = rw (p, q) refl

module _ {k : Kept} (known : KnownWires) {w : ℕ} {q : Walk} {routes : List Walk} {ties : List ℕ} (way : IsWay k known.steps w q) (h : IsParting k known.steps w q routes ties) where
  walk_reached : (u : ℕ) → IsOnWalk routes u → IsReached h.rs u
  walk_reached u p = record { pin = p.route.pin; from = (h.walks.each p.place p.route p.here).wires u p.on }

  walk_known : (u : ℕ) → among (wires_over routes) u ≡ true → HasWire known.steps u
  walk_known u on = reached_known h.trees (walk_reached u (at_over routes u on))

  pub walk_off : (u : ℕ) → among q.wires u ≡ true → among (wires_over routes) u ≡ false
  walk_off u on = not_true (among (wires_over routes) u) (λ over. reached_off q h.on (walk_reached u (at_over routes u over)) on)

  pub walks_ready : {m : Shape} {g : Configuration} → IsLoopConfig m q q ties g → All (IsReady k g) routes
  walks_ready {m} {g} laid = all_of (IsReady k g) routes (λ j r here. let walk = h.walks.each j r here in record {
    route = walk.route;
    closed = λ x on. laid.closed x ∙ or_third (among q.crosses x) (among q.crosses x) (among ties x) (h.laid.has x (record { place = j; item = r; here = here; so = on }));
    kept = walk.crosses;
  })

  pub way_ready : {m : Shape} {g : Configuration} → IsLoopConfig m q q ties g → IsReady k g q
  way_ready laid = record { route = way.route; closed = λ x on. laid.closed x ∙ or_first (among q.crosses x) (among q.crosses x) (among ties x) on; kept = way.crosses }

  -- what the load keeps apart
  pub parted : {l : Kept} → k.trial ≡ Some w → ¬ HasWire known.steps w → Gains (row_over k.trial q.wires (wires_over routes)) k l → IsApartBeside l known.steps w q
  parted {l} tried new gains = record {
    rs = h.rs;
    all = h.all;
    apart = λ u has reached. by_list u has reached (h.wanted u has);
  }
    where
      listed : option_map_or (λ t. among q.wires t) k.trial false ≡ true
      listed = ap (λ o. option_map_or (λ t. among q.wires t) o false) tried ∙ end_on way

      by_list : (u : ℕ) → HasWire known.steps u → IsReached h.rs u → (keeps_pair k w u ≡ true) ⊎ IsListed h.ends u → keeps_pair l w u ≡ true
      by_list u has reached (inl e) = trial_pair w u (trial_by_gain (row_over k.trial q.wires (wires_over routes)) k l gains (λ v. refl)) e
      by_list u has reached (inr e) =
          let over = h.walks.over e.place e.wire e.here (subst (IsReached h.rs) (sym e.is) reached) in
          let on = subst (λ v. among (wires_over routes) v ≡ true) e.is (over_at routes over.place e.wire.0 over.route over.here over.on) in
          pair_of l w u (λ same. new (subst (HasWire known.steps) (sym same) has)) (of_row (tried_is l w (gains.trial ∙ tried))
          (gains.row u ∙ row_now (option_map_or (λ t. among q.wires t) k.trial false) (among (wires_over routes) u) (in_row k u) listed on))

  module _ (is : IsKnown k known) {f : Faults} (holds : HoldsUntried k f) (fit : IsFit k.shape f known.steps w) where
    part_unshorted : (u v : ℕ) → among q.wires u ≡ true → among (wires_over routes) v ≡ true → ¬ Shorted k.shape f u v
    part_unshorted u v on over = on_way way (λ u. among q.wires u ≡ true → ¬ Shorted k.shape f u v) (λ here. fit.alone v (walk_known v over))
        (λ u has here. known_unshorted is holds has (walk_known v over) (λ e. reached_off q h.on (walk_reached v (at_over routes v over)) (subst (λ z. among q.wires z ≡ true) e here))) u on on

    tie_within : (x : ℕ) → (among q.crosses x ≡ true) ⊎ ((among q.crosses x ≡ true) ⊎ (among ties x ≡ true)) → IsWithin k.shape (among q.wires) x ⊎ IsWithin k.shape (among (wires_over routes)) x
    tie_within x (inl on) = inl (LeadsTo-within way.route.leads x on)
    tie_within x (inr (inl on)) = inl (LeadsTo-within way.route.leads x on)
    tie_within x (inr (inr on)) = from_new (h.laid.only x on)
      where
        from_new : (false ≡ true) ⊎ InSome routes IsOn x → IsWithin k.shape (among q.wires) x ⊎ IsWithin k.shape (among (wires_over routes)) x
        from_new (inl e) = absurd (false≢true e)
        from_new (inr p) = inr (grown p.item.wires (λ u i. over_at routes p.place u p.item p.here i) (LeadsTo-within ((h.walks.each p.place p.item p.here).route.leads) x p.so))

    part_groups : {g : Configuration} → IsLoopConfig k.shape q q ties g → AreGroups k.shape f (is_closed g) (among q.wires) (among (wires_over routes))
    part_groups laid = record {
      within = λ x on. tie_within x (laid_cases (among q.crosses x) (among q.crosses x) (among ties x) (sym (laid.closed x) ∙ on));
      left_clear = on_way way (IsClear k.shape f) fit.clear (λ u has. known_clear is holds has);
      right_clear = λ u on. known_clear is holds (walk_known u on);
      apart = part_unshorted;
    }

    pub part_passes : {told : Option Faults} {g : Configuration} {drive : Pins} {answer : Bool} → told ≡ Some f → IsLoopConfig k.shape q q ties g → IsDrivenAlone drive q.pin → AllApartPasses told g drive q routes answer → answer ≡ true
    part_passes {g = g} told_is laid driven passes = passes.at f (among q.wires) (among (wires_over routes)) told_is laid.off
        (subst (λ m. AreGroups m f (is_closed g) (among q.wires) (among (wires_over routes))) (sym laid.shape) (part_groups laid))
        (subst (λ m. among q.wires (pin_wire m q.pin) ≡ true) (sym laid.shape) (LeadsTo-start way.route.leads))
        (all_of (λ s. among (wires_over routes) (pin_wire g.shape s.pin) ≡ true) routes (λ j r here.
        subst (λ m. among (wires_over routes) (pin_wire m r.pin) ≡ true) (sym laid.shape) (over_at routes j (pin_wire k.shape r.pin) r here (LeadsTo-start ((h.walks.each j r here).route.leads)))))
        driven

pub part_bad : {told : Option Faults} {k l : Kept} {known : KnownWires} {w : ℕ} {q : Walk} {routes : List Walk} {ties : List ℕ} {g : Configuration} {drive : Pins} {answer : Bool} → IsKnown k known → IsWay k known.steps w q →
    IsParting k known.steps w q routes ties → IsLoopConfig k.shape q q ties g → IsDrivenAlone drive q.pin → AllApartPasses told g drive q routes answer → IsMore k l → answer ≡ false → IsBad told l known.steps w
part_bad {known = known} {w = w} is way h laid driven passes more is_no = record {
  at = λ f told_is holds fit. false≢true (sym is_no ∙ part_passes known way h is (holds_earlier more holds) (subst (λ m. IsFit m f known.steps w) more.shape fit) told_is laid driven passes);
}

-- .. where nothing is reached that isn't kept apart
pub none_left : {k l : Kept} {ss : List VerifiedWire} {w : ℕ} {q : Walk} {ties : List ℕ} → KeepsTrial k l → IsParting k ss w q [] ties → IsApartBeside l ss w q
none_left {k} {l} {ss} {w} stays h = record { rs = h.rs; all = h.all; apart = λ u has reached. by_list u reached (h.wanted u has) }
  where
    by_list : (u : ℕ) → IsReached h.rs u → (keeps_pair k w u ≡ true) ⊎ IsListed h.ends u → keeps_pair l w u ≡ true
    by_list u reached (inl e) = trial_pair w u stays e
    by_list u reached (inr e) = absurd (let on = h.walks.over e.place e.wire e.here (subst (IsReached h.rs) (sym e.is) reached) in let there : ◌≡◌ {A = Option Walk} None (Some on.route) = on.here in cc)

-- a swing and two partings
pub parted_both : {k l : Kept} {known : KnownWires} {w : ℕ} {p q : Walk} → IsKnown k known → KnowsAll k known.steps → ¬ HasWire known.steps w → AreWays k known.steps w p q → KeepsSet k l → l.trial ≡ Some w → keeps_wire l w ≡ true →
    IsApartBeside l known.steps w p → IsApartBeside l known.steps w q → IsParted l w
parted_both {k = k} {l = l} {known = known} {w = w} is all new ways set tried kept left right = record {
  kept = kept;
  can = record { wire = w; tried = tried; row = λ u of_it differ. let has = all u (sym (set u) ∙ of_it) in in_it u differ (pair_is l w u (by_side u has (beside is ways left.all right.all u has (λ e. new (subst (HasWire known.steps) e has))).either)) };
  this = refl;
}
  where
    by_side : (u : ℕ) → HasWire known.steps u → IsReached left.rs u ⊎ IsReached right.rs u → keeps_pair l w u ≡ true
    by_side u has (inl r) = left.apart u has r
    by_side u has (inr r) = right.apart u has r

    in_it : (u : ℕ) → u ≢ w → IsPair l w u → in_row l u ≡ true
    in_it u differ (of_set p o) = absurd (new (all w (sym (set w) ∙ p)))
    in_it u differ (of_row p o) = o
    in_it u differ (of_other p o) = absurd (differ (sym (tried_only l w u tried p)))

pub apart_later : {k l : Kept} {ss : List VerifiedWire} {w : ℕ} {q : Walk} → KeepsTrial k l → IsApartBeside k ss w q → IsApartBeside l ss w q
apart_later {w = w} stays a = record { rs = a.rs; all = a.all; apart = λ u has r. trial_pair w u stays (a.apart u has r) }

-- the known wires that are left, place by place
pub leaves_next : (k : Kept) {ss : List VerifiedWire} (w : ℕ) (old new : List Wire) (n : ℕ) → ((u : ℕ) → IsListed old u → IsListed new u) → LeavesAt k ss w new n → ((j : ℕ) → j < n → LeavesAt k ss w old j) → (j : ℕ) → j < n + 1 → LeavesAt k ss w new j
leaves_next k {ss} w old new n stays has before j less = by_place (ℕ_discrete j n)
  where
    still : (u : ℕ) → (keeps_pair k w u ≡ true) ⊎ IsListed old u → (keeps_pair k w u ≡ true) ⊎ IsListed new u
    still u (inl e) = inl e
    still u (inr h) = inr (stays u h)

    by_place : Dec (j ≡ n) → LeavesAt k ss w new j
    by_place (yes e) = λ u at. has u (subst (λ i. IsAt ss i u) e at)
    by_place (no other) = λ u at. still u (before j (omega (arith, less, other)) u at)

pub leaves_all : (k : Kept) {ss : List VerifiedWire} (w : ℕ) (ends : List Wire) (n : ℕ) → length ss ≤ n → ((j : ℕ) → j < n → LeavesAt k ss w ends j) → AreLeft k ss w ends
leaves_all k w ends n le all u has = all has.place (let h = at_within has.at in omega (arith, h, le)) u has.at
