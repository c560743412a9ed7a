-- What is reached beside a route, one known wire after the other.
use Rattle.std.proofs.Common.{◌≡◌, ◌≢◌, ◌⊎◌, ℕ, ◌+◌, ◌<◌, ◌≤◌, Bool, true, false, Some, List, length, refl, sym, ap, ◌∙◌, subst, inl, inr, arith, set, take, slice_get, replicate, ◌==◌, ◌||◌}
use Rattle.diag_known.proofs.Vocabulary.{false≢true, nat_tests, among, Walk, Kept, Reach, Support, SupportedBy, VerifiedWire}
use Rattle.diag_tests.proofs.Closings.{among_at, more_among}
use Rattle.std.proofs.lemmas.List.{length-set, take_all, get_or-set_same, get_or-set_other, get_or-replicate, get_or_past, length-replicate}
use Rattle.std.proofs.lemmas.Option.{slice_get_within}
use native.Mathlib.Decide.{dec_lt, ℕ_discrete}
use Rattle.diag_known.specs.Vocabulary.{KnownWires, IsAt, IsBefore, IsKnown, IsPin, HasFootOn, first, second, ReachesAll, reach_at, IsFrom, IsReached, HangsOn, own, by_first, by_second, AreTrees}
use Rattle.diag_known.specs.declared.beside.Reach.TheVariants as reach
use Rattle.diag_known.specs.declared.verified_wire.SupportedBy.TheVariants as stand
use Rattle.diag_known.proofs.Places.{one_place, some_same, before_has, feet_here, at_one}

-- what is found of the first n known wires
pub record IsReaching (ss : List VerifiedWire) (ws : List ℕ) (n : ℕ) (rs : List Reach) : Type 0 where
  pub on : (w : ℕ) → among ws w ≡ true → reach_at rs w ≡ reach.OnRoute
  pub only : (w : ℕ) → reach_at rs w ≡ reach.OnRoute → among ws w ≡ true
  pub known : (w pin : ℕ) → IsFrom rs pin w → IsBefore ss n w
  pub hangs : (i : ℕ) (s : VerifiedWire) (pin : ℕ) → slice_get ss i ≡ Some s → IsFrom rs pin s.wire.0 → HangsOn rs pin s.stand
  pub all : (i : ℕ) (s : VerifiedWire) → i < n → slice_get ss i ≡ Some s → among ws s.wire.0 ≡ false → IsPin s.stand ⊎ HasFootOn (IsReached rs) s.stand → IsReached rs s.wire.0

bool_cases : (b : Bool) → (b ≡ true) ⊎ (b ≡ false)
bool_cases true = inl refl
bool_cases false = inr refl

nothing_reached : (len w : ℕ) → reach_at (replicate len reach.Unreached) w ≡ reach.Unreached
nothing_reached len w = by_place (dec_lt w len)
  where
    by_place : Dec (w < len) → reach_at (replicate len reach.Unreached) w ≡ reach.Unreached
    by_place (yes h) = get_or-replicate len w reach.Unreached reach.Unreached h
    by_place (no h) = get_or_past (replicate len reach.Unreached) w reach.Unreached (rw length-replicate (omega (arith, h)))

pub reaching_none : (ss : List VerifiedWire) (ws : List ℕ) (len : ℕ) (old rs : List Reach) → old ≡ replicate len reach.Unreached → ((w : ℕ) → among ws w ≡ true → reach_at rs w ≡ reach.OnRoute) →
    ((w : ℕ) → among ws w ≡ false → reach_at rs w ≡ reach_at old w) → IsReaching ss ws 0 rs
reaching_none ss ws len old rs empty on off = record {
  on = on;
  only = λ w e. only w e (bool_cases (among ws w));
  known = λ w pin e. absurd (no_from w pin e (bool_cases (among ws w)));
  hangs = λ i s pin here e. absurd (no_from s.wire.0 pin e (bool_cases (among ws s.wire.0)));
  all = λ i s lt. absurd (let none : ⊥ = omega (arith, lt) in none);
}
  where
    not_reached : (w : ℕ) → among ws w ≡ false → reach_at rs w ≡ reach.Unreached
    not_reached w out = off w out ∙ ap (λ r. reach_at r w) empty ∙ nothing_reached len w

    only : (w : ℕ) → reach_at rs w ≡ reach.OnRoute → (among ws w ≡ true) ⊎ (among ws w ≡ false) → among ws w ≡ true
    only w e (inl is) = is
    only w e (inr out) = absurd (let un : reach.Unreached ≡ reach.OnRoute = sym (not_reached w out) ∙ e in cc)

    no_from : (w pin : ℕ) → IsFrom rs pin w → (among ws w ≡ true) ⊎ (among ws w ≡ false) → ⊥
    no_from w pin e (inl is) = let un : reach.OnRoute ≡ reach.From pin = sym (on w is) ∙ e.at in cc
    no_from w pin e (inr out) = let un : reach.Unreached ≡ reach.From pin = sym (not_reached w out) ∙ e.at in cc

foot_map : {on of : ℕ → Type 0} {d : SupportedBy} → ((a b : Support) → d ≡ stand.Feet a b → on a.wire.0 → of a.wire.0) → ((a b : Support) → d ≡ stand.Feet a b → on b.wire.0 → of b.wire.0) → HasFootOn on d → HasFootOn of d
foot_map f g (first {a} {b} h) = first (f a b refl h)
foot_map f g (second {a} {b} h) = second (g a b refl h)

hang_map : {rs ts : List Reach} {pin : ℕ} {d : SupportedBy} → ((w : ℕ) → IsFrom rs pin w → IsFrom ts pin w) → HangsOn rs pin d → HangsOn ts pin d
hang_map f own = own
hang_map f (by_first {a} {b} h) = by_first (f a.wire.0 h)
hang_map f (by_second {a} {b} h) = by_second (f b.wire.0 h)

before_more : {ss : List VerifiedWire} {n w : ℕ} → IsBefore ss n w → IsBefore ss (n + 1) w
before_more b = record { place = b.place; early = let h = b.early in omega (arith, h); at = b.at }

module _ {k : Kept} {known : KnownWires} (is : IsKnown k known) (ws : List ℕ) (n : ℕ) (rs : List Reach) (r : IsReaching known.steps ws n rs) (s : VerifiedWire) (here : slice_get known.steps n ≡ Some s) where
  abbrev ss : List VerifiedWire
  ss = known.steps

  abbrev w : ℕ
  w = s.wire.0

  -- what stands at a place up to this one
  which : (i : ℕ) (t : VerifiedWire) → i < n + 1 → slice_get ss i ≡ Some t → (i < n) ⊎ (t ≡ s)
  which i t lt there = by_less (dec_lt i n)
    where
      by_less : Dec (i < n) → (i < n) ⊎ (t ≡ s)
      by_less (yes h) = inl h
      by_less (no h) = let same : i ≡ n = omega (arith, h, lt) in inr (some_same (sym there ∙ ap (slice_get ss) same ∙ here))

  -- a wire that came before isn't the one at this place
  not_this : (v : ℕ) → IsBefore ss n v → v ≢ w
  not_this v b e =
      let same : b.place ≡ n = one_place is b.at (record { step = s; here = here; wire = sym e }) in let early = b.early in
      absurd (let none : ⊥ = omega (arith, same, early) in none)

  -- it is on the route
  pub reaching_on : reach_at rs w ≡ reach.OnRoute → IsReaching ss ws (n + 1) rs
  reaching_on e = record {
    on = r.on;
    only = r.only;
    known = λ v pin f. before_more (r.known v pin f);
    hangs = r.hangs;
    all = λ i t lt there off why. by_place i t there off why (which i t lt there);
  }
    where
      by_place : (i : ℕ) (t : VerifiedWire) → slice_get ss i ≡ Some t → among ws t.wire.0 ≡ false → IsPin t.stand ⊎ HasFootOn (IsReached rs) t.stand → (i < n) ⊎ (t ≡ s) → IsReached rs t.wire.0
      by_place i t there off why (inl h) = r.all i t h there off why
      by_place i t there off why (inr same) = absurd (false≢true (sym off ∙ ap (λ (x : VerifiedWire). among ws x.wire.0) same ∙ r.only w e))

  -- it is off the route
  module _ (off_it : reach_at rs w ≢ reach.OnRoute) (x : Reach) (hangs_x : (pin : ℕ) → x ≡ reach.From pin → HangsOn rs pin s.stand)
      (whole_x : IsPin s.stand ⊎ HasFootOn (IsReached rs) s.stand → (pin : ℕ) × (x ≡ reach.From pin)) (off_x : x ≢ reach.OnRoute) (within : w < length rs) where
    abbrev ts : List Reach
    ts = set rs w x

    same : reach_at ts w ≡ x
    same = get_or-set_same rs w x reach.Unreached within

    other : (v : ℕ) → v ≢ w → reach_at ts v ≡ reach_at rs v
    other v n = get_or-set_other rs w v x reach.Unreached n

    up : (pin v : ℕ) → IsFrom rs pin v → IsFrom ts pin v
    up pin v f = record { at = other v (not_this v (r.known v pin f)) ∙ f.at }

    down : (pin v : ℕ) → v ≢ w → IsFrom ts pin v → IsFrom rs pin v
    down pin v n f = record { at = sym (other v n) ∙ f.at }

    reached_up : (v : ℕ) → IsReached rs v → IsReached ts v
    reached_up v f = record { pin = f.pin; from = up f.pin v f.from }

    reached_down : (v : ℕ) → v ≢ w → IsReached ts v → IsReached rs v
    reached_down v n f = record { pin = f.pin; from = down f.pin v n f.from }

    early : (i v : ℕ) → i < n + 1 → IsBefore ss i v → IsBefore ss n v
    early i v lt b = record { place = b.place; early = let h = b.early in omega (arith, h, lt); at = b.at }

    why_down : (i : ℕ) (t : VerifiedWire) → i < n + 1 → slice_get ss i ≡ Some t → IsPin t.stand ⊎ HasFootOn (IsReached ts) t.stand → IsPin t.stand ⊎ HasFootOn (IsReached rs) t.stand
    why_down i t lt there (inl pin) = inl pin
    why_down i t lt there (inr h) = inr (foot_map
        (λ a b e g. let f = feet_here is i t a b there e in reached_down a.wire.0 (not_this a.wire.0 (early i a.wire.0 lt f.one.before)) g)
        (λ a b e g. let f = feet_here is i t a b there e in reached_down b.wire.0 (not_this b.wire.0 (early i b.wire.0 lt f.other.before)) g) h)

    on_then : (v : ℕ) → among ws v ≡ true → reach_at ts v ≡ reach.OnRoute
    on_then v is_on = other v (λ e. off_it (ap (reach_at rs) (sym e) ∙ r.on v is_on)) ∙ r.on v is_on

    only_then : (v : ℕ) → reach_at ts v ≡ reach.OnRoute → Dec (v ≡ w) → among ws v ≡ true
    only_then v e (yes here) = absurd (off_x (sym same ∙ ap (reach_at ts) (sym here) ∙ e))
    only_then v e (no n) = r.only v (sym (other v n) ∙ e)

    known_then : (v pin : ℕ) → IsFrom ts pin v → Dec (v ≡ w) → IsBefore ss (n + 1) v
    known_then v pin f (yes e) = record { place = n; early = omega arith; at = record { step = s; here = here; wire = sym e } }
    known_then v pin f (no d) = before_more (r.known v pin (down pin v d f))

    hangs_then : (i : ℕ) (t : VerifiedWire) (pin : ℕ) → slice_get ss i ≡ Some t → IsFrom ts pin t.wire.0 → Dec (t.wire.0 ≡ w) → HangsOn ts pin t.stand
    hangs_then i t pin there f (yes e) =
        let place : i ≡ n = one_place is (record { step = t; here = there; wire = e }) (record { step = s; here = here; wire = refl }) in
        let this : t ≡ s = some_same (sym there ∙ ap (slice_get ss) place ∙ here) in
        subst (λ (y : VerifiedWire). HangsOn ts pin y.stand) (sym this) (hang_map (up pin) (hangs_x pin (sym same ∙ ap (reach_at ts) (sym e) ∙ f.at)))
    hangs_then i t pin there f (no d) = hang_map (up pin) (r.hangs i t pin there (down pin t.wire.0 d f))

    all_then : (i : ℕ) (t : VerifiedWire) → i < n + 1 → slice_get ss i ≡ Some t → among ws t.wire.0 ≡ false → IsPin t.stand ⊎ HasFootOn (IsReached rs) t.stand → (i < n) ⊎ (t ≡ s) → IsReached ts t.wire.0
    all_then i t lt there off why (inl h) = reached_up t.wire.0 (r.all i t h there off why)
    all_then i t lt there off why (inr this) =
        let p = whole_x (subst (λ (y : VerifiedWire). IsPin y.stand ⊎ HasFootOn (IsReached rs) y.stand) this why) in
        subst (λ (y : VerifiedWire). IsReached ts y.wire.0) (sym this) (record { pin = p.0; from = record { at = same ∙ p.1 } })

    pub reaching_off : IsReaching ss ws (n + 1) ts
    reaching_off = record {
      on = on_then;
      only = λ v e. only_then v e (ℕ_discrete v w);
      known = λ v pin f. known_then v pin f (ℕ_discrete v w);
      hangs = λ i t pin there f. hangs_then i t pin there f (ℕ_discrete t.wire.0 w);
      all = λ i t lt there off why. all_then i t lt there off (why_down i t lt there why) (which i t lt there);
    }

is_on_route : (x : Reach) → (x ≡ reach.OnRoute) ⊎ (x ≢ reach.OnRoute)
is_on_route reach.Unreached = inr (λ e. cc)
is_on_route reach.OnRoute = inl refl
is_on_route (reach.From pin) = inr (λ e. cc)

pub reaching_more : {k : Kept} {known : KnownWires} → IsKnown k known → (ws : List ℕ) (n : ℕ) (rs ts : List Reach) → IsReaching known.steps ws n rs → (s : VerifiedWire) → slice_get known.steps n ≡ Some s → (w : ℕ) → IsAt known.steps n w → w < length rs →
    (x : Reach) → ((pin : ℕ) → x ≡ reach.From pin → HangsOn rs pin s.stand) → (IsPin s.stand ⊎ HasFootOn (IsReached rs) s.stand → (pin : ℕ) × (x ≡ reach.From pin)) → x ≢ reach.OnRoute →
    (reach_at rs w ≡ reach.OnRoute → ts ≡ rs) → (reach_at rs w ≢ reach.OnRoute → ts ≡ set rs w x) → IsReaching known.steps ws (n + 1) ts
reaching_more {k} {known} is ws n rs ts r s here w at within x hangs whole off same put = by_how (is_on_route (reach_at rs w))
  where
    this : w ≡ s.wire.0
    this = at_one at (record { step = s; here = here; wire = refl })

    by_how : (reach_at rs w ≡ reach.OnRoute) ⊎ (reach_at rs w ≢ reach.OnRoute) → IsReaching known.steps ws (n + 1) ts
    by_how (inl e) = subst (IsReaching known.steps ws (n + 1)) (sym (same e)) (reaching_on is ws n rs r s here (ap (reach_at rs) (sym this) ∙ e))
    by_how (inr d) = subst (IsReaching known.steps ws (n + 1)) (sym (put d ∙ ap (λ v. set rs v x) this))
        (reaching_off is ws n rs r s here (λ e. d (ap (reach_at rs) this ∙ e)) x hangs whole off (subst (λ v. v < length rs) this within))

pub put_length : (rs ts : List Reach) (w : ℕ) (x : Reach) → (reach_at rs w ≡ reach.OnRoute → ts ≡ rs) → (reach_at rs w ≢ reach.OnRoute → ts ≡ set rs w x) → length ts ≡ length rs
put_length rs ts w x same put = by_how (is_on_route (reach_at rs w))
  where
    by_how : (reach_at rs w ≡ reach.OnRoute) ⊎ (reach_at rs w ≢ reach.OnRoute) → length ts ≡ length rs
    by_how (inl e) = ap length (same e)
    by_how (inr d) = ap length (put d) ∙ length-set rs w x

-- marks of a route's wires
other_or : (a b : Bool) → (a || b) ≡ true → b ≡ false → a ≡ true
other_or true b e f = refl
other_or false b e f = absurd (false≢true (sym f ∙ e))

pub wire_within : (ws : List ℕ) {n m : ℕ} → ((w : ℕ) → among ws w ≡ true → w < n) → m ≡ n → (k x : ℕ) → k < length ws → slice_get ws k ≡ Some x → x < m
wire_within ws all same k x below here = let h = all x (among_at ws k x below here) in omega (arith, h, same)

module _ (ws : List ℕ) (n x : ℕ) (below : n < length ws) (here : slice_get ws n ≡ Some x) (rs : List Reach) (within : x < length rs) where
  pub marked : ((w : ℕ) → among (take n ws) w ≡ true → reach_at rs w ≡ reach.OnRoute) → (w : ℕ) → among (take (n + 1) ws) w ≡ true → reach_at (set rs x reach.OnRoute) w ≡ reach.OnRoute
  marked on w is = by_wire (ℕ_discrete w x)
    where
      by_wire : Dec (w ≡ x) → reach_at (set rs x reach.OnRoute) w ≡ reach.OnRoute
      by_wire (yes e) = ap (reach_at (set rs x reach.OnRoute)) e ∙ get_or-set_same rs x reach.OnRoute reach.Unreached within
      by_wire (no d) =
          let differ : (x == w) ≡ false = grind (arith, nat_tests, d) in
          get_or-set_other rs x w reach.OnRoute reach.Unreached d ∙ on w (other_or (among (take n ws) w) (x == w) (sym (more_among ws n x w below here) ∙ is) differ)

  pub unmarked : (w : ℕ) → among ws w ≡ false → reach_at (set rs x reach.OnRoute) w ≡ reach_at rs w
  unmarked w off = get_or-set_other rs x w reach.OnRoute reach.Unreached (λ e. false≢true (sym off ∙ ap (among ws) e ∙ among_at ws n x below here))

pub all_taken : (ws : List ℕ) (n w : ℕ) → length ws ≤ n → among ws w ≡ true → among (take n ws) w ≡ true
all_taken ws n w le on = ap (λ us. among us w) (take_all n ws le) ∙ on

-- what a wire on a stand hangs on
pub from_same : (m n : ℕ) → reach.From m ≡ reach.From n → m ≡ n
from_same m n e = cc

pub hangs_pin : {rs : List Reach} {d : SupportedBy} (m pin : ℕ) → d ≡ stand.Pin m → reach.From m ≡ reach.From pin → HangsOn rs pin d
hangs_pin {rs} m pin e same = subst (HangsOn rs pin) (sym (e ∙ ap (λ (n : ℕ). stand.Pin n) (from_same m pin same))) own

pub hangs_first : {rs : List Reach} {d : SupportedBy} {a b : Support} (pin : ℕ) → d ≡ stand.Feet a b → reach_at rs a.wire.0 ≡ reach.From pin → HangsOn rs pin d
hangs_first {rs} pin e at = subst (HangsOn rs pin) (sym e) (by_first (record { at = at }))

pub hangs_second : {rs : List Reach} {d : SupportedBy} {a b : Support} (pin : ℕ) → d ≡ stand.Feet a b → reach_at rs b.wire.0 ≡ reach.From pin → HangsOn rs pin d
hangs_second {rs} pin e at = subst (HangsOn rs pin) (sym e) (by_second (record { at = at }))

-- all known wires were looked at
pub trees_reached : {ss : List VerifiedWire} {ws : List ℕ} {n : ℕ} {rs : List Reach} → IsReaching ss ws n rs → AreTrees ss rs
trees_reached r = record { known = λ w pin f. before_has (r.known w pin f); hangs = r.hangs }

pub all_reached : {ss : List VerifiedWire} (q : Walk) {n : ℕ} {rs : List Reach} → length ss ≤ n → IsReaching ss q.wires n rs → ReachesAll ss q (IsReached rs)
all_reached {ss} q e r = record { all = λ i s here off why. r.all i s (let h = slice_get_within ss i s here in omega (arith, h, e)) here off why }
