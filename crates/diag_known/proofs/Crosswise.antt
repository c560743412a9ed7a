-- What stands, as all is looked at that a wire crosses which stands.
use Rattle.std.proofs.Common.{◌≡◌, ◌≢◌, ◌⊎◌, ℕ, ◌+◌, ◌<◌, ◌≤◌, Bool, true, false, Option, Some, List, length, refl, sym, ap, ◌∙◌, subst, inl, inr, arith, slice_get, zero, suc, Result, Ok, Err, OnOk}
use Rattle.diag_known.proofs.Vocabulary.{in_order, turned, has_number, Ends, Kept, Shape, Support, VerifiedWire, ends_of, crosses_of, keeps_cross}
use native.Mathlib.Decide.{dec_lt}
use Rattle.machine_shape.specs.Vocabulary.{HasCrosses, HasHomes, HasMeetings, HasParents, HasTaps, IsLine, IsTap, IsTree, line_at, line_position, lines_of, node_of, node_of_cross, nodes_of, parent_of, tap_at, tap_child, tap_pin, tap_port, tap_position, tap_table, taps_of}
use Rattle.diag_known.specs.declared.looks.Across.{Across}
use Rattle.diag_known.specs.declared.looks.Across.TheVariants as across
use Rattle.diag_known.specs.Vocabulary.{KnownWires, IsAt, HasWire, IsBetween, IsKeptCrossOf, IsSettled, Founds, AreLooked, AreLookedAcross, IsLookedAt, IsLookedFrom, across_at, across_of, ends_by}
use Rattle.diag_known.proofs.Grounding.{step_there}
use Rattle.diag_known.proofs.Places.{at_one, at_within, one_more, some_same}

-- a crosspoint with these ends leads from the one wire to the other
pub between_across : {m : Shape} (a : Across) {c u w : ℕ} → c < crosses_of m → ends_of m c ≡ ends_by a u w → IsBetween m c w u
between_across across.Lines within e = record { within = within; at = turned (ap (λ (p : ℕ × ℕ). p.0) e) (ap (λ (p : ℕ × ℕ). p.1) e) }
between_across across.Taps within e = record { within = within; at = in_order (ap (λ (p : ℕ × ℕ). p.0) e) (ap (λ (p : ℕ × ℕ). p.1) e) }

-- a wire that isn't left
pub looked_out : {k : Kept} {left : List Bool} {feet : List (Option Support)} (u w : ℕ) (ends : ℕ × ℕ) → has_number left w ≡ false → IsLookedAt k left feet u w ends
looked_out u w ends out = record { at = λ x less kept e. inl out }

-- no crosspoint has these ends
pub looked_none : {k : Kept} {left : List Bool} {feet : List (Option Support)} (u w : ℕ) (ends : ℕ × ℕ) → ((x : ℕ) → x < crosses_of k.shape → ends_of k.shape x ≢ ends) → IsLookedAt k left feet u w ends
looked_none u w ends none = record { at = λ x less kept e. absurd (none x less e) }

-- the crosspoint with these ends was looked at
pub looked_one : {k : Kept} {left : List Bool} {feet : List (Option Support)} (u w c : ℕ) (ends : ℕ × ℕ) → HasCrosses k.shape → c < crosses_of k.shape → ends_of k.shape c ≡ ends →
    (keeps_cross k c ≡ true → IsSettled left feet w u) → IsLookedAt k left feet u w ends
looked_one {k} u w c ends crosses within is settled = record { at = λ x less kept e. settled (subst (λ y. keeps_cross k y ≡ true) (crosses.one x c less within (e ∙ sym is)) kept) }

-- what was looked at still is, and one more
module _ {k : Kept} {old new : KnownWires} {left rest : List Bool} {feet more : List (Option Support)} (f : Founds old new left rest feet more) where
  looked_still : {u w : ℕ} {ends : ℕ × ℕ} → IsLookedAt k left feet u w ends → IsLookedAt k rest more u w ends
  looked_still {u} {w} s = record { at = λ x less kept e. f.settled w u (s.at x less kept e) }

  pub across_still : (a : Across) (u n count : ℕ) → AreLookedAcross k left feet a u n count → AreLookedAcross k rest more a u n count
  across_still a u n count s i less = looked_still (s i less)

  pub across_more : (a : Across) (u n i w : ℕ) → AreLookedAcross k left feet a u n i → w ≡ across_at k.shape a n i → IsLookedAt k rest more u w (ends_by a u w) → AreLookedAcross k rest more a u n (i + 1)
  across_more a u n i w was is now = one_more (λ j. IsLookedAt k rest more u (across_at k.shape a n j) (ends_by a u (across_at k.shape a n j))) i (λ j less. looked_still (was j less))
      (subst (λ v. IsLookedAt k rest more u v (ends_by a u v)) is now)

-- what stood stands
pub has_after : {old new : KnownWires} {left rest : List Bool} {feet more : List (Option Support)} {u : ℕ} → Founds old new left rest feet more → HasWire old.steps u → HasWire new.steps u
has_after {u = u} f has = record { place = has.place; at = f.stays has.place u has.at }

-- what holds of a shape holds of the one that was asked
pub found_at : {m n : Shape} {c : ℕ} {ends : ℕ × ℕ} → m ≡ n → (c < crosses_of m) × (ends_of m c ≡ ends) → (c < crosses_of n) × (ends_of n c ≡ ends)
found_at {c = c} {ends = ends} same f = subst (λ (o : Shape). (c < crosses_of o) × (ends_of o c ≡ ends)) same f

pub above_looked : {m : Shape} {k : Kept} {left : List Bool} {feet : List (Option Support)} (a : Across) (u node p n : ℕ) → m ≡ k.shape → parent_of m node ≡ Some p → parent_of k.shape node ≡ Some n →
    AreLookedAcross k left feet a u p (across_of k.shape a p) → AreLookedAcross k left feet a u n (across_of k.shape a n)
above_looked {k = k} {left = left} {feet = feet} a u node p n same at up s =
    subst (λ i. AreLookedAcross k left feet a u i (across_of k.shape a i)) (some_same (sym (subst (λ (o : Shape). parent_of o node ≡ Some p) same at) ∙ up)) s

-- the node of whose crossbar a wire is a tap
tap_nodes : {m : Shape} (tree : IsTree m) (parents : HasParents m) (n w : ℕ) → IsTap m n w → (node_of m w ≡ n) ⊎ (parent_of m (node_of m w) ≡ Some n)
tap_nodes {m} tree parents n w (tap_pin k e less is) = inl (ap (node_of m) is ∙ parents.pin_node k less ∙ sym e)
tap_nodes {m} tree parents n w (tap_port p) = inl (tree.port_node n w p)
tap_nodes {m} tree parents n w (tap_child c up p) = inr (ap (parent_of m) (tree.port_node c w p) ∙ up)
tap_nodes {m} tree parents n w (tap_table t k less at small is) = inl (ap (node_of m) is ∙ parents.table_node t k less small ∙ at)

-- the ends of a crosspoint, by its node
pub ends_here : (m : Shape) → HasCrosses m → (x : ℕ) → x < crosses_of m → ends_of m x ≡ (tap_at m (node_of_cross m x) (tap_position m x), line_at m (node_of_cross m x) (line_position m x))
ends_here m crosses x less = ap (ends_of m) (sym (crosses.back x less)) ∙ crosses.ends (node_of_cross m x) (tap_position m x) (line_position m x) (crosses.node x less) (crosses.tap x less) (crosses.line x less)

-- a crosspoint's line is of the crosspoint's node
pub line_here : (m : Shape) → IsTree m → HasMeetings m → (x u node : ℕ) → node ≡ node_of m u → x < crosses_of m → (ends_of m x).1 ≡ u → node_of_cross m x ≡ node
line_here m tree meetings x u node home less e = sym (tree.line_node (node_of_cross m x) u (subst (IsLine m (node_of_cross m x)) e (meetings.line x less))) ∙ sym home

-- a wire with a crosspoint as its line is a tap of none
pub line_is : (m : Shape) → HasMeetings m → HasHomes m → (c t w : ℕ) → (c < crosses_of m) × (ends_of m c ≡ (t, w)) → (x : ℕ) → x < crosses_of m → (ends_of m x).0 ≢ w
line_is m meetings homes c t w met x less is =
    homes.no_tap_is_line (node_of_cross m x) (node_of_cross m c) w (subst (IsTap m (node_of_cross m x)) is (meetings.tap x less)) (subst (IsLine m (node_of_cross m c)) (ap (λ (p : ℕ × ℕ). p.1) met.1) (meetings.line c met.0))

positive : (n : ℕ) → n ≢ 0 → 0 < n
positive zero some = absurd (some refl)
positive (suc n) some = omega arith

-- a wire that doesn't cross a node's first tap is no line of it
pub line_not : (m : Shape) → HasTaps m → HasMeetings m → (node t w count : ℕ) → node < nodes_of m → count ≡ taps_of m node → count ≢ 0 → t ≡ tap_at m node 0 → ((c : ℕ) → c < crosses_of m → ends_of m c ≢ (t, w)) →
    (x : ℕ) → x < crosses_of m → node_of_cross m x ≡ node → (ends_of m x).1 ≢ w
line_not m taps meetings node t w count low many some first none x less at is = none met.0 met.1 met.2
  where
    more : 0 < taps_of m node
    more = let tested = positive count some in omega (arith, tested, many)

    met : (c : ℕ) × (c < crosses_of m) × (ends_of m c ≡ (t, w)) × (node_of_cross m c ≡ node)
    met = meetings.meet node t w (subst (IsTap m node) (sym first) (taps.is_tap node 0 low more)) (subst (λ n. IsLine m n w) at (subst (IsLine m (node_of_cross m x)) is (meetings.line x less)))

pub line_of_none : (m : Shape) → HasCrosses m → (node w count : ℕ) → count ≡ taps_of m node → count ≡ 0 → (x : ℕ) → x < crosses_of m → node_of_cross m x ≡ node → (ends_of m x).1 ≢ w
line_of_none m crosses node w count many empty x less at is =
    let low : tap_position m x < taps_of m node = subst (λ n. tap_position m x < taps_of m n) at (crosses.tap x less) in
    omega (arith, empty, low, many)

-- what holds of each crosspoint of a wire with the lines or taps of a node
abbrev pub HoldsAcross : Shape → (ℕ → ℕ → Type 0) → Across → ℕ → ℕ → Type 0
HoldsAcross m P a u n = (i x : ℕ) → i < across_of m a n → x < crosses_of m → ends_of m x ≡ ends_by a u (across_at m a n i) → P x (across_at m a n i)

-- .. holds at a place of the node
module _ {m : Shape} (P : ℕ → ℕ → Type 0) (crosses : HasCrosses m) (u x n w : ℕ) (less : x < crosses_of m) (is : node_of_cross m x ≡ n) where
  at_line : (ends_of m x).0 ≡ u → (ends_of m x).1 ≡ w → HoldsAcross m P across.Lines u n → P x w
  at_line e f s =
      let same : line_at m n (line_position m x) ≡ w = ap (λ i. line_at m i (line_position m x)) (sym is) ∙ sym (ap (λ (p : ℕ × ℕ). p.1) (ends_here m crosses x less)) ∙ f in
      let low : line_position m x < lines_of m n = subst (λ i. line_position m x < lines_of m i) is (crosses.line x less) in
      subst (P x) same (s (line_position m x) x low less (λ i. (e i, (f ∙ sym same) i)))

  at_tap : (ends_of m x).0 ≡ w → (ends_of m x).1 ≡ u → HoldsAcross m P across.Taps u n → P x w
  at_tap e f s =
      let same : tap_at m n (tap_position m x) ≡ w = ap (λ i. tap_at m i (tap_position m x)) (sym is) ∙ sym (ap (λ (p : ℕ × ℕ). p.0) (ends_here m crosses x less)) ∙ e in
      let low : tap_position m x < taps_of m n = subst (λ i. tap_position m x < taps_of m i) is (crosses.tap x less) in
      subst (P x) same (s (tap_position m x) x low less (λ i. ((e ∙ sym same) i, f i)))

home_so : {m n : Shape} (u node : ℕ) → m ≡ n → node ≡ node_of m u → node ≡ node_of n u
home_so u node same e = subst (λ (o : Shape). node ≡ node_of o u) same e

-- What holds so of a wire, a line of its node or a tap of it and perhaps of the one above, holds of all its crosspoints.
module _ {m asked : Shape} (P : ℕ → ℕ → Type 0) (same : asked ≡ m) (u node : ℕ) (tree : IsTree m) (crosses : HasCrosses m) (meetings : HasMeetings m) (asked_home : node ≡ node_of asked u) where
  pub line_around : ((x : ℕ) → x < crosses_of asked → (ends_of asked x).0 ≢ u) → HoldsAcross m P across.Taps u node → (x w : ℕ) → x < crosses_of m → Ends (ends_of m x) u w → P x w
  line_around no_tap s x w less at = by at
    where
      no_tap_so : (x : ℕ) → x < crosses_of m → (ends_of m x).0 ≢ u
      no_tap_so = subst (λ (m : Shape). (x : ℕ) → x < crosses_of m → (ends_of m x).0 ≢ u) same no_tap

      by : Ends (ends_of m x) u w → P x w
      by (in_order e f) = absurd (no_tap_so x less e)
      by (turned e f) = at_tap P crosses u x node w less (line_here m tree meetings x u node (home_so u node same asked_home) less f) e f s

  pub tap_around : HasParents m → ((x : ℕ) → x < crosses_of asked → node_of_cross asked x ≡ node → (ends_of asked x).1 ≢ u) →
      ((n : ℕ) → parent_of m node ≡ Some n → HoldsAcross m P across.Lines u n) → HoldsAcross m P across.Lines u node → (x w : ℕ) → x < crosses_of m → Ends (ends_of m x) u w → P x w
  tap_around parents no_line above here x w less at = by at
    where
      no_line_so : (x : ℕ) → x < crosses_of m → node_of_cross m x ≡ node → (ends_of m x).1 ≢ u
      no_line_so = subst (λ (m : Shape). (x : ℕ) → x < crosses_of m → node_of_cross m x ≡ node → (ends_of m x).1 ≢ u) same no_line

      by_node : (ends_of m x).0 ≡ u → (ends_of m x).1 ≡ w → (node_of m u ≡ node_of_cross m x) ⊎ (parent_of m (node_of m u) ≡ Some (node_of_cross m x)) → P x w
      by_node e f (inl is) = at_line P crosses u x node w less (sym is ∙ sym (home_so u node same asked_home)) e f here
      by_node e f (inr up) = at_line P crosses u x (node_of_cross m x) w less refl e f (above (node_of_cross m x) (ap (parent_of m) (home_so u node same asked_home) ∙ up))

      by : Ends (ends_of m x) u w → P x w
      by (in_order e f) = by_node e f (tap_nodes tree parents (node_of_cross m x) u (subst (IsTap m (node_of_cross m x)) e (meetings.tap x less)))
      by (turned e f) = absurd (no_line_so x less (line_here m tree meetings x u node (home_so u node same asked_home) less f) f)

-- by a kept crosspoint the wire is settled to this one
abbrev SettlesTo : Kept → List Bool → List (Option Support) → ℕ → ℕ → ℕ → Type 0
SettlesTo k left feet u x w = keeps_cross k x ≡ true → IsSettled left feet w u

by_looks : {k : Kept} {left : List Bool} {feet : List (Option Support)} (a : Across) (u n : ℕ) → AreLookedAcross k left feet a u n (across_of k.shape a n) → HoldsAcross k.shape (SettlesTo k left feet u) a u n
by_looks a u n s i x low less e kept = (s i low).at x less kept e

-- all that a wire crosses was looked at
module _ {k : Kept} {left : List Bool} {feet : List (Option Support)} {asked : Shape} (same : asked ≡ k.shape) (u node : ℕ) (tree : IsTree k.shape) (crosses : HasCrosses k.shape) (meetings : HasMeetings k.shape) (asked_home : node ≡ node_of asked u) where
  pub line_looked : ((x : ℕ) → x < crosses_of asked → (ends_of asked x).0 ≢ u) → AreLookedAcross k left feet across.Taps u node (taps_of k.shape node) → IsLookedFrom k left feet u
  line_looked no_tap s = record { at = λ x w less kept at. line_around (SettlesTo k left feet u) same u node tree crosses meetings asked_home no_tap (by_looks across.Taps u node s) x w less at kept }

  pub tap_looked : HasParents k.shape → ((x : ℕ) → x < crosses_of asked → node_of_cross asked x ≡ node → (ends_of asked x).1 ≢ u) →
      ((n : ℕ) → parent_of k.shape node ≡ Some n → AreLookedAcross k left feet across.Lines u n (lines_of k.shape n)) → AreLookedAcross k left feet across.Lines u node (lines_of k.shape node) → IsLookedFrom k left feet u
  tap_looked parents no_line above here = record {
    at = λ x w less kept at.
        tap_around (SettlesTo k left feet u) same u node tree crosses meetings asked_home parents no_line (λ n up. by_looks across.Lines u n (above n up)) (by_looks across.Lines u node here) x w less at kept;
  }

-- the wire at the next place was looked around
pub looked_more : {k : Kept} {n m : KnownWires} {left rest : List Bool} {feet more : List (Option Support)} {place from : ℕ} → AreLooked k n left feet place → Founds n m left rest feet more → IsAt n.steps place from →
    IsLookedFrom k rest more from → AreLooked k m rest more (place + 1)
looked_more {k} {n} {m} {left} {rest} {feet} {more} {place} {from} s f at now u b = by (dec_lt b.place place)
  where
    here : IsAt m.steps place from
    here = f.stays place from at

    long : place < length n.steps
    long = at_within at

    old : b.place < place → IsAt n.steps b.place u
    old early = was (step_there n.steps b.place (omega (arith, early, long)))
      where
        was : (t : VerifiedWire) × (slice_get n.steps b.place ≡ Some t) → IsAt n.steps b.place u
        was t =
            let v : IsAt n.steps b.place t.0.wire.0 = record { step = t.0; here = t.1; wire = refl } in
            record { step = t.0; here = t.1; wire = at_one (f.stays b.place t.0.wire.0 v) b.at }

    by : Dec (b.place < place) → IsLookedFrom k rest more u
    by (yes early) = record { at = λ x w less kept at. f.settled w u ((s u (record { place = b.place; early = early; at = old early })).at x w less kept at) }
    by (no late) =
        let lt = b.early in
        let same : b.place ≡ place = omega (arith, late, lt) in
        subst (IsLookedFrom k rest more) (sym (at_one b.at (subst (λ p. IsAt m.steps p from) (sym same) here))) now

pub looked_first : (k : Kept) (n : KnownWires) (left : List Bool) (feet : List (Option Support)) → AreLooked k n left feet 0
looked_first k n left feet u b = absurd (let e = b.early in let none : ⊥ = omega (arith, e) in none)

-- all places were looked at
pub looked_at_all : (k : Kept) (n : KnownWires) (left : List Bool) (feet : List (Option Support)) (place : ℕ) → AreLooked k n left feet place → length n.steps ≤ place → AreLooked k n left feet (length n.steps)
looked_at_all k n left feet place s le u b = s u (record { place = b.place; early = (let e = b.early in omega (arith, e, le)); at = b.at })

-- the foot of a wire to one that stands
pub foot_by_looks : (k : Kept) (known : KnownWires) (left : List Bool) (feet : List (Option Support)) → AreLooked k known left feet (length known.steps) →
    (w x a : ℕ) → IsKeptCrossOf k x → Ends (ends_of k.shape x) a w → HasWire known.steps a → IsSettled left feet w a
foot_by_looks k known left feet s w x a c e has = (s a (record { place = has.place; early = at_within has.at; at = has.at })).at x w c.0 c.1 e

pub across_asked : {m n : Shape} (a : Across) (node i : ℕ) {w : ℕ} → m ≡ n → w ≡ across_at m a node i → w ≡ across_at n a node i
across_asked a node i {w} same e = subst (λ (o : Shape). w ≡ across_at o a node i) same e

pub on_three : {T E A B C D : Type 0} (r : Result T E) → OnOk r A → OnOk r B → OnOk r C → (A → B → C → D) → OnOk r D
on_three (Ok x) a b c h = h a b c
on_three (Err e) a b c h = tt
