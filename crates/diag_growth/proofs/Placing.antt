-- A place where a table can be tested is a seat, and a seated table has one.
use Rattle.std.proofs.Common.{◌≡◌, ◌≢◌, ◌⊎◌, ℕ, zero, suc, ◌<◌, Bool, true, false, Some, List, [], ◌∷◌, ◌++◌, map, refl, sym, ap, ◌∙◌, subst, inl, inr, arith, slice_get, ◌==◌, ◌||◌}
use Rattle.diag_growth.proofs.Vocabulary.{nat_tests, false≢true, Shape, Table, StandsWithout, IsSeated, among, Walk, IsRoute, Extends, Kept}
use Rattle.diag_growth.proofs.Vocabulary.{keeps_cross, keeps_wire, untried, keeps_pair, IsPlaceFor, IsMeeting, IsPlaceAt, IsPlace}
use Rattle.diag_growth.proofs.Vocabulary.{IsWithout, VerifiedWire, untried_two, Arm, Seat, near_wires, far_wires, IsKeptBetween, IsSeat}
use Rattle.machine_shape.specs.Vocabulary.{Ends, in_order, turned, table_wire, tables_of, hextant_of, ends_of, IsLine, IsPort, IsNumbered, IsTree}
use Rattle.diag_tests.proofs.Longer.{among_both}
use Rattle.diag_known.specs.Vocabulary.{KnownWires, HasWire, IsKnown, IsKeptCrossOf, AreRoutesTo, IsKnownRoute}
use Rattle.diag_growth.specs.declared.seats.Place.{Place}

-- over its near port and its line a seated table can be tested
pub seated_place : {k : Kept} {ss without : List VerifiedWire} {t : ℕ} → ((w : ℕ) → StandsWithout k.shape (HasWire ss) (IsKeptCrossOf k) (hextant_of k.shape t) w → HasWire without w) → (s : IsSeated k.shape (HasWire ss) (IsKeptCrossOf k) t) → IsPlaceAt k ss without t s.near s.line
seated_place whole s = record {
  known = (s.out).1;
  output = (s.out).3;
  far = s.far;
  is_far = record { port = s.far_port; differs = λ e. s.different (sym e); stands = whole s.far s.far_stands; meets = (s.out).2 };
  inputs = λ j below. let i = s.inputs j below in (i.0, record { is_line = i.1; differs = i.3; joins = record { known = i.2; one = i.4; other = i.5 } });
}

-- over the crosspoint of the far port and the line the route comes to the line
pub end_is : {m : Shape} (h x a line e : ℕ) → IsTree m → IsPort m h a → IsLine m h line → ends_of m x ≡ (a, line) → Ends (ends_of m x) a e → e ≡ line
end_is h x a line e tree port is at (in_order s t) = sym t ∙ ap (λ p. p.1) at
end_is {m} h x a line e tree port is at (turned s t) = absurd (tree.no_line_is_port h h a (subst (IsLine m h) (sym (ap (λ p. p.1) at) ∙ t) is) port)

among_last_one : (x w : ℕ) → among (x ∷ []) w ≡ true → x ≡ w
among_last_one x w on = among_both (λ y. x ≡ y) [] x (λ y none. absurd (false≢true none)) refl w on

either : (b c : Bool) → (b ≡ true) ⊎ (b ≡ false)
either true c = inl refl
either false c = inr refl

or_later : (a b : Bool) → b ≡ true → (a || b) ≡ true
or_later true b e = refl
or_later false b e = e

between : {k : Kept} {x tap line : ℕ} → IsMeeting k tap line x → IsKeptBetween k x tap line
between {k} {x} {tap} {line} m = record { below = (m.kept).0; kept = (m.kept).1; at = in_order (ap (λ p. p.0) m.ends) (ap (λ p. p.1) m.ends) }

between_turned : {k : Kept} {x tap line : ℕ} → IsMeeting k tap line x → IsKeptBetween k x line tap
between_turned {k} {x} {tap} {line} m = record { below = (m.kept).0; kept = (m.kept).1; at = turned (ap (λ p. p.0) m.ends) (ap (λ p. p.1) m.ends) }

-- the lines of arms
pub record IsArmLine (arms : List Arm) (w : ℕ) : Type 0 where
  pub place : ℕ
  pub arm : Arm
  pub here : slice_get arms place ≡ Some arm
  pub line : arm.line.0 ≡ w

in_arms : (arms : List Arm) (w : ℕ) → among (map (λ (a : Arm). a.line.0) arms) w ≡ true → IsArmLine arms w
in_arms [] w on = absurd (false≢true on)
in_arms (a ∷ arms) w on = by (in_arms arms w) (either (a.line.0 == w) true) on
  where
    further : IsArmLine arms w → IsArmLine (a ∷ arms) w
    further h = record { place = suc h.place; arm = h.arm; here = h.here; line = h.line }

    by : (among (map (λ (b : Arm). b.line.0) arms) w ≡ true → IsArmLine arms w) → ((a.line.0 == w) ≡ true) ⊎ ((a.line.0 == w) ≡ false) →
        among (map (λ (b : Arm). b.line.0) (a ∷ arms)) w ≡ true → IsArmLine (a ∷ arms) w
    by rest (inl e) on = record { place = zero; arm = a; here = refl; line = grind (arith, nat_tests) }
    by rest (inr e) on = further (rest (let there : among (map (λ (b : Arm). b.line.0) arms) w ≡ true = rw e at on in there))

-- each wire of two lists put together is of one of them
in_append : (P : ℕ → Type 0) (xs ys : List ℕ) → ((w : ℕ) → among xs w ≡ true → P w) → ((w : ℕ) → among ys w ≡ true → P w) → (w : ℕ) → among (xs ++ ys) w ≡ true → P w
in_append P [] ys f g w on = g w on
in_append P (x ∷ xs) ys f g w on = by (λ h. in_append P xs ys h g w) (either (x == w) true) on
  where
    by : (((v : ℕ) → among xs v ≡ true → P v) → among (xs ++ ys) w ≡ true → P w) → ((x == w) ≡ true) ⊎ ((x == w) ≡ false) → among ((x ∷ xs) ++ ys) w ≡ true → P w
    by rest (inl e) on = f w (rw e refl)
    by rest (inr e) on = rest (λ v h. f v (or_later (x == v) (among xs v) h)) (let there : among (xs ++ ys) w ≡ true = rw e at on in there)

-- The routes to the two ports, with the line behind the far one, and the arms make a seat.
module _ {k : Kept} {known : KnownWires} {without : List VerifiedWire} (is : IsKnown k known) {h : ℕ} (out : IsWithout k.shape known.steps without h) (numbered : IsNumbered k.shape) (tree : IsTree k.shape)
    (t : Table) (below : t.0 < tables_of k.shape) (in_h : hextant_of k.shape t.0 ≡ h) (pins : (j : ℕ) → j < 7 → HasWire known.steps (table_wire k.shape t.0 j))
    {near line : ℕ} (p : Place) (is_line : IsLine k.shape h line) (place : IsPlace k known.steps without t.0 near line p) {r far longer : Walk}
    (routes : AreRoutesTo k without near p.far.0 r far) (push : Extends k.shape p.to_line.0 far longer) (route : IsRoute k.shape longer) (end : longer.end ≡ line) where
  abbrev m : Shape
  m = k.shape

  abbrev seat : Seat
  seat = record { table = t; near = r; far = longer; arms = p.arms; output = p.output }

  route_known : (q : Walk) → IsKnownRoute k without q → (w : ℕ) → among q.wires w ≡ true → HasWire without w
  route_known q known w on = let rest = known.wires w on in record { place = rest.place; at = rest.at }

  -- what the near wires are, and the far ones
  data Near (w : ℕ) : Type 0 where
    on_route : HasWire without w → among r.wires w ≡ true → Near w
    on_arm : HasWire known.steps w → IsLine m h w → w ≢ line → Near w

  data Far (w : ℕ) : Type 0 where
    on_far : HasWire without w → among far.wires w ≡ true → Far w
    on_line : w ≡ line → Far w
    on_output : w ≡ table_wire m t.0 6 → Far w

  arm_line : (w : ℕ) → IsArmLine p.arms.items w → Near w
  arm_line w l =
      let arm = (place.arms).each l.place l.arm l.here in
      subst Near l.line (on_arm arm.free.joins.known (subst (λ n. IsLine m n l.arm.line.0) in_h arm.free.is_line) arm.free.differs)

  near_is : (w : ℕ) → among (near_wires seat) w ≡ true → Near w
  near_is = in_append Near r.wires (map (λ (a : Arm). a.line.0) p.arms.items) (λ w on. on_route (route_known r routes.routes.left w on) on) (λ w on. arm_line w (in_arms p.arms.items w on))

  longer_is : (w : ℕ) → among longer.wires w ≡ true → Far w
  longer_is w on = among_both Far far.wires longer.end (λ v h. on_far (route_known far routes.routes.right v h) h) (on_line end) w (subst (λ ws. among ws w ≡ true) push.wires on)

  far_is : (w : ℕ) → among (far_wires m seat) w ≡ true → Far w
  far_is w on = among_both Far longer.wires (table_wire m t.0 6) longer_is (on_output refl) w on

  near_known : {w : ℕ} → Near w → HasWire known.steps w
  near_known {w} (on_route has on) = out.known w has
  near_known (on_arm has is differs) = has

  far_known : {w : ℕ} → Far w → HasWire known.steps w
  far_known {w} (on_far has on) = out.known w has
  far_known (on_line e) = subst (HasWire known.steps) (sym e) place.known
  far_known (on_output e) = subst (HasWire known.steps) (sym e) (pins 6 (omega arith))

  no_line : (w : ℕ) → HasWire without w → IsLine m h w → ⊥
  no_line w has is = (out.outside w has).no_line is

  no_pin : (w j : ℕ) → HasWire without w → j < 7 → w ≢ table_wire m t.0 j
  no_pin w j has within = (out.outside w has).no_pin t.0 j below in_h within

  no_line_pin : (w j : ℕ) → IsLine m h w → j < 7 → w ≢ table_wire m t.0 j
  no_line_pin w j is within e = tree.no_table_is_line t.0 j h below within (subst (IsLine m h) e is)

  sides_differ : {w u : ℕ} → Near w → Far u → w ≢ u
  sides_differ {w} {u} (on_route has on) (on_far also there) e = false≢true (sym (routes.routes.apart w on) ∙ subst (λ v. among far.wires v ≡ true) (sym e) there)
  sides_differ {w} (on_route has on) (on_line e) same = no_line w has (subst (IsLine m h) (sym (same ∙ e)) is_line)
  sides_differ {w} (on_route has on) (on_output e) same = no_pin w 6 has (omega arith) (same ∙ e)
  sides_differ {w} {u} (on_arm has is differs) (on_far also there) e = no_line u also (subst (IsLine m h) e is)
  sides_differ (on_arm has is differs) (on_line e) same = differs (same ∙ e)
  sides_differ {w} (on_arm has is differs) (on_output e) same = no_line_pin w 6 is (omega arith) (same ∙ e)

  near_input : {w : ℕ} (j : ℕ) → j < 6 → Near w → w ≢ table_wire m t.0 j
  near_input {w} j within (on_route has on) = no_pin w j has (omega (arith, within))
  near_input {w} j within (on_arm has is differs) = no_line_pin w j is (omega (arith, within))

  far_input : {w : ℕ} (j : ℕ) → j < 6 → Far w → w ≢ table_wire m t.0 j
  far_input {w} j within (on_far has on) same = no_pin w j has (omega (arith, within)) same
  far_input {w} j within (on_line e) same = no_line_pin w j (subst (IsLine m h) (sym e) is_line) (omega (arith, within)) same
  far_input j within (on_output e) same = let n : 6 ≡ j = (numbered.tables_apart t.0 t.0 6 j below below (omega arith) (omega (arith, within)) (sym e ∙ same)).1 in absurd (let none : ⊥ = omega (arith, n, within) in none)

  pair : (w u : ℕ) → HasWire known.steps w → HasWire known.steps u → w ≢ u → keeps_pair (untried k) w u ≡ true
  pair w u a b differ = untried_two k w u differ (is.of_set w a) (is.of_set u b)

  kept : (w : ℕ) → HasWire known.steps w → keeps_wire k w ≡ true
  kept w a = subst (λ v. keeps_wire k v ≡ true) a.at.wire (is.steps a.place a.at.step a.at.here).kept

  pub seat_is : IsSeat k seat
  seat_is = record {
    table = below;
    near = record { route = routes.routes.left.route; crosses = routes.routes.left.crosses };
    far = record { route = route; crosses = λ x on. among_both (λ c. keeps_cross k c ≡ true) far.crosses p.to_line.0 routes.routes.right.crosses ((place.to_line).kept).1 x (subst (λ cs. among cs x ≡ true) push.crosses on) };
    count = (place.arms).count;
    arms = λ j a here. let arm = (place.arms).each j a here in record {
      to_line = subst (λ e. IsKeptBetween k a.to_line.0 e a.line.0) (sym routes.left_end) (between arm.to_line);
      to_input = between_turned arm.to_input;
    };
    output = subst (λ e. IsKeptBetween k p.output.0 e (table_wire m t.0 6)) (sym end) (between_turned place.output);
    near_kept = λ w on. kept w (near_known (near_is w on));
    far_kept = λ w on. kept w (far_known (far_is w on));
    inputs = λ j within. kept (table_wire m t.0 j) (pins j (omega (arith, within)));
    sides = λ w u on there. pair w u (near_known (near_is w on)) (far_known (far_is u there)) (sides_differ (near_is w on) (far_is u there));
    near_inputs = λ j w within on. pair (table_wire m t.0 j) w (pins j (omega (arith, within))) (near_known (near_is w on)) (λ e. near_input j within (near_is w on) (sym e));
    far_inputs = λ j w within on. pair (table_wire m t.0 j) w (pins j (omega (arith, within))) (far_known (far_is w on)) (λ e. far_input j within (far_is w on) (sym e));
    between_inputs = λ i j within also differ. pair (table_wire m t.0 i) (table_wire m t.0 j) (pins i (omega (arith, within))) (pins j (omega (arith, also)))
        (λ e. differ ((numbered.tables_apart t.0 t.0 i j below below (omega (arith, within)) (omega (arith, also)) e).1));
  }

pub seat_over : {k : Kept} {known : KnownWires} {without : List VerifiedWire} (t : Table) (p : Place) {r far longer : Walk} → IsKnown k known → IsNumbered k.shape → IsTree k.shape →
    IsWithout k.shape known.steps without (hextant_of k.shape t.0) → t.0 < tables_of k.shape → ((j : ℕ) → j < 7 → HasWire known.steps (table_wire k.shape t.0 j)) →
    IsPlaceFor k known.steps without t.0 p → AreRoutesTo k without p.near.0 p.far.0 r far → Extends k.shape p.to_line.0 far longer → IsRoute k.shape longer →
    IsSeat k (record { table = t; near = r; far = longer; arms = p.arms; output = p.output })
seat_over {k} {known} {without} t p {r} {far} {longer} is numbered tree out below pins f routes push route =
    let n = f.found in
    let place = n.place in
    let at : Ends (ends_of k.shape p.to_line.0) p.far.0 longer.end = subst (λ a. Ends (ends_of k.shape p.to_line.0) a longer.end) routes.right_end push.at in
    seat_is is out numbered tree t below refl pins p n.is_line place (subst (λ a. AreRoutesTo k without a p.far.0 r far) place.near_is routes) push route
    (end_is (hextant_of k.shape t.0) p.to_line.0 p.far.0 n.line longer.end tree place.far.port n.is_line place.to_line.ends at)

-- the far route ends at the crosspoint to the line
pub far_end : {k : Kept} {far line end x : ℕ} (r : Walk) → r.end ≡ far → end ≡ line → IsMeeting k far line x → Ends (ends_of k.shape x) r.end end
far_end r same is meets = in_order (ap (λ p. p.0) meets.ends ∙ sym same) (ap (λ p. p.1) meets.ends ∙ sym is)
