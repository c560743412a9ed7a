-- The ports and lines that were found are a choice.
use Rattle.std.proofs.Common.{◌≡◌, ℕ, ◌<◌, ◌≤◌, Bool, true, false, ◌==◌, ◌&&◌, List, [], ◌∷◌, zero, suc, length, get_or, Some, if◌then◌else◌, ◌⊎◌, inl, inr, refl, sym, ap, ◌∙◌, subst, arith, eq-eqb}
use Rattle.place_plan.proofs.Vocabulary.{AllPairs, Contains, All-contains, All-weaker, Contains-append_right, cases_order, and_parts, Shape}
use Rattle.place_plan.proofs.Vocabulary.{Defects, IsFreeWire, Port, Visit, NetSide, Own, Child, Outside}
use Rattle.machine_shape.specs.Vocabulary.{wires_of, nodes_of, ends_of, node_of, parent_of, cross_at, IsLine, IsTap, tap_port, tap_child, IsTree, HasParents, HasTaps, HasCrosses, HasSites}
use Rattle.place_plan.specs.Vocabulary.{IsNth, nth_of, IsInside, IsAt, at_own, at_child, at_outside, Crosses, tap_of, CrossesAt, VisitsAt, IsFreePort, HasPort, IsTapOf, by_terminal, by_child, by_port, Serves, AreVisits, AreHeld, port_in, HasFreeCross, IsChoice, port_for}
use Rattle.place_plan.proofs.Places.{IsAt-unique, visits_inside}
use Rattle.place_plan.proofs.Spreads.{above_le, decide_inside}
use Rattle.place_plan.proofs.Those.{those_unique}
use Rattle.place_plan.proofs.Shut.{eq_from}

-- a port of the net at the node that is in the list is found
pub port_found : (ps : List Port) (n k w : ℕ) → Contains ps (port_for n k w) → Contains ps (port_for n k (port_in ps n k))
port_found [] n k w has = absurd (none has.0 has.1)
  where
    none : (i : ℕ) → i < 0 → ⊥
    none i lt = omega arith
port_found (p ∷ ps) n k w has = by ((p.node.0 == n) && (p.net.0 == k)) refl (λ h. port_found ps n k w h)
  where
    same : (q : Port) → q.node.0 ≡ n → q.net.0 ≡ k → q ≡ port_for n k q.wire.0
    same q e f = λ i. port_for (e i) (f i) q.wire.0

    tail : ((p.node.0 == n) && (p.net.0 == k)) ≡ false → Contains (p ∷ ps) (port_for n k w) → Contains ps (port_for n k w)
    tail e (zero, lt, q) = absurd (clash ((p.node.0 == n) && (p.net.0 == k)) e (and (p.node.0 == n) (p.net.0 == k) (eq-eqb p.node.0 n (ap (λ z. z.node.0) q)) (eq-eqb p.net.0 k (ap (λ z. z.net.0) q))))
      where
        clash : (b : Bool) → b ≡ false → b ≡ true → ⊥
        clash b x y = cc

        and : (a b : Bool) → a ≡ true → b ≡ true → (a && b) ≡ true
        and a b x y = subst (λ z. (z && b) ≡ true) (sym x) y
    tail e (suc i, lt, q) = (i, omega arith, q)

    by : (b : Bool) → ((p.node.0 == n) && (p.net.0 == k)) ≡ b → (Contains ps (port_for n k w) → Contains ps (port_for n k (port_in ps n k))) → Contains (p ∷ ps) (port_for n k (port_in (p ∷ ps) n k))
    by true e more =
        let q = and_parts (p.node.0 == n) (p.net.0 == k) e in
        let f : port_in (p ∷ ps) n k ≡ p.wire.0 = ap (λ b. if b then p.wire.0 else port_in ps n k) e in
        subst (λ z. Contains (p ∷ ps) (port_for n k z)) (sym f) (0, omega arith, same p (eq_from p.node.0 n q.0) (eq_from p.net.0 k q.1))
    by false e more =
        let f : port_in (p ∷ ps) n k ≡ port_in ps n k = ap (λ b. if b then p.wire.0 else port_in ps n k) e in
        subst (λ z. Contains (p ∷ ps) (port_for n k z)) (sym f) (Contains-append_right (p ∷ []) ps (port_for n k (port_in ps n k)) (more (tail e has)))

-- at different places of an ascending list stand different numbers
one_place : (xs : List ℕ) (i j : ℕ) → AllPairs (λ a b. a < b) xs → i < length xs → j < length xs → nth_of xs i ≡ nth_of xs j → i ≡ j
one_place xs i j up li lj e = by (cases_order i j)
  where
    differ : (a b : ℕ) → a < b → a ≡ b → ⊥
    differ a b l q = omega arith

    by : (i ≡ j) ⊎ ((i < j) ⊎ (j < i)) → i ≡ j
    by (inl q) = q
    by (inr (inl l)) = absurd (differ (nth_of xs i) (nth_of xs j) (up i j 0 l lj) e)
    by (inr (inr l)) = absurd (differ (nth_of xs j) (nth_of xs i) (up j i 0 l li) (sym e))

module _ (m : Shape) (d : Defects) (count : ℕ) (T : ℕ → ℕ → Type 0) (tree : IsTree m) (parents : HasParents m) (taps : HasTaps m) (crosses : HasCrosses m) (sites : HasSites m)
    (within : (k w : ℕ) → T k w → w < wires_of m) (own_tap : (k w n : ℕ) → T k w → node_of m w ≡ n → IsTap m n w) where
  inside_within : (n w : ℕ) → w < wires_of m → IsInside m n w → n < nodes_of m
  inside_within n w lt i = let a : n ≤ node_of m w = above_le m parents i in let b : node_of m w < nodes_of m = parents.node_within w lt in omega arith

  visit_within : (n k : ℕ) → VisitsAt m count T n k → n < nodes_of m
  visit_within n k v = let i = visits_inside m (T k) n v.1 in inside_within n i.0 (within k i.0 i.1) i.2

  cross_within : (n k : ℕ) → CrossesAt m count T n k → n < nodes_of m
  cross_within n k x = inside_within n x.1.inner (within k x.1.inner x.1.inner_is) x.1.inside

  -- a port is a free port, of one net
  port_is : (n k w : ℕ) → HasPort m d count T n k w → IsFreePort m d n w
  port_is n k w is = subst (IsFreePort m d n) is.port_is.1 (is.are_ports.only is.place 0 is.port_is.0)

  port_one : (n k l w u : ℕ) → HasPort m d count T n k w → HasPort m d count T n l u → w ≡ u → k ≡ l
  port_one n k l w u a b e =
      let x : a.crossing ≡ b.crossing = those_unique (CrossesAt m count T n) a.crossing b.crossing a.are_crossing b.are_crossing in
      let p : a.ports ≡ b.ports = those_unique (IsFreePort m d n) a.ports b.ports a.are_ports b.are_ports in
      let bp : IsNth a.ports b.place u = subst (λ z. IsNth z b.place u) (sym p) b.port_is in
      let bn : IsNth a.crossing b.place l = subst (λ z. IsNth z b.place l) (sym x) b.net_is in
      let q : a.place ≡ b.place = one_place a.ports a.place b.place a.are_ports.ascending a.port_is.0 bp.0 (a.port_is.1 ∙ e ∙ sym bp.1) in
      sym a.net_is.1 ∙ ap (nth_of a.crossing) q ∙ bn.1

  -- a net that visits a node crosses each child that it has a terminal in
  crosses_child : (n k c w : ℕ) → VisitsAt m count T n k → parent_of m c ≡ Some n → T k w → IsInside m c w → CrossesAt m count T c k
  crosses_child n k c w v e has i = (v.0, by (decide_inside m parents c v.1.first.wire (within k v.1.first.wire v.1.first.is)) (decide_inside m parents c v.1.second.wire (within k v.1.second.wire v.1.second.is)))
    where
      out : (u : ℕ) → T k u → ¬ IsInside m c u → Crosses m (T k) c
      out u h x = record { inner = w; outer = u; inner_is = has; outer_is = h; inside = i; not_inside = x }

      by : IsInside m c v.1.first.wire ⊎ (IsInside m c v.1.first.wire → ⊥) → IsInside m c v.1.second.wire ⊎ (IsInside m c v.1.second.wire → ⊥) → Crosses m (T k) c
      by (inr x) q = out v.1.first.wire v.1.first.is x
      by (inl x) (inr y) = out v.1.second.wire v.1.second.is y
      by (inl x) (inl y) = absurd (v.1.different (IsAt-unique m tree v.1.first.at (at_child c e x) ∙ sym (IsAt-unique m tree v.1.second.at (at_child c e y))))

  module _ (ports : List Port) (vs : List Visit) (held : AreHeld m d count T (nodes_of m) ports) (visits : AreVisits m d count T (nodes_of m) vs) where
    port_of : (n k : ℕ) → CrossesAt m count T n k → HasPort m d count T n k (port_in ports n k)
    port_of n k x =
        let g = held.given n k (cross_within n k x) x in
        (All-contains (λ p. (p.node.0 < nodes_of m) × CrossesAt m count T p.node.0 p.net.0 × HasPort m d count T p.node.0 p.net.0 p.wire.0) ports (port_for n k (port_in ports n k)) held.each (port_found ports n k g.0 g.1)).2

    -- a terminal's strand comes by a tap of its net
    tap_is : (n k t : ℕ) (s : NetSide) → VisitsAt m count T n k → T k t → IsAt m n t s → IsTapOf m d count T n k (tap_of (λ c. port_in ports c k) n s) × IsTap m n (tap_of (λ c. port_in ports c k) n s)
    tap_is n k t (Own w) v has (at_own e) = (by_terminal has e, own_tap k w n has e)
    tap_is n k t (Child c) v has (at_child b e i) = let h = port_of c k (crosses_child n k c t v e has i) in (by_child c e h, tap_child c e (port_is c k (port_in ports c k) h).0)
    tap_is n k t Outside v has (at_outside far) =
        let i = visits_inside m (T k) n v.1 in
        let h = port_of n k (v.0, record { inner = i.0; outer = t; inner_is = i.1; outer_is = has; inside = i.2; not_inside = far }) in
        (by_port h, tap_port (port_is n k (port_in ports n k) h).0)

    cross_is : (n k w tap : ℕ) → VisitsAt m count T n k → Serves m d count T n k w → IsTapOf m d count T n k tap → IsTap m n tap → HasFreeCross m d tap w
    cross_is n k w tap v is of at =
        let lt = visit_within n k v in
        let a = taps.has_position n tap lt at in
        let b = sites.some_line n w is.line in
        let x : ℕ = cross_at m n a.0 b.0 in
        let e : ends_of m x ≡ (tap, w) = crosses.ends n a.0 b.0 lt a.1 b.1 ∙ (λ i. (a.2 i, sym b.2 i)) in
        (x, crosses.within n a.0 b.0 lt a.1 b.1, e, is.crosses tap x of (crosses.within n a.0 b.0 lt a.1 b.1) e)

    pub choice_is : IsChoice m d count T ports vs
    choice_is = record {
      given = λ n k v. visits.given n k (visit_within n k v) v;
      each = All-weaker (λ v. (v.node.0 < nodes_of m) × VisitsAt m count T v.node.0 v.net.0 × Serves m d count T v.node.0 v.net.0 v.line.0) (λ v. VisitsAt m count T v.node.0 v.net.0 × IsLine m v.node.0 v.line.0 × IsFreeWire d v.line.0) (λ v s. (s.1, s.2.line, s.2.free)) vs visits.each;
      nets_apart = λ i j x lt l e. (visits.apart i j x lt l e).0;
      lines_apart = λ i j x lt l e.
          let a = (visits.each i x (omega arith)).2.line in
          let b = (visits.each j x l).2.line in
          let same : (get_or vs i x).node.0 ≡ (get_or vs j x).node.0 = sym (tree.line_node (get_or vs i x).node.0 (get_or vs i x).line.0 a) ∙ ap (node_of m) e ∙ tree.line_node (get_or vs j x).node.0 (get_or vs j x).line.0 b in
          (visits.apart i j x lt l same).1 e;
      are_ports = λ n k x. let h = port_of n k x in let f = port_is n k (port_in ports n k) h in (h, f.0, f.1);
      ports_apart = λ n k l x y e. port_one n k l (port_in ports n k) (port_in ports n l) (port_of n k x) (port_of n l y) e;
      serves = λ i y l t s has at.
          let v : Visit = get_or vs i y in
          let o = visits.each i y l in
          let q = tap_is v.node.0 v.net.0 t s o.1 has at in
          cross_is v.node.0 v.net.0 v.line.0 (tap_of (λ c. port_in ports c v.net.0) v.node.0 s) o.1 o.2 q.0 q.1;
    }
