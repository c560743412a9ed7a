-- What the search says of those who ask is what the definitions say of the nets that visit the node.
use Rattle.std.proofs.Common.{◌≡◌, ℕ, ◌<◌, Bool, true, false, not, List, length, get_or, map, Some, ◌⊎◌, inl, inr, refl, sym, ap, ◌∙◌, subst, arith}
use Rattle.place_plan.proofs.Vocabulary.{Contains, filter, list_any, range_with_len, length-map, get_or-map, get_or_default, length-filter}
use Rattle.place_plan.proofs.Vocabulary.{AllPairs-filter, Any-from_list_any, list_any-from_Any, cases_order, false_from_ne_true, Shape}
use Rattle.place_plan.proofs.Vocabulary.{Defects, IsFreeCross, DefectList, is_free_cross, Ask, Hold, Own, Child, Outside}
use Rattle.std.proofs.lemmas.List.Elements.{All-contains, All-map, All-get_or, All-weaker, All-filter, filter_passes, All-contains_itself, Contains-get_or}
use Rattle.machine_shape.specs.Shape.{nodes_of, crosses_of, ends_of, node_of, parent_of}
use Rattle.place_plan.specs.Vocabulary.{AreThose, IsNth, at_own, at_child, at_outside, Crosses, pick_of, net_in, IsAssignment, IsShort, serves_any, serves_by, ask_at, no_ask, is_shut, HasTerminal, CrossesAt, VisitsAt, IsFreePort, HasPort, IsTapOf, by_terminal, by_child, by_port, Serves, IsChoiceAt, AreShort, IsHeld, IsTapAmong, IsBoard, AreAsks, IsAskOf, IsFreeLine, list_at}
use Rattle.place_plan.specs.Taps.{net_of}
use Rattle.place_plan.proofs.Ranges.{range_below, in_range}
use Rattle.place_plan.proofs.Shut.{shut_by, shut_has, free_cross_to, free_cross_from}
use Rattle.place_plan.proofs.Stuck.{kept}
use Rattle.place_plan.proofs.Those.{those_have, those_unique}

no_hold : Hold
no_hold = record { ask = 0; line = 0 }

pub contains_map : {X Y : Type 0} (f : X → Y) → (xs : List X) (x : X) → Contains xs x → Contains (map f xs) (f x)
contains_map f xs x has = (has.0, omega (arith, has.1, length-map xs f), get_or-map f xs has.0 x (f x) has.1 ∙ ap f has.2)

pub from_map : (f : ℕ → ℕ) (xs : List ℕ) (y : ℕ) → Contains (map f xs) y → (x : ℕ) × Contains xs x × (f x ≡ y)
from_map f xs y has =
    let l : has.0 < length xs = subst (λ z. has.0 < z) (length-map xs f) has.1 in
    (get_or xs has.0 0, Contains-get_or xs has.0 0 l, sym (get_or-map f xs has.0 0 y l) ∙ has.2)

module _ (m : Shape) (d : Defects) (nets crossing ports : List (List ℕ)) (board : IsBoard m d nets crossing ports) where
  -- a net's port by the lists is its port
  pub held_to : (c k t : ℕ) → c < nodes_of m → IsHeld crossing ports c k t → HasPort m d (length nets) (HasTerminal nets) c k t
  held_to c k t lt h = record {
    crossing = list_at crossing c;
    ports = list_at ports c;
    are_crossing = board.crossing_are.those c lt;
    are_ports = board.ports_are.those c lt;
    place = h.0;
    net_is = h.1;
    port_is = h.2;
  }

  pub held_from : (c k t : ℕ) → c < nodes_of m → HasPort m d (length nets) (HasTerminal nets) c k t → IsHeld crossing ports c k t
  held_from c k t lt is = (
    is.place,
    subst (λ xs. IsNth xs is.place k) (those_unique (CrossesAt m (length nets) (HasTerminal nets) c) is.crossing (list_at crossing c) is.are_crossing (board.crossing_are.those c lt)) is.net_is,
    subst (λ xs. IsNth xs is.place t) (those_unique (IsFreePort m d c) is.ports (list_at ports c) is.are_ports (board.ports_are.those c lt)) is.port_is,
  )

  -- a net that has a port crosses the node
  pub port_crosses : (c k t : ℕ) → HasPort m d (length nets) (HasTerminal nets) c k t → Crosses m (HasTerminal nets k) c
  port_crosses c k t is = (those_have (CrossesAt m (length nets) (HasTerminal nets) c) is.crossing k is.are_crossing (is.place, is.net_is.0, get_or_default is.crossing is.place k 0 is.net_is.0 ∙ is.net_is.1)).1

  module _ (within : (c n : ℕ) → parent_of m c ≡ Some n → c < nodes_of m) (n : ℕ) (lt : n < nodes_of m) where
    tap_to : (k t : ℕ) → IsTapAmong m crossing ports n k (list_at nets k) t → IsTapOf m d (length nets) (HasTerminal nets) n k t
    tap_to k t (w, has, (Own u, at_own e, q)) = by_terminal (subst (HasTerminal nets k) q has) (subst (λ z. node_of m z ≡ n) q e)
    tap_to k t (w, has, (Child c, at_child b e i, h)) = by_child c e (held_to c k t (within c n e) h)
    tap_to k t (w, has, (Outside, at, h)) = by_port (held_to n k t lt h)

    tap_from : (k t : ℕ) → IsTapOf m d (length nets) (HasTerminal nets) n k t → IsTapAmong m crossing ports n k (list_at nets k) t
    tap_from k t (by_terminal has e) = (t, has, (Own t, at_own e, refl))
    tap_from k t (by_child c e h) = let x = port_crosses c k t h in (x.inner, x.inner_is, (Child c, at_child c e x.inside, held_from c k t (within c n e) h))
    tap_from k t (by_port h) = let x = port_crosses n k t h in (x.outer, x.outer_is, (Outside, at_outside x.not_inside, held_from n k t lt h))

    module _ (asks : List Ask) (are : AreAsks m nets crossing ports n asks) (lines : List ℕ) (lines_are : AreThose (IsFreeLine m d n) lines) where
      D : DefectList
      D = record { shape = m; list = d }

      net_at : ℕ → ℕ
      net_at i = (ask_at asks i).net.0

      ask_of : (i : ℕ) → i < length asks → IsAskOf m nets crossing ports n (ask_at asks i)
      unfolding net_at
      ask_of i l = All-get_or (IsAskOf m nets crossing ports n) asks i no_ask l are.each

      -- the search's test is the definition
      serves_to : (i w : ℕ) → i < length asks → Contains lines w → serves_by D asks i w ≡ true → Serves m d (length nets) (HasTerminal nets) n (net_at i) w
      unfolding D net_at
      serves_to i w l has e = record {
        line = (those_have (IsFreeLine m d n) lines w lines_are has).0;
        free = (those_have (IsFreeLine m d n) lines w lines_are has).1;
        crosses = λ t x is lx f. by t x is lx f (is_free_cross m d x) refl;
      }
        where
          by : (t x : ℕ) → IsTapOf m d (length nets) (HasTerminal nets) n (net_at i) t → x < crosses_of m → ends_of m x ≡ (t, w) → (b : Bool) → is_free_cross m d x ≡ b → IsFreeCross m d x
          by t x is lx f true q = free_cross_to m d x q
          by t x is lx f false q = absurd (clash (list_any (λ u. is_shut D u w) (ask_at asks i).taps)
              (list_any-from_Any (λ u. is_shut D u w) (ask_at asks i).taps (let c : Contains (ask_at asks i).taps t = (ask_of i l t).1 (tap_from (net_at i) t is) in (c.0, t, c.1, c.2, shut_by D t w x lx f (λ g. unfree x q g)))) e)
            where
              clash : (b : Bool) → b ≡ true → not b ≡ true → ⊥
              clash b p q = cc

              unfree : (x : ℕ) → is_free_cross m d x ≡ false → IsFreeCross m d x → ⊥
              unfree x q g = let r : is_free_cross m d x ≡ true = free_cross_from m d x g in cc

      serves_from : (i w : ℕ) → i < length asks → Serves m d (length nets) (HasTerminal nets) n (net_at i) w → serves_by D asks i w ≡ true
      unfolding D net_at
      serves_from i w l is = ap not (false_from_ne_true (list_any (λ u. is_shut D u w) (ask_at asks i).taps) (λ e.
          let a = Any-from_list_any (λ u. is_shut D u w) (ask_at asks i).taps e in
          let h = shut_has D a.1 w a.4 in
          h.3 (is.crosses a.1 h.0 (tap_to (net_at i) a.1 ((ask_of i l a.1).0 (a.0, a.2, a.3))) h.1 h.2)))

      net_mono : (i j : ℕ) → i < j → j < length asks → net_at i < net_at j
      unfolding net_at
      net_mono i j l h =
          let lj : j < length (map net_of asks) = omega (arith, length-map asks net_of) in
          let up : get_or (map net_of asks) i 0 < get_or (map net_of asks) j 0 = are.nets_are.ascending i j 0 l lj in
          let a : get_or (map net_of asks) i 0 ≡ net_of (ask_at asks i) = get_or-map net_of asks i no_ask 0 (omega arith) in
          let b : get_or (map net_of asks) j 0 ≡ net_of (ask_at asks j) = get_or-map net_of asks j no_ask 0 h in
          omega arith

      net_one : (i j : ℕ) → i < length asks → j < length asks → net_at i ≡ net_at j → i ≡ j
      net_one i j li lj e = by (cases_order i j)
        where
          differ : (a b : ℕ) → a < b → a ≡ b → ⊥
          differ a b l q = omega arith

          by : (i ≡ j) ⊎ ((i < j) ⊎ (j < i)) → i ≡ j
          by (inl q) = q
          by (inr (inl l)) = absurd (differ (net_at i) (net_at j) (net_mono i j l lj) e)
          by (inr (inr l)) = absurd (differ (net_at j) (net_at i) (net_mono j i l li) (sym e))

      net_visits : (i : ℕ) → i < length asks → VisitsAt m (length nets) (HasTerminal nets) n (net_at i)
      unfolding net_at
      net_visits i l = subst (VisitsAt m (length nets) (HasTerminal nets) n) (get_or-map net_of asks i no_ask 0 l) (are.nets_are.only i 0 (omega (arith, length-map asks net_of)))

      ask_for : (k : ℕ) → VisitsAt m (length nets) (HasTerminal nets) n k → (i : ℕ) × (i < length asks) × (net_at i ≡ k)
      unfolding net_at
      ask_for k v =
          let c = are.nets_are.each k v in
          let l : c.0 < length asks = subst (λ z. c.0 < z) (length-map asks net_of) c.1 in
          (c.0, l, sym (get_or-map net_of asks c.0 no_ask k l) ∙ c.2)

      -- an assignment is a choice
      pub choice : (holds : List Hold) → IsAssignment (serves_by (record { shape = m; list = d }) asks) (range_with_len 0 (length asks)) lines holds → IsChoiceAt m d (length nets) (HasTerminal nets) n (map (pick_of asks) holds)
      unfolding D net_at
      choice holds is = record {
        given = λ k v.
            let a = ask_for k v in
            let g = All-contains (λ i. (w : ℕ) × Contains holds (record { ask = i; line = w })) (range_with_len 0 (length asks)) a.0 is.given (in_range (length asks) a.0 a.1) in
            (g.0, subst (λ z. Contains (map (pick_of asks) holds) (record { net = z; line = g.0 })) a.2 (contains_map (pick_of asks) holds (record { ask = a.0; line = g.0 }) g.1));
        each = All-map (λ p. VisitsAt m (length nets) (HasTerminal nets) n p.net × Serves m d (length nets) (HasTerminal nets) n p.net p.line) (pick_of asks) holds
            (All-weaker (λ h. Contains (range_with_len 0 (length asks)) h.ask × Contains lines h.line × (serves_by D asks h.ask h.line ≡ true)) (λ h. VisitsAt m (length nets) (HasTerminal nets) n (ask_at asks h.ask).net.0 × Serves m d (length nets) (HasTerminal nets) n (ask_at asks h.ask).net.0 h.line)
            (λ h o. let l = range_below (length asks) h.ask o.0 in (net_visits h.ask l, serves_to h.ask h.line l o.1 o.2)) holds is.each);
        nets_apart = λ i j p lt l e.
            let lj : j < length holds = omega (arith, length-map holds (pick_of asks)) in
            let li : i < length holds = omega arith in
            let a = get_or-map (pick_of asks) holds i no_hold p li in
            let b = get_or-map (pick_of asks) holds j no_hold p lj in
            is.nets_apart i j no_hold lt lj (net_one (get_or holds i no_hold).ask (get_or holds j no_hold).ask (range_below (length asks) (get_or holds i no_hold).ask (is.each i no_hold li).0) (range_below (length asks) (get_or holds j no_hold).ask (is.each j no_hold lj).0) (sym (ap (λ z. z.net) a) ∙ e ∙ ap (λ z. z.net) b));
        lines_apart = λ i j p lt l e.
            let lj : j < length holds = omega (arith, length-map holds (pick_of asks)) in
            let li : i < length holds = omega arith in
            is.lines_apart i j no_hold lt lj (sym (ap (λ z. z.line) (get_or-map (pick_of asks) holds i no_hold p li)) ∙ e ∙ ap (λ z. z.line) (get_or-map (pick_of asks) holds j no_hold p lj));
      }

      -- a set that is short of lines shows it for its nets
      pub shortage : (set : List ℕ) (need have : ℕ) → IsShort (serves_by (record { shape = m; list = d }) asks) (range_with_len 0 (length asks)) lines set need have → AreShort m d (length nets) (HasTerminal nets) n (map (net_in asks) set) need have
      unfolding D net_at
      shortage set need have is = record {
        within = All-map (VisitsAt m (length nets) (HasTerminal nets) n) (net_in asks) set (All-weaker (Contains (range_with_len 0 (length asks))) (λ i. VisitsAt m (length nets) (HasTerminal nets) n (net_in asks i)) (λ i c. net_visits i (range_below (length asks) i c)) set is.within);
        ascending = λ i j p lt l.
            let lj : j < length set = omega (arith, length-map set (net_in asks)) in
            let li : i < length set = omega arith in
            let a : get_or (map (net_in asks) set) i p ≡ net_in asks (get_or set i 0) = get_or-map (net_in asks) set i 0 p li in
            let b : get_or (map (net_in asks) set) j p ≡ net_in asks (get_or set j 0) = get_or-map (net_in asks) set j 0 p lj in
            let up : net_in asks (get_or set i 0) < net_in asks (get_or set j 0) = net_mono (get_or set i 0) (get_or set j 0) (is.ascending i j 0 lt lj) (range_below (length asks) (get_or set j 0) (is.within j 0 lj)) in
            omega arith;
        lines = filter (serves_any (serves_by D asks) set) lines;
        lines_are = record {
          ascending = AllPairs-filter (λ a b. a < b) (serves_any (serves_by D asks) set) lines lines_are.ascending;
          only = λ j p l.
              let w : ℕ = get_or (filter (serves_any (serves_by D asks) set) lines) j p in
              let e = filter_passes (serves_any (serves_by D asks) set) lines j p l in
              let c : Contains lines w = All-filter (serves_any (serves_by D asks) set) (Contains lines) lines (All-contains_itself lines) j p l in
              let a = Any-from_list_any (λ i. serves_by D asks i w) set e in
              let h : Contains set a.1 = (a.0, a.2, a.3) in
              (net_in asks a.1, contains_map (net_in asks) set a.1 h, serves_to a.1 w (range_below (length asks) a.1 (All-contains (Contains (range_with_len 0 (length asks))) set a.1 is.within h)) c a.4);
          each = λ w s.
              let o = from_map (net_in asks) set s.0 s.1 in
              let l : o.0 < length asks = range_below (length asks) o.0 (All-contains (Contains (range_with_len 0 (length asks))) set o.0 is.within o.1) in
              let v : Serves m d (length nets) (HasTerminal nets) n (net_in asks o.0) w = subst (λ z. Serves m d (length nets) (HasTerminal nets) n z w) (sym o.2) s.2 in
              kept (serves_any (serves_by D asks) set) lines w (lines_are.each w (v.line, v.free)) (list_any-from_Any (λ i. serves_by D asks i w) set (o.1.0, o.0, o.1.1, o.1.2, serves_from o.0 w l v));
        };
        need_is = is.need_is ∙ sym (length-map set (net_in asks));
        have_is = is.have_is ∙ sym (length-filter (serves_any (serves_by D asks) set) lines);
        fewer = is.fewer;
      }
