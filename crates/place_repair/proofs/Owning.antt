-- A repaired image: which net has which wire, and that pins and tables hang together as before.
use Rattle.std.proofs.Common.{◌≡◌, ◌⊎◌, ℕ, ◌<◌, Bool, true, false, List, ◌++◌, length, get_or, refl, sym, ap, ◌∙◌, subst, inl, inr, IsSome}
use Rattle.std.specs.List.{All, Contains}
use Rattle.std.specs.FinSet as set
use Rattle.place_repair.proofs.Vocabulary.{false≢true, cases_Bool, All-contains, Shape, Joined-trans, Joined-sym, Configuration, is_closed}
use Rattle.place_repair.proofs.Vocabulary.{setting_of, ImageValue, IsImage, Uses, at_tap, at_line, keeps, Port, Visit, AreWires, AreHeld}
use Rattle.place_repair.proofs.Vocabulary.{AreVisits, HasTerminal, IsTapOf, Crosses, visit_for, crossed_within, Seats, IsKeptNets, IsOnLine}
use Rattle.machine_shape.specs.Shape.{Ends, in_order, turned, ends_of, wires_of, nodes_of, tables_of, pins_of, pin_wire, table_wire, node_of, IsLine, IsPort, IsTap, tap_pin, tap_table}
use Rattle.machine_meaning.specs.Vocabulary.{Joined, here, then, crossed, bridged, plain_net, Defects, IsFreeWire, IsFreeCross}
use Rattle.place_plan.specs.Room as room
use Rattle.place_plan.proofs.Upward.{up_of}
use Rattle.place_route.specs.Vocabulary.{HasLine, IsJoined, HasPortIn, AreWiresOf, IsNetTap, by_terminal, by_child, by_port, IsLaidOnTree, IsOfNet, as_terminal, as_line, as_port, AreTerminals}
use Rattle.place_route.proofs.Drawn.{Numbering, IsDrawnBy, drawn_wires, drawn_laid, drawn_free, visit, held}
use Rattle.place_route.proofs.OnTree.{one_net, net_joined, nets_apart, to_port}
use Rattle.place_repair.specs.Nets.{HangTogether, IsEnd, as_tap, as_line as line_end, HasWire, IsKept}
use Rattle.place_repair.specs.Plans.{Nets, AreSeats, AreNets, PinSits, TableSits, IsTerminal, at_pin, at_table, IsMoving, IsStaying, IsKeptWire}
use Rattle.place_repair.proofs.Placed.{on_within}
use Rattle.place_repair.proofs.Hanging.{has_end, one_net_has, walk_end}
use Rattle.place_repair.proofs.Seating.{one_table_place, one_table_owner, one_pin_place, one_pin_owner, table_place_free, pin_place_free, table_stays_or, pin_stays_or, free_table_stays, free_pin_stays}

pub end_used : (i : ImageValue) (w : ℕ) → IsEnd i.config w → Uses i w
end_used i w (as_tap x on e) = at_tap x on (sym e)
end_used i w (line_end x on e) = at_line x on (sym e)

true_or_false : {b : Bool} → b ≡ true → b ≡ false → ⊥
true_or_false e f = false≢true (sym f ∙ e)

-- an old wire of a pin or table, and where it is now
pub data Spot (d : Defects) (i : ImageValue) (s : Seats) (w v : ℕ) : Type 0 where
  pin_spot : (p q : ℕ) → Contains (i.inputs ++ i.outputs) p → PinSits d i s p q → pin_wire i.config.shape p ≡ w → pin_wire i.config.shape q ≡ v → Spot d i s w v
  table_spot : (t u j : ℕ) → IsSome (setting_of i.config t) → j < 7 → TableSits d i s t u → table_wire i.config.shape t j ≡ w → table_wire i.config.shape u j ≡ v → Spot d i s w v

module _ (d : Defects) (i : ImageValue) (is : IsImage i) (laws : Numbering i.config.shape) (s : Seats) (n : Nets) (seats : AreSeats d i s) (nets : AreNets d i s n) where
  abbrev m : Shape
  m = i.config.shape

  abbrev g : Configuration
  g = i.config

  abbrev terminal : ℕ → ℕ → Type 0
  terminal = HasTerminal n.terminals

  pin_in : (p : ℕ) → Contains (i.inputs ++ i.outputs) p → p < pins_of m
  pin_in p has = All-contains (λ q. q < pins_of m) (i.inputs ++ i.outputs) p is.within has

  table_in : (t : ℕ) → IsSome (setting_of g t) → t < tables_of m
  table_in = on_within g is.config

  spot_one : (w v y : ℕ) → Spot d i s w v → Spot d i s w y → v ≡ y
  spot_one w v y (pin_spot p q has sits e f) (pin_spot r t also there h k) =
      let same : p ≡ r = laws.numbered.pins_apart p r (pin_in p has) (pin_in r also) (e ∙ sym h) in
      sym f ∙ ap (pin_wire m) (one_pin_place d i is s seats r q t (subst (λ z. PinSits d i s z q) same sits) there) ∙ k
  spot_one w v y (pin_spot p q has sits e f) (table_spot t u j on l there h k) = absurd (laws.numbered.no_pin_is_table p t j (pin_in p has) (table_in t on) l (e ∙ sym h))
  spot_one w v y (table_spot t u j on l there h k) (pin_spot p q has sits e f) = absurd (laws.numbered.no_pin_is_table p t j (pin_in p has) (table_in t on) l (e ∙ sym h))
  spot_one w v y (table_spot t u j on l sits e f) (table_spot r x b onr lb there h k) =
      let same = laws.numbered.tables_apart t r j b (table_in t on) (table_in r onr) l lb (e ∙ sym h) in
      let place : u ≡ x = one_table_place d i is s seats r u x (subst (λ z. TableSits d i s z u) same.0 sits) there in
      sym f ∙ (λ z. table_wire m (place z) (same.1 z)) ∙ k

  place_in : (p q : ℕ) → Contains (i.inputs ++ i.outputs) p → PinSits d i s p q → q < pins_of m
  place_in p q has sits = (pin_place_free d i is s seats p q (pin_in p has) sits).0

  seat_in : (t u : ℕ) → IsSome (setting_of g t) → TableSits d i s t u → u < tables_of m
  seat_in t u on sits = (table_place_free d i is s seats t u (table_in t on) sits).0

  spot_owner : (w x v : ℕ) → Spot d i s w v → Spot d i s x v → w ≡ x
  spot_owner w x v (pin_spot p q has sits e f) (pin_spot r t also there h k) =
      let same : q ≡ t = laws.numbered.pins_apart q t (place_in p q has sits) (place_in r t also there) (f ∙ sym k) in
      sym e ∙ ap (pin_wire m) (one_pin_owner d i is s seats p r t has also (subst (PinSits d i s p) same sits) there) ∙ h
  spot_owner w x v (pin_spot p q has sits e f) (table_spot t u j on l there h k) = absurd (laws.numbered.no_pin_is_table q u j (place_in p q has sits) (seat_in t u on there) l (f ∙ sym k))
  spot_owner w x v (table_spot t u j on l there h k) (pin_spot p q has sits e f) = absurd (laws.numbered.no_pin_is_table q u j (place_in p q has sits) (seat_in t u on there) l (f ∙ sym k))
  spot_owner w x v (table_spot t u j on l sits e f) (table_spot r y b onr lb there h k) =
      let same = laws.numbered.tables_apart u y j b (seat_in t u on sits) (seat_in r y onr there) l lb (f ∙ sym k) in
      let owner : t ≡ r = one_table_owner d i is s seats t r y on onr (subst (TableSits d i s t) same.0 sits) there in
      sym e ∙ (λ z. table_wire m (owner z) (same.1 z)) ∙ h

  -- where a wire is now that was used before, it was before
  spot_used : (w v : ℕ) → Spot d i s w v → Uses i v → w ≡ v
  spot_used w v (pin_spot p q has sits e f) used = by (pin_stays_or d i is s seats p q sits)
    where
      by : (p ≡ q) ⊎ (¬ Uses i (pin_wire m q)) → w ≡ v
      by (inl same) = sym e ∙ ap (pin_wire m) same ∙ f
      by (inr unused) = absurd (unused (subst (Uses i) (sym f) used))
  spot_used w v (table_spot t u j on l sits e f) used = by (table_stays_or d i is s seats t u sits)
    where
      by : (t ≡ u) ⊎ ((k : ℕ) → k < 7 → ¬ Uses i (table_wire m u k)) → w ≡ v
      by (inl same) = sym e ∙ ap (λ z. table_wire m z j) same ∙ f
      by (inr unused) = absurd (unused j l (subst (Uses i) (sym f) used))

  spot_line : (w v a : ℕ) → Spot d i s w v → IsLine m a v → ⊥
  spot_line w v a (pin_spot p q has sits e f) line = laws.tree.no_pin_is_line q a (place_in p q has sits) (subst (IsLine m a) (sym f) line)
  spot_line w v a (table_spot t u j on l sits e f) line = laws.tree.no_table_is_line u j a (seat_in t u on sits) l (subst (IsLine m a) (sym f) line)

  spot_port : (w v a : ℕ) → Spot d i s w v → IsPort m a v → ⊥
  spot_port w v a (pin_spot p q has sits e f) port = laws.tree.no_pin_is_port q a (place_in p q has sits) (subst (IsPort m a) (sym f) port)
  spot_port w v a (table_spot t u j on l sits e f) port = laws.tree.no_table_is_port u j a (seat_in t u on sits) l (subst (IsPort m a) (sym f) port)

  spot_within : (w v : ℕ) → Spot d i s w v → v < wires_of m
  spot_within w v (pin_spot p q has sits e f) = subst (λ z. z < wires_of m) f (laws.numbered.pins q (place_in p q has sits))
  spot_within w v (table_spot t u j on l sits e f) = subst (λ z. z < wires_of m) f (laws.numbered.tables u j (seat_in t u on sits) l)

  spot_tap : (w v a : ℕ) → Spot d i s w v → node_of m v ≡ a → IsTap m a v
  spot_tap w v a (pin_spot p q has sits e f) at = tap_pin q (sym at ∙ ap (node_of m) (sym f) ∙ laws.parents.pin_node q (place_in p q has sits)) (place_in p q has sits) (sym f)
  spot_tap w v a (table_spot t u j on l sits e f) at = tap_table u j (seat_in t u on sits) (sym (laws.parents.table_node u j (seat_in t u on sits) l) ∙ ap (node_of m) f ∙ at) l (sym f)

  -- ---- terminals

  kept_at : (k : ℕ) → IsStaying n k → IsKept d i n.lowest k
  kept_at k st = nets.moves_are.kept k st.0 st.1

  one_has : (k l w : ℕ) → HasWire g n.lowest k w → HasWire g n.lowest l w → k ≡ l
  one_has = one_net_has g laws.numbered is.config n.lowest nets.numbered.lowest_are

  terminal_of : (k v : ℕ) → terminal k v → IsMoving n k × ((w : ℕ) × HasWire g n.lowest k w × Spot d i s w v)
  terminal_of k v t = let r = (nets.terminals_are k v).0 t in (r.0, by r.1)
    where
      by : IsTerminal d i s n.lowest k v → (w : ℕ) × HasWire g n.lowest k w × Spot d i s w v
      by (at_pin p q has wire sits e) = (pin_wire m p, wire, pin_spot p q has sits refl e)
      by (at_table t u j on l wire sits e) = (table_wire m t j, wire, table_spot t u j on l sits refl e)

  spot_terminal : (k w v : ℕ) → IsMoving n k → HasWire g n.lowest k w → Spot d i s w v → terminal k v
  spot_terminal k w v moving wire (pin_spot p q has sits e f) = (nets.terminals_are k v).1 (moving, at_pin p q has (subst (HasWire g n.lowest k) (sym e) wire) sits f)
  spot_terminal k w v moving wire (table_spot t u j on l sits e f) = (nets.terminals_are k v).1 (moving, at_table t u j on l (subst (HasWire g n.lowest k) (sym e) wire) sits f)

  spot_kept : (k w v : ℕ) → IsStaying n k → HasWire g n.lowest k w → Spot d i s w v → w ≡ v
  spot_kept k w v st wire (pin_spot p q has sits e f) = sym e ∙ ap (pin_wire m) (free_pin_stays d i is s seats p q ((kept_at k st).pins p has (subst (HasWire g n.lowest k) (sym e) wire)) sits) ∙ f
  spot_kept k w v st wire (table_spot t u j on l sits e f) = sym e ∙ ap (λ z. table_wire m z j) (free_table_stays d i is s seats t u ((kept_at k st).tables t j on l (subst (HasWire g n.lowest k) (sym e) wire)) sits) ∙ f

  are_terminals : AreTerminals m terminal
  are_terminals = record {
    apart = λ k l w p q.
        let a = (terminal_of k w p).1 in
        let b = (terminal_of l w q).1 in
        one_has k l b.0 (subst (HasWire g n.lowest k) (spot_owner a.0 b.0 w a.2 b.2) a.1) b.1;
    no_line = λ k a w p line. let r = (terminal_of k w p).1 in spot_line r.0 w a r.2 line;
    no_port = λ k a w p port. let r = (terminal_of k w p).1 in spot_port r.0 w a r.2 port;
    below = λ k w p. let r = (terminal_of k w p).1 in laws.tree.below w (spot_within r.0 w r.2);
  }

  module _ (ports : List Port) (visits : List Visit) (wires : All (AreWires m) n.terminals) (held_are : AreHeld m n.rest (length n.lowest) terminal (nodes_of m) ports) (visited : AreVisits m n.rest (length n.lowest) terminal (nodes_of m) visits) where
    pub drawn_by : IsDrawnBy m n.rest (length n.lowest) terminal n.terminals ports visits
    drawn_by = record {
      are = are_terminals;
      same = λ k w. (λ t. t, λ t. t);
      within = wires;
      in_range = λ k w t. let r = terminal_of k w t in (r.0.0, spot_within r.1.0 w r.1.2);
      at_node = λ a k t is at. let r = (terminal_of k t is).1 in spot_tap r.0 t a r.2 at;
      held_are = held_are;
      visited = visited;
    }

    pub draw_wires : AreWiresOf m n.terminals ports visits
    draw_wires = drawn_wires m n.rest (length n.lowest) terminal n.terminals ports visits laws drawn_by

    pub crossing_within : (a k : ℕ) → Crosses m (terminal k) a → a < nodes_of m
    crossing_within a k crosses = crossed_within m laws.parents (terminal k) (λ w t. let r = (terminal_of k w t).1 in spot_within r.0 w r.2) a crosses

    module _ (moved : Configuration) (joined : IsJoined m n.terminals ports visits moved) (closed : ℕ → Bool)
        (only : (x : ℕ) → closed x ≡ true → (is_closed moved x ≡ true) ⊎ ((is_closed g x ≡ true) × IsKeptWire i n (ends_of m x).0))
        (all_moved : (x : ℕ) → is_closed moved x ≡ true → closed x ≡ true)
        (all_kept : (x : ℕ) → is_closed g x ≡ true → IsKeptWire i n (ends_of m x).0 → closed x ≡ true) where
      laid : IsLaidOnTree m terminal (is_closed moved) (HasLine visits) (HasPortIn ports)
      laid = drawn_laid m n.rest (length n.lowest) terminal n.terminals ports visits laws drawn_by moved joined

      abbrev OfNet : ℕ → ℕ → Type 0
      OfNet = IsOfNet terminal (HasLine visits) (HasPortIn ports)

      -- which net has a wire now
      abbrev Has : ℕ → ℕ → Type 0
      Has k w = (IsStaying n k × HasWire g n.lowest k w) ⊎ OfNet k w

      rest_free : (w : ℕ) → IsFreeWire n.rest w → IsKeptWire i n w → ⊥
      rest_free w free kept = ((nets.rest_is.wires w).0 free).1 kept

      -- what stays and what moves have no wire together
      not_both : (k l w : ℕ) → IsStaying n k → HasWire g n.lowest k w → OfNet l w → ⊥
      not_both k l w st wire (as_terminal t) =
          let r = terminal_of l w t in
          let back : r.1.0 ≡ w = spot_used r.1.0 w r.1.2 (end_used i w (has_end g laws.numbered is.config n.lowest nets.numbered.lowest_are k w wire)) in
          let same : l ≡ k = one_has l k w (subst (HasWire g n.lowest l) back r.1.1) wire in
          true_or_false (subst (λ z. get_or n.moves z false ≡ true) same r.0.1) st.1
      not_both k l w st wire (as_line a has) =
          rest_free w (visit m n.rest (length n.lowest) terminal n.terminals ports visits laws drawn_by a l w has).2.free (k, st, wire)
      not_both k l w st wire (as_port a has) =
          let p = (held m n.rest (length n.lowest) terminal n.terminals ports visits laws drawn_by a l w has).2 in
          rest_free w (subst (IsFreeWire n.rest) p.port_is.1 (p.are_ports.only p.place 0 p.port_is.0).1) (k, st, wire)

      has_apart : (k l w : ℕ) → Has k w → Has l w → k ≡ l
      has_apart k l w (inl a) (inl b) = one_has k l w a.1 b.1
      has_apart k l w (inl a) (inr b) = absurd (not_both k l w a.0 a.1 b)
      has_apart k l w (inr b) (inl a) = absurd (not_both l k w a.0 a.1 b)
      has_apart k l w (inr a) (inr b) = nets_apart m laws.tree terminal (is_closed moved) (HasLine visits) (HasPortIn ports) laid are_terminals k l w a b

      has_both : (x : ℕ) → closed x ≡ true → (k : ℕ) × Has k (ends_of m x).0 × Has k (ends_of m x).1
      has_both x on = by (only x on)
        where
          by : (is_closed moved x ≡ true) ⊎ ((is_closed g x ≡ true) × IsKeptWire i n (ends_of m x).0) → (k : ℕ) × Has k (ends_of m x).0 × Has k (ends_of m x).1
          by (inl e) = let r = one_net m laws.tree terminal (is_closed moved) (HasLine visits) (HasPortIn ports) laid x e in (r.0, inr r.1, inr r.2)
          by (inr (e, (k, st, wire))) = (k, inl (st, wire), inl (st, (wire.0, then wire.1 (crossed x e (in_order refl refl)))))

      has_along : (k : ℕ) {w v : ℕ} → Joined (plain_net m closed) w v → Has k w → Has k v
      has_along k = keeps m closed (Has k) step
        where
          step : (x a b : ℕ) → closed x ≡ true → Ends (ends_of m x) a b → Has k a → Has k b
          step x a b on (in_order e f) has = let r = has_both x on in let same : r.0 ≡ k = has_apart r.0 k a (subst (Has r.0) e r.1) has in subst (λ z. Has z b) same (subst (Has r.0) f r.2)
          step x a b on (turned e f) has = let r = has_both x on in let same : r.0 ≡ k = has_apart r.0 k a (subst (Has r.0) f r.2) has in subst (λ z. Has z b) same (subst (Has r.0) e r.1)

      -- a net's wire that was a pin's or a table's before was of the net
      has_before : (k w v : ℕ) → Spot d i s w v → Has k v → HasWire g n.lowest k w
      has_before k w v spot (inl (st, wire)) = subst (HasWire g n.lowest k) (sym (spot_used w v spot (end_used i v (has_end g laws.numbered is.config n.lowest nets.numbered.lowest_are k v wire)))) wire
      has_before k w v spot (inr (as_terminal t)) = let r = (terminal_of k v t).1 in subst (HasWire g n.lowest k) (spot_owner r.0 w v r.2 spot) r.1
      has_before k w v spot (inr (as_line a has)) = absurd (spot_line w v a spot (laid.lines a k v has))
      has_before k w v spot (inr (as_port a has)) = absurd (spot_port w v a spot (laid.ports a k v has))

      moved_too : {a b : ℕ} → Joined (plain_net m (is_closed moved)) a b → Joined (plain_net m closed) a b
      moved_too here = here
      moved_too (then j (crossed x on at)) = then (moved_too j) (crossed x (all_moved x on) at)
      moved_too (then j (bridged p is at)) = absurd (false≢true is)

      kept_too : (k : ℕ) → IsStaying n k → {a b : ℕ} → HasWire g n.lowest k a → HangTogether g a b → Joined (plain_net m closed) a b
      kept_too k st wire here = here
      kept_too k st wire (then j (crossed x on (in_order e f))) = then (kept_too k st wire j) (crossed x (all_kept x on (k, st, subst (HasWire g n.lowest k) (sym e) (wire.0, Joined-trans wire.1 j))) (in_order e f))
      kept_too k st wire (then j (crossed x on (turned e f))) = then (kept_too k st wire j) (crossed x (all_kept x on (k, st, subst (HasWire g n.lowest k) (sym e) (wire.0, then (Joined-trans wire.1 j) (crossed x on (turned e f))))) (turned e f))
      kept_too k st wire (then j (bridged p is at)) = absurd (false≢true is)

      pub hang_on : (w v x y : ℕ) → Spot d i s w v → Spot d i s x y → HangTogether g w x → Joined (plain_net m closed) v y
      hang_on w v x y p q j = by (walk_end g j)
        where
          in_net : (k : ℕ) → HasWire g n.lowest k x → (get_or n.moves k false ≡ true) ⊎ (get_or n.moves k false ≡ false) → Joined (plain_net m closed) v y
          in_net k wire (inl moves) =
              let first : terminal k v = spot_terminal k w v (wire.0, moves) (wire.0, Joined-trans wire.1 (Joined-sym j)) p in
              let second : terminal k y = spot_terminal k x y (wire.0, moves) wire q in
              moved_too (net_joined m laws.tree terminal (is_closed moved) (HasLine visits) (HasPortIn ports) laid are_terminals k v y first second)
          in_net k wire (inr stays) =
              let from : HasWire g n.lowest k w = (wire.0, Joined-trans wire.1 (Joined-sym j)) in
              subst (λ z. Joined (plain_net m closed) z y) (spot_kept k w v (wire.0, stays) from p) (subst (Joined (plain_net m closed) w) (spot_kept k x y (wire.0, stays) wire q) (kept_too k (wire.0, stays) from j))

          by : (w ≡ x) ⊎ IsEnd g x → Joined (plain_net m closed) v y
          by (inl e) = subst (Joined (plain_net m closed) v) (spot_one w v y p (subst (λ z. Spot d i s z y) (sym e) q)) here
          by (inr end) = let r = nets.numbered.each x end in in_net r.0 r.1 (cases_Bool (get_or n.moves r.0 false))

      -- where a walk leads elsewhere, a net has its end
      walk_has : {a b : ℕ} → Joined (plain_net m closed) a b → (a ≡ b) ⊎ ((k : ℕ) × Has k b)
      walk_has here = inl refl
      walk_has (then j (crossed x on (in_order e f))) = let r = has_both x on in inr (r.0, subst (Has r.0) f r.2)
      walk_has (then j (crossed x on (turned e f))) = let r = has_both x on in inr (r.0, subst (Has r.0) e r.1)
      walk_has (then j (bridged p is at)) = absurd (false≢true is)

      pub hung_before : (w v x y : ℕ) → Spot d i s w v → Spot d i s x y → Joined (plain_net m closed) v y → HangTogether g w x
      hung_before w v x y p q j = by (walk_has j)
        where
          by : (v ≡ y) ⊎ ((k : ℕ) × Has k y) → HangTogether g w x
          by (inl e) = subst (HangTogether g w) (spot_owner w x y (subst (Spot d i s w) e p) q) here
          by (inr (k, has)) =
              let first : HasWire g n.lowest k w = has_before k w v p (has_along k (Joined-sym j) has) in
              let second : HasWire g n.lowest k x = has_before k x y q has in
              Joined-trans (Joined-sym first.1) second.1

      -- ---- moving nets

      pub terminals_joined : (k w u : ℕ) → terminal k w → terminal k u → Joined (plain_net m closed) w u
      terminals_joined k w u t r = moved_too (net_joined m laws.tree terminal (is_closed moved) (HasLine visits) (HasPortIn ports) laid are_terminals k w u t r)

      is_tap : (a k t : ℕ) → IsNetTap m terminal (HasPortIn ports) a k t → IsTapOf m n.rest (length n.lowest) terminal a k t
      is_tap a k t (by_terminal is at) = room.by_terminal is at
      is_tap a k t (by_child c e has) = room.by_child c e (held m n.rest (length n.lowest) terminal n.terminals ports visits laws drawn_by c k t has).2
      is_tap a k t (by_port has) = room.by_port (held m n.rest (length n.lowest) terminal n.terminals ports visits laws drawn_by a k t has).2

      -- nothing else is closed
      pub closed_for : (x : ℕ) → closed x ≡ true → IsKeptNets i n x ⊎ IsOnLine i n visits x
      closed_for x on = by (only x on)
        where
          by : (is_closed moved x ≡ true) ⊎ ((is_closed g x ≡ true) × IsKeptWire i n (ends_of m x).0) → IsKeptNets i n x ⊎ IsOnLine i n visits x
          by (inl e) = let r = laid.only x e in inr (record { visit = visit_for r.0 r.1 r.2; is_one = r.4; tap = r.3; is_tap = is_tap r.0 r.1 r.3 r.5; ends = r.6 })
          by (inr kept) = inl kept

      -- ---- ports

      pub port_joined : (a k port w : ℕ) → HasPortIn ports a k port → Crosses m (terminal k) a → terminal k w → Joined (plain_net m closed) w port
      port_joined a k port w has crosses t =
          let inner : Joined (plain_net m (is_closed moved)) crosses.inner port = to_port m laws.tree terminal (is_closed moved) (HasLine visits) (HasPortIn ports) laid k crosses.inner crosses.inner_is (up_of m crosses.inside) crosses port has in
          moved_too (Joined-trans (net_joined m laws.tree terminal (is_closed moved) (HasLine visits) (HasPortIn ports) laid are_terminals k w crosses.inner t crosses.inner_is) inner)

      pub port_only : (a k w other : ℕ) → terminal k w → IsPort m a other → Joined (plain_net m closed) w other → HasPortIn ports a k other
      port_only a k w other t port j = by (has_along k j (inr (as_terminal t)))
        where
          by : Has k other → HasPortIn ports a k other
          by (inl (st, wire)) = absurd (true_or_false ((terminal_of k w t).0.1) st.1)
          by (inr (as_terminal x)) = absurd (are_terminals.no_port k a other x port)
          by (inr (as_line b x)) = absurd (laws.tree.no_line_is_port b a other (laid.lines b k other x) port)
          by (inr (as_port b x)) = subst (λ z. HasPortIn ports z k other) (sym (laws.tree.port_node b other (laid.ports b k other x)) ∙ laws.tree.port_node a other port) x

      -- ---- free parts

      rest_cross : (x : ℕ) → IsFreeCross m n.rest x → IsFreeCross m d x
      rest_cross x free = record {
        itself = by (set.contains d.crosses x) refl;
        tap = ((nets.rest_is.wires (ends_of m x).0).0 free.tap).0;
        line = ((nets.rest_is.wires (ends_of m x).1).0 free.line).0;
      }
        where
          by : (b : Bool) → set.contains d.crosses x ≡ b → b ≡ false
          by false e = refl
          by true e = absurd (true_or_false ((nets.rest_is.crosses x).1 (e, free.tap, free.line)) free.itself)

      pub closed_free : (x : ℕ) → closed x ≡ true → IsFreeCross m d x
      closed_free x on = by (only x on)
        where
          by : (is_closed moved x ≡ true) ⊎ ((is_closed g x ≡ true) × IsKeptWire i n (ends_of m x).0) → IsFreeCross m d x
          by (inl e) = rest_cross x (drawn_free m n.rest (length n.lowest) terminal n.terminals ports visits laws drawn_by moved joined x e).1
          by (inr (e, (k, st, wire))) = (kept_at k st).crosses x e wire
