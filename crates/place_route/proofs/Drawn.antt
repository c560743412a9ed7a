-- Nets of lists, with ports and lines, are laid on the tree by the crosspoints that are closed for them.
use Rattle.std.proofs.Common.{◌≡◌, ◌≢◌, ◌⊎◌, ℕ, ◌*◌, ◌<◌, ◌≤◌, true, Some, None, Option, IsSome, List, length, get_or, refl, sym, ap, ◌∙◌, subst, inl, inr, arith, ◌↔◌}
use Rattle.place_route.proofs.Vocabulary.{All, BTreeMap, contains-empty, nat_cmp, false≢true, cases_lt, get_or_past, All-contains, Shape}
use Rattle.place_route.proofs.Vocabulary.{Defects, IsFreeCross, Configuration, is_closed, cleared, Port, Visit}
use Rattle.std.specs.FinSet as set
use Rattle.machine_shape.specs.Shape as meaning
use Rattle.machine_shape.specs.Vocabulary.{wires_of, crosses_of, nodes_of, node_of, parent_of, ends_of, IsLine, IsPort, IsTap, tap_pin, tap_port, tap_child, tap_table, IsNumbered, IsTree, HasParents, HasTaps, HasCrosses, HasMeanings, HasSites}
use Rattle.place_plan.specs.Vocabulary.{AreWires, AreHeld, AreVisits, HasTerminal, CrossesAt, VisitsAt, HasPort, Serves, Crosses, Visits, visit_for, port_for}
use Rattle.place_plan.specs.Room as room
use Rattle.place_route.specs.Vocabulary.{IsNetTap, by_terminal, by_child, by_port, IsLaidOnTree, AreTerminals, owner_at, AreOwners, Holds, HasLine, AreLines, line_in, Closes, IsJoint, IsNear, IsOwnedJoint, AreWiresOf, IsJoined, HasPortIn}
use Rattle.place_route.proofs.Ported.{port_of_one, port_is_port, line_of_one, net_of_one, visited_within, crossed_within, has_cross, tap_at_line}

none_some : {X : Type 0} {o : Option X} {x : X} → o ≡ None → o ≡ Some x → ⊥
none_some e f = cc

some_of : (o : Option ℕ) → IsSome o → (w : ℕ) × (o ≡ Some w)
some_of None h = absurd cc
some_of (Some w) h = (w, refl)

owned_place : (owners : List (Option ℕ)) (t k : ℕ) {n : ℕ} → length owners ≡ n → owner_at owners t ≡ Some k → t < n
owned_place owners t k {n} sized e = by (cases_lt t (length owners))
  where
    by : (t < length owners) ⊎ (length owners ≤ t) → t < n
    by (inl l) = omega (arith, sized)
    by (inr l) = absurd (none_some (get_or_past owners t None l) e)

-- what of the numbering is used
pub record Numbering (m : Shape) : Type 0 where
  pub numbered : IsNumbered m
  pub tree : IsTree m
  pub parents : HasParents m
  pub taps : HasTaps m
  pub crosses : HasCrosses m
  pub sites : HasSites m
  pub meanings : HasMeanings m

-- The nets with these lists of terminals are laid on these ports and lines.
pub record IsDrawnBy (m : Shape) (d : Defects) (count : ℕ) (terminal : ℕ → ℕ → Type 0) (nets : List (List ℕ)) (ports : List Port)
    (visits : List Visit) : Type 0 where
  pub are : AreTerminals m terminal
  pub same : (k w : ℕ) → HasTerminal nets k w ↔ terminal k w
  pub within : All (AreWires m) nets
  pub in_range : (k w : ℕ) → terminal k w → (k < count) × (w < wires_of m)
  pub at_node : (a k t : ℕ) → terminal k t → node_of m t ≡ a → IsTap m a t
  pub held_are : AreHeld m d count terminal (nodes_of m) ports
  pub visited : AreVisits m d count terminal (nodes_of m) visits

module _ (m : Shape) (d : Defects) (count : ℕ) (terminal : ℕ → ℕ → Type 0) (nets : List (List ℕ)) (ports : List Port) (visits : List Visit) (laws : Numbering m) (drawn : IsDrawnBy m d count terminal nets ports visits) where
  pub visit : (a k w : ℕ) → HasLine visits a k w → (a < nodes_of m) × VisitsAt m count terminal a k × Serves m d count terminal a k w
  visit a k w has = All-contains (λ v. (v.node.0 < nodes_of m) × VisitsAt m count terminal v.node.0 v.net.0 × Serves m d count terminal v.node.0 v.net.0 v.line.0) visits (visit_for a k w) drawn.visited.each has

  pub held : (a k w : ℕ) → HasPortIn ports a k w → (a < nodes_of m) × CrossesAt m count terminal a k × HasPort m d count terminal a k w
  held a k w has = All-contains (λ q. (q.node.0 < nodes_of m) × CrossesAt m count terminal q.node.0 q.net.0 × HasPort m d count terminal q.node.0 q.net.0 q.wire.0) ports (port_for a k w) drawn.held_are.each has

  is_line : (a k w : ℕ) → HasLine visits a k w → IsLine m a w
  is_line a k w has = (visit a k w has).2.line

  is_port : (a k w : ℕ) → HasPortIn ports a k w → IsPort m a w
  is_port a k w has = port_is_port m d count terminal a k w (held a k w has).2

  one_port : (a k l w : ℕ) → HasPortIn ports a k w → HasPortIn ports a l w → k ≡ l
  one_port a k l w x y = port_of_one m d count terminal a k l w (held a k w x).2 (held a l w y).2

  one_line : (a k l w : ℕ) → HasLine visits a k w → HasLine visits a l w → k ≡ l
  one_line = line_of_one visits drawn.visited.apart

  given : (a k : ℕ) → Visits m (terminal k) a → (w : ℕ) × HasLine visits a k w
  given a k v = drawn.visited.given a k (visited_within m laws.parents (terminal k) (λ w t. (drawn.in_range k w t).1) a v) ((drawn.in_range k v.first.wire v.first.is).0, v)

  passed : (a k : ℕ) → Crosses m (terminal k) a → (w : ℕ) × HasPortIn ports a k w
  passed a k c = drawn.held_are.given a k (crossed_within m laws.parents (terminal k) (λ w t. (drawn.in_range k w t).1) a c) ((drawn.in_range k c.inner c.inner_is).0, c)

  -- a wire is a terminal or a port of one net alone
  one_holder : (k l w : ℕ) → Holds nets ports k w → Holds nets ports l w → k ≡ l
  one_holder k l w (inl s) (inl t) = drawn.are.apart k l w ((drawn.same k w).0 s) ((drawn.same l w).0 t)
  one_holder k l w (inl s) (inr t) = absurd (drawn.are.no_port k t.0 w ((drawn.same k w).0 s) (is_port t.0 l w t.1))
  one_holder k l w (inr s) (inl t) = absurd (drawn.are.no_port l s.0 w ((drawn.same l w).0 t) (is_port s.0 k w s.1))
  one_holder k l w (inr s) (inr t) =
      let node : s.0 ≡ t.0 = sym (laws.tree.port_node s.0 w (is_port s.0 k w s.1)) ∙ laws.tree.port_node t.0 w (is_port t.0 l w t.1) in
      one_port t.0 k l w (subst (λ a. HasPortIn ports a k w) node s.1) t.1

  -- a net's tap at a node is one of the node's taps, and near to it
  is_tap : (a k t : ℕ) → IsNetTap m terminal (HasPortIn ports) a k t → IsTap m a t
  is_tap a k t (by_terminal is at) = drawn.at_node a k t is at
  is_tap a k t (by_child c e has) = tap_child c e (is_port c k t has)
  is_tap a k t (by_port has) = tap_port (is_port a k t has)

  is_near : (a k t : ℕ) → IsNetTap m terminal (HasPortIn ports) a k t → IsNear m t a
  is_near a k t (by_terminal is at) = inl at
  is_near a k t (by_child c e has) = inr (ap (parent_of m) (laws.tree.port_node c t (is_port c k t has)) ∙ e)
  is_near a k t (by_port has) = inl (laws.tree.port_node a t (is_port a k t has))

  holds : (a k t : ℕ) → IsNetTap m terminal (HasPortIn ports) a k t → Holds nets ports k t
  holds a k t (by_terminal is at) = inl ((drawn.same k t).1 is)
  holds a k t (by_child c e has) = inr (c, has)
  holds a k t (by_port has) = inr (a, has)

  tap_of_room : (a k t : ℕ) → IsNetTap m terminal (HasPortIn ports) a k t → room.IsTapOf m d count terminal a k t
  tap_of_room a k t (by_terminal is at) = room.by_terminal is at
  tap_of_room a k t (by_child c e has) = room.by_child c e (held c k t has).2
  tap_of_room a k t (by_port has) = room.by_port (held a k t has).2

  -- a terminal is no tap of the node above its own
  no_tap_above : (a k t : ℕ) → terminal k t → parent_of m (node_of m t) ≡ Some a → IsTap m a t → ⊥
  no_tap_above a k t is above (tap_pin i e l q) = none_some (ap (parent_of m) (ap (node_of m) q ∙ laws.parents.pin_node i l) ∙ laws.parents.root) above
  no_tap_above a k t is above (tap_port port) = drawn.are.no_port k a t is port
  no_tap_above a k t is above (tap_child c e port) = drawn.are.no_port k c t is port
  no_tap_above a k t is above (tap_table j i l e b q) =
      let at : node_of m t ≡ a = ap (node_of m) q ∙ laws.parents.table_node j i l b ∙ e in
      absurd (let x = laws.parents.before a a (ap (parent_of m) (sym at) ∙ above) in omega arith)

  port_within : (a k w : ℕ) → a < nodes_of m → HasPort m d count terminal a k w → w < wires_of m
  port_within a k w l has =
      let at = laws.taps.has_position a w l (tap_port (port_is_port m d count terminal a k w has)) in
      subst (λ z. z < wires_of m) at.2 (laws.taps.within a at.0 l at.1)

  line_within : (a k w : ℕ) → HasLine visits a k w → w < wires_of m
  line_within a k w has =
      let at = laws.sites.some_line a w (is_line a k w has) in
      laws.meanings.within w (meaning.Line a at.0) (meaning.is_line a at.0 (visit a k w has).0 at.1 at.2)

  -- what the steps ask for
  pub drawn_wires : AreWiresOf m nets ports visits
  drawn_wires = record {
    terminals = drawn.within;
    ports_are = λ i q l. let r = drawn.held_are.each i q l in port_within (get_or ports i q).node.0 (get_or ports i q).net.0 (get_or ports i q).wire.0 r.0 r.2;
    lines_are = line_within;
  }

  module _ (lines : BTreeMap (ℕ × ℕ) ℕ) (owners : List (Option ℕ)) (lines_are : AreLines visits lines) (owners_are : AreOwners m nets ports owners) (new : Configuration) (all : Closes (IsOwnedJoint m lines owners (wires_of m)) (2 * wires_of m) (cleared m) new) where
    -- what is known of a closed crosspoint
    joint_of : (x : ℕ) → is_closed new x ≡ true → IsOwnedJoint m lines owners (wires_of m) x
    joint_of x on = by (all.only x on)
      where
        by : (is_closed (cleared m) x ≡ true) ⊎ IsOwnedJoint m lines owners (wires_of m) x → IsOwnedJoint m lines owners (wires_of m) x
        by (inl h) = absurd (false≢true (sym (contains-empty nat_cmp x) ∙ h))
        by (inr j) = j

    tap_by : (a k t w x : ℕ) → Holds nets ports k t → IsNear m t a → HasLine visits a k w → x < crosses_of m → ends_of m x ≡ (t, w) → IsNetTap m terminal (HasPortIn ports) a k t
    tap_by a k t w x (inl h) (inl at) line l e = by_terminal ((drawn.same k t).0 h) at
    tap_by a k t w x (inl h) (inr above) line l e = absurd (no_tap_above a k t ((drawn.same k t).0 h) above (tap_at_line m laws.tree laws.taps laws.crosses laws.sites a t w x l e (is_line a k w line)))
    tap_by a k t w x (inr h) (inl at) line l e = by_port (subst (λ b. HasPortIn ports b k t) (sym (laws.tree.port_node h.0 t (is_port h.0 k t h.1)) ∙ at) h.1)
    tap_by a k t w x (inr h) (inr above) line l e = by_child h.0 (ap (parent_of m) (sym (laws.tree.port_node h.0 t (is_port h.0 k t h.1))) ∙ above) h.1

    only : (x : ℕ) → is_closed new x ≡ true → (a : ℕ) × (k : ℕ) × (w : ℕ) × (t : ℕ) × HasLine visits a k w × IsNetTap m terminal (HasPortIn ports) a k t × (ends_of m x ≡ (t, w))
    only x on =
        let j = joint_of x on in
        let t = j.0 in
        let k = j.2.0 in
        let a = j.2.2.0 in
        let w = j.2.2.2.0 in
        let line : HasLine visits a k w = lines_are.only a k w j.2.2.2.1 in
        (a, k, w, t, line, tap_by a k t w x (owners_are.only t k j.2.1) j.2.2.1 line j.2.2.2.2 j.2.2.2.3, j.2.2.2.3)

    closes : (a k w t : ℕ) → HasLine visits a k w → IsNetTap m terminal (HasPortIn ports) a k t → (x : ℕ) × (is_closed new x ≡ true) × (ends_of m x ≡ (t, w))
    closes a k w t line tap =
        let x = has_cross m laws.tree laws.taps laws.crosses laws.sites a t w (visit a k w line).0 (is_tap a k t tap) (is_line a k w line) in
        let owner = owners_are.each k t (holds a k t tap) in
        let mine : owner.0 ≡ k = one_holder owner.0 k t owner.2 (holds a k t tap) in
        let kept = some_of (line_in lines a k) (lines_are.each a k w line) in
        let line_is : kept.0 ≡ w = net_of_one visits drawn.visited.apart a k kept.0 w (lines_are.only a k kept.0 kept.1) line in
        let joint : IsJoint m lines a k t x.0 = (w, kept.1 ∙ ap Some line_is, x.1, x.2) in
        (x.0, all.each x.0 (t, tap_within a k t tap, (k, owner.1 ∙ ap Some mine, (a, is_near a k t tap, joint))), x.2)
      where
        tap_within : (a k t : ℕ) → IsNetTap m terminal (HasPortIn ports) a k t → t < wires_of m
        tap_within a k t tap = owned_within (owners_are.each k t (holds a k t tap))
          where
            owned_within : (l : ℕ) × (owner_at owners t ≡ Some l) × Holds nets ports l t → t < wires_of m
            owned_within r = owned_place owners t r.0 owners_are.sized r.1

    lists_laid : IsLaidOnTree m terminal (is_closed new) (HasLine visits) (HasPortIn ports)
    lists_laid = record {
      given = given;
      lines = is_line;
      lines_apart = one_line;
      passed = passed;
      ports = is_port;
      ports_apart = one_port;
      closes = closes;
      only = only;
    }

    lists_free : (x : ℕ) → is_closed new x ≡ true → (x < crosses_of m) × IsFreeCross m d x
    lists_free x on =
        let j = joint_of x on in
        let r = only x on in
        (j.2.2.2.2, (visit r.0 r.1 r.2 r.4).2.crosses r.3 x (tap_of_room r.0 r.1 r.3 r.5) j.2.2.2.2 r.6)

  -- the steps together
  pub drawn_laid : (new : Configuration) → IsJoined m nets ports visits new → IsLaidOnTree m terminal (is_closed new) (HasLine visits) (HasPortIn ports)
  drawn_laid new j = lists_laid j.lines j.owners j.are_lines j.are_owners new j.closed

  pub drawn_free : (new : Configuration) → IsJoined m nets ports visits new → (x : ℕ) → is_closed new x ≡ true → (x < crosses_of m) × IsFreeCross m d x
  drawn_free new j = lists_free j.lines j.owners j.are_lines j.are_owners new j.closed
