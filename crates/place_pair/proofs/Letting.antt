-- What a tenant has of a routed whole: a plan and a layout of its own network.
use Rattle.std.proofs.Common.{◌≡◌, ◌≢◌, ◌⊎◌, ℕ, ◌+◌, ◌-◌, ◌<◌, ◌≤◌, ◌++◌, true, Some, None, Option, List, length, get_or, refl, sym, ap, ◌∙◌, subst, inl, inr, arith, IsSome}
use Rattle.place_pair.proofs.Vocabulary.{All, AllPairs, Contains, cases_lt, All-contains, Shape, Faults, Defects, IsFreeWire, IsFreeCross}
use Rattle.place_pair.proofs.Vocabulary.{IsFreeTable, Covers, is_closed, setting_of, ImageValue, IsFreeImage, Uses, at_pin, at_tap, at_line}
use Rattle.place_pair.proofs.Vocabulary.{at_table, Input, Table, NetTable, Network, table_at, IsNetwork, IsDeepest, Layout, Plan, Port}
use Rattle.place_pair.proofs.Vocabulary.{different_at, ticks_enough, Site, part, moved, HasPinsOf, StandsIn, Owns, IsTenant}
use Rattle.std.proofs.lemmas.List.{get_or-map, get_or_append_left, get_or-append_right, get_or_default, length-append, length-map}
use Rattle.machine_shape.specs.declared.Table as hierarchy
use Rattle.machine_shape.specs.Vocabulary.{nodes_of, tables_of, pins_of, crosses_of, ends_of, pin_wire, table_wire, IsLine, IsPort, IsNumbered, IsTree}
use Rattle.place_plan.specs.declared.short.Visit.{Visit}
use Rattle.place_plan.specs.Vocabulary.{IsLayout, AreHeld, nth_of, number_of, places, place_of, nets_in, IsTerminal, drives, reads, shows, IsPlan, HasPort, CrossesAt, VisitsAt, Serves, Crosses, Visits, port_for, visit_for}
use Rattle.place_route.specs.Vocabulary.{no_seat, IsSet, image_at, setting_in, AreOwners, Holds, HasLine, IsRightForNetwork, HasPortIn, IsRouteOf, IsNetTap, by_terminal, by_child, by_port, IsLaidOnTree, IsOfNet, as_terminal, as_line, as_port}
use Rattle.place_route.proofs.OnTree.{nets_apart}
use Rattle.place_route.proofs.Ported.{same_port}
use Rattle.place_route.proofs.Routed.{set_is_free, tree_reads_rows}
use Rattle.place_route.proofs.Terminals.{plan_terminals, no_idle_terminal}
use Rattle.place_pair.proofs.Lists.{length_part, map_part, all_part, pairs_part, all_pins, pairs_pins}
use Rattle.place_pair.proofs.Behaving.{table_there, within_there, deep_there}
use Rattle.place_pair.proofs.Owning.{plan_of, IsNet, net_one, one_net_of, owns_net, net_owned, seat, terminal_there, terminal_back}

-- a whole that was routed on a layout, with the owners of its wires
pub record Ground (m : Shape) (d : Defects) (joint : Network) (p : Plan) (l : Layout) (owners : List (Option ℕ)) (whole : ImageValue) : Type 0 where
  pub numbered : (m : Shape) → IsNumbered m
  pub tree : (m : Shape) → IsTree m
  pub network : IsNetwork joint
  pub plan : IsPlan m d joint p
  pub layout : IsLayout m d joint p l
  pub owners_are : AreOwners m l.nets.items l.ports.items owners
  pub route : IsRouteOf m d joint p whole

-- ---- a net has one port of a node, so two lists of ports are alike

module _ (m : Shape) (d : Defects) (count : ℕ) (terminal : ℕ → ℕ → Type 0) where
  held_too : (nodes : ℕ) (ports others : List Port) → AreHeld m d count terminal nodes ports → AreHeld m d count terminal nodes others → (a k w : ℕ) → HasPortIn ports a k w → HasPortIn others a k w
  held_too nodes ports others are is a k w has =
      let r = All-contains (λ (q : Port). (q.node.0 < nodes) × CrossesAt m count terminal q.node.0 q.net.0 × HasPort m d count terminal q.node.0 q.net.0 q.wire.0) ports (port_for a k w) are.each has in
      let g = is.given a k r.0 r.1 in
      let h = All-contains (λ (q : Port). (q.node.0 < nodes) × CrossesAt m count terminal q.node.0 q.net.0 × HasPort m d count terminal q.node.0 q.net.0 q.wire.0) others (port_for a k g.0) is.each g.1 in
      subst (HasPortIn others a k) (same_port m d count terminal a k g.0 w h.2 r.2) g.1

module _ (m : Shape) (d : Defects) (joint : Network) (p : Plan) (l : Layout) (owners : List (Option ℕ)) (whole : ImageValue) (ground : Ground m d joint p l owners whole) where
  -- the wires of a net of the whole
  abbrev pub Has : ℕ → ℕ → Type 0
  Has k w = IsOfNet (IsTerminal m joint p) (HasLine ground.route.visits) (HasPortIn ground.route.ports) k w

  laid : IsLaidOnTree m (IsTerminal m joint p) (is_closed whole.config) (HasLine ground.route.visits) (HasPortIn ground.route.ports)
  laid = ground.route.routed.laid

  pub one_has : (k q w : ℕ) → Has k w → Has q w → k ≡ q
  one_has k q w a b = nets_apart m (ground.tree m) (IsTerminal m joint p) (is_closed whole.config) (HasLine ground.route.visits) (HasPortIn ground.route.ports) laid
      (plan_terminals m d joint p (ground.numbered m) (ground.tree m) ground.network ground.plan) k q w a b

  placed : (j : ℕ) → j < length joint.tables → j < length (places p)
  placed j h = let e = ground.plan.tables in let f = length-map p.tables number_of in omega (arith, h, e, f)

  pub one_place : (i j : ℕ) → i < length joint.tables → j < length joint.tables → place_of p i ≡ place_of p j → i ≡ j
  one_place i j h k e = different_at (places p) ground.plan.tables_different i j (placed i h) (placed j k) e

  pub place_within : (j : ℕ) → j < length joint.tables → place_of p j < tables_of m
  place_within j h = ground.plan.tables_within j 0 (placed j h)

  -- by the layout's lists
  of_holds : (k w : ℕ) → Holds l.nets.items l.ports.items k w → Has k w
  of_holds k w (inl h) = as_terminal ((ground.layout.nets.same k w).0 h)
  of_holds k w (inr h) = as_port h.0 (held_too m d (nets_in joint) (IsTerminal m joint p) (nodes_of m) l.ports.items ground.route.ports ground.layout.held ground.route.held h.0 k w h.1)

  holds : (a k t : ℕ) → IsNetTap m (IsTerminal m joint p) (HasPortIn ground.route.ports) a k t → Holds l.nets.items l.ports.items k t
  holds a k t (by_terminal is at) = inl ((ground.layout.nets.same k t).1 is)
  holds a k t (by_child c e has) = inr (c, held_too m d (nets_in joint) (IsTerminal m joint p) (nodes_of m) ground.route.ports l.ports.items ground.route.held ground.layout.held c k t has)
  holds a k t (by_port has) = inr (a, held_too m d (nets_in joint) (IsTerminal m joint p) (nodes_of m) ground.route.ports l.ports.items ground.route.held ground.layout.held a k t has)

  tap_has : (a k t : ℕ) → IsNetTap m (IsTerminal m joint p) (HasPortIn ground.route.ports) a k t → Has k t
  tap_has a k t tap = of_holds k t (holds a k t tap)

  -- what the whole's closed crosspoints are
  pub record Joint (x : ℕ) : Type 0 where
    pub node : ℕ
    pub net : ℕ
    pub line : ℕ
    pub tap : ℕ
    pub has_line : HasLine ground.route.visits node net line
    pub is_tap : IsNetTap m (IsTerminal m joint p) (HasPortIn ground.route.ports) node net tap
    pub ends : ends_of m x ≡ (tap, line)

  pub joint_of : (x : ℕ) → is_closed whole.config x ≡ true → Joint x
  joint_of x on = let r = laid.only x on in record { node = r.0; net = r.1; line = r.2; tap = r.3; has_line = r.4; is_tap = r.5; ends = r.6 }

  shape_is : whole.config.shape ≡ m
  shape_is = ground.route.routed.shape

  whole_ends : (x t w : ℕ) → ends_of m x ≡ (t, w) → (ends_of whole.config.shape x).0 ≡ t
  whole_ends x t w e = ap (λ z. (ends_of z x).0) shape_is ∙ ap (λ (q : ℕ × ℕ). q.0) e

  pub net_within : (a k w : ℕ) → HasLine ground.route.visits a k w → k < nets_in joint
  net_within a k w has = (All-contains (λ (v : Visit). (v.node.0 < nodes_of m) × VisitsAt m (nets_in joint) (IsTerminal m joint p) v.node.0 v.net.0 × Serves m d (nets_in joint) (IsTerminal m joint p) v.node.0 v.net.0 v.line.0) ground.route.visits (visit_for a k w) ground.route.visited.each has).1.0

  -- a table's pin that nothing is read at is of no net
  idle : (j c : ℕ) → j < length joint.tables → length (table_at joint j).ins ≤ c → c < 6 → (k w : ℕ) → Has k w → w ≡ table_wire m (place_of p j) c → ⊥
  idle j c h g b k w (as_terminal t) e = no_idle_terminal m d joint p (ground.numbered m) (ground.tree m) ground.network ground.plan k j c h g b (subst (IsTerminal m joint p k) e t)
  idle j c h g b k w (as_line i v) e = (ground.tree m).no_table_is_line (place_of p j) c i (place_within j h) (omega (arith, b)) (subst (IsLine m i) e (laid.lines i k w v))
  idle j c h g b k w (as_port i v) e = (ground.tree m).no_table_is_port (place_of p j) c i (place_within j h) (omega (arith, b)) (subst (IsPort m i) e (laid.ports i k w v))

  module _ (s : Site) (n : Network) (stands : StandsIn s n joint) (net : IsNetwork n) (i : ImageValue) (tenant : IsTenant s n p owners whole i) where
    -- its plan
    pub own_plan : IsPlan m d n (plan_of s n p)
    own_plan = record {
      tables = length_part s.table (length n.tables) p.tables tables;
      inputs = length_part s.input n.inputs p.inputs inputs;
      outputs = length_part s.output (length n.outputs) p.outputs outputs;
      tables_within = subst (All (λ t. t < tables_of m)) (map_part number_of s.table (length n.tables) p.tables) (all_part (λ t. t < tables_of m) s.table (length n.tables) (places p) seats ground.plan.tables_within);
      pins_within = all_pins s.input n.inputs s.output (length n.outputs) p.inputs p.outputs inputs outputs (λ k. k < pins_of m) ground.plan.pins_within;
      tables_free = subst (All (IsFreeTable m d)) (map_part number_of s.table (length n.tables) p.tables) (all_part (IsFreeTable m d) s.table (length n.tables) (places p) seats ground.plan.tables_free);
      pins_free = all_pins s.input n.inputs s.output (length n.outputs) p.inputs p.outputs inputs outputs (λ k. IsFreeWire d (pin_wire m k)) ground.plan.pins_free;
      tables_different = subst (AllPairs (λ t u. t ≢ u)) (map_part number_of s.table (length n.tables) p.tables) (pairs_part (λ t u. t ≢ u) s.table (length n.tables) (places p) seats ground.plan.tables_different);
      pins_different = pairs_pins s.input n.inputs s.output (length n.outputs) p.inputs p.outputs inputs outputs ground.plan.pins_different;
    }
      where
        tables : s.table + length n.tables ≤ length p.tables
        tables = let e = ground.plan.tables in let f = stands.tables_within in omega (arith, e, f)

        seats : s.table + length n.tables ≤ length (places p)
        seats = let e = length-map p.tables number_of in let f = tables in omega (arith, e, f)

        inputs : s.input + n.inputs ≤ length p.inputs
        inputs = let e = ground.plan.inputs in let f = stands.inputs in omega (arith, e, f)

        outputs : s.output + length n.outputs ≤ length p.outputs
        outputs = let e = ground.plan.outputs in let f = stands.outputs_within in omega (arith, e, f)

    back : m ≡ i.config.shape
    back = sym (tenant.share.shape ∙ shape_is)

    -- its tables are on, each as its network has it
    seat_is : (j : ℕ) → j < length n.tables → (get_or (plan_of s n p).tables j no_seat).0 ≡ place_of (plan_of s n p) j
    seat_is j h = sym (get_or-map number_of (plan_of s n p).tables j no_seat 0 (let e = own_plan.tables in omega (arith, h, e)))

    own_set : IsSet d n (plan_of s n p) i.config
    own_set = record {
      settings = λ j h. subst (λ t. setting_of i.config t ≡ Some (setting_in (table_at n j))) (seat_is j h) (tenant.share.on j h);
      no_others = λ t on. let r = tenant.share.others t on in (r.0, r.1, sym (seat_is r.0 r.1) ∙ r.2);
      crosses = λ x on. subst (λ z. (x < crosses_of z) × IsFreeCross z d x) (sym tenant.share.shape) (ground.route.routed.sets.crosses x (tenant.share.only x on).0);
    }

    -- the net of a crosspoint that it has is one of its own
    net_here : (x : ℕ) → is_closed i.config x ≡ true → (c : Joint x) × Owns s n c.net
    net_here x on =
        let r = tenant.share.only x on in
        let c = joint_of x r.0 in
        let has : Has r.1.0 c.tap = of_holds r.1.0 c.tap (subst (Holds l.nets.items l.ports.items r.1.0) (whole_ends x c.tap c.line c.ends) (ground.owners_are.only (ends_of whole.config.shape x).0 r.1.0 r.1.1)) in
        (c, subst (Owns s n) (one_has r.1.0 c.net c.tap has (tap_has c.node c.net c.tap c.is_tap)) r.1.2)

    -- and it has each of those
    pub here_net : (x : ℕ) → is_closed whole.config x ≡ true → (c : Joint x) → Owns s n c.net → is_closed i.config x ≡ true
    here_net x on c owns =
        let r = ground.owners_are.each c.net c.tap (holds c.node c.net c.tap c.is_tap) in
        let same : c.net ≡ r.0 = one_has c.net r.0 c.tap (tap_has c.node c.net c.tap c.is_tap) (of_holds r.0 c.tap r.2) in
        tenant.share.each x on (r.0, ap (λ z. get_or owners z None) (whole_ends x c.tap c.line c.ends) ∙ r.1, subst (Owns s n) same owns)

    -- its lines and ports, by its own net numbers
    abbrev Line : ℕ → ℕ → ℕ → Type 0
    Line a k w = (b : ℕ) × IsNet s n k b × HasLine ground.route.visits a b w

    abbrev Port_ : ℕ → ℕ → ℕ → Type 0
    Port_ a k w = (b : ℕ) × IsNet s n k b × HasPortIn ground.route.ports a b w

    there : {k w : ℕ} → IsTerminal m n (plan_of s n p) k w → (b : ℕ) × IsNet s n k b × IsTerminal m joint p b w
    there t = terminal_there s n joint stands m d p net ground.network t

    net_is : (k b c : ℕ) → IsNet s n k b → IsNet s n k c → b ≡ c
    net_is = net_one s n joint stands

    visits_there : (a k : ℕ) → Visits m (IsTerminal m n (plan_of s n p) k) a → (b : ℕ) × IsNet s n k b × Visits m (IsTerminal m joint p b) a
    visits_there a k v =
        let f = there v.first.is in
        let g = there v.second.is in (
          f.0,
          f.1,
          record {
            one = v.one;
            two = v.two;
            different = v.different;
            first = record { wire = v.first.wire; is = f.2; at = v.first.at };
            second = record { wire = v.second.wire; is = subst (λ b. IsTerminal m joint p b v.second.wire) (net_is k g.0 f.0 g.1 f.1) g.2; at = v.second.at };
          },
        )

    crosses_there : (a k : ℕ) → Crosses m (IsTerminal m n (plan_of s n p) k) a → (b : ℕ) × IsNet s n k b × Crosses m (IsTerminal m joint p b) a
    crosses_there a k v =
        let f = there v.inner_is in
        let g = there v.outer_is in (
          f.0,
          f.1,
          record {
            inner = v.inner;
            outer = v.outer;
            inner_is = f.2;
            outer_is = subst (λ b. IsTerminal m joint p b v.outer) (net_is k g.0 f.0 g.1 f.1) g.2;
            inside = v.inside;
            not_inside = v.not_inside;
          },
        )

    tap_there : (a k b t : ℕ) → IsNet s n k b → IsNetTap m (IsTerminal m n (plan_of s n p)) Port_ a k t → IsNetTap m (IsTerminal m joint p) (HasPortIn ground.route.ports) a b t
    tap_there a k b t is (by_terminal mine at) = let f = there mine in by_terminal (subst (λ c. IsTerminal m joint p c t) (net_is k f.0 b f.1 is) f.2) at
    tap_there a k b t is (by_child c e has) = by_child c e (subst (λ z. HasPortIn ground.route.ports c z t) (net_is k has.0 b has.1 is) has.2)
    tap_there a k b t is (by_port has) = by_port (subst (λ z. HasPortIn ground.route.ports a z t) (net_is k has.0 b has.1 is) has.2)

    tap_back : (a k b t : ℕ) → IsNet s n k b → IsNetTap m (IsTerminal m joint p) (HasPortIn ground.route.ports) a b t → IsNetTap m (IsTerminal m n (plan_of s n p)) Port_ a k t
    tap_back a k b t is (by_terminal theirs at) = by_terminal (terminal_back s n joint stands m d p net ground.network theirs k is) at
    tap_back a k b t is (by_child c e has) = by_child c e (b, is, has)
    tap_back a k b t is (by_port has) = by_port (b, is, has)

    own_closes : (a k w t : ℕ) → Line a k w → IsNetTap m (IsTerminal m n (plan_of s n p)) Port_ a k t → (x : ℕ) × (is_closed i.config x ≡ true) × (ends_of m x ≡ (t, w))
    own_closes a k w t line tap =
        let theirs = tap_there a k line.0 t line.1 tap in
        let r = laid.closes a line.0 w t line.2 theirs in
        (r.0, here_net r.0 r.1 (record { node = a; net = line.0; line = w; tap = t; has_line = line.2; is_tap = theirs; ends = r.2 }) (owns_net s n joint stands k line.0 line.1), r.2)

    own_only : (x : ℕ) → is_closed i.config x ≡ true → (a : ℕ) × (k : ℕ) × (w : ℕ) × (t : ℕ) × Line a k w × IsNetTap m (IsTerminal m n (plan_of s n p)) Port_ a k t × (ends_of m x ≡ (t, w))
    own_only x on =
        let r = net_here x on in
        let c = r.0 in
        let k = net_owned s n joint stands c.net r.1 in
        (c.node, k.0, c.line, c.tap, (c.net, k.1, c.has_line), tap_back c.node k.0 c.net c.tap k.1 c.is_tap, c.ends)

    own_laid : IsLaidOnTree m (IsTerminal m n (plan_of s n p)) (is_closed i.config) Line Port_
    own_laid = record {
      given = λ a k v. let r = visits_there a k v in let g = laid.given a r.0 r.2 in (g.0, (r.0, r.1, g.1));
      lines = λ a k w line. laid.lines a line.0 w line.2;
      lines_apart = λ a k b w x y. one_net_of s n joint stands k b x.0 x.1 (subst (IsNet s n b) (sym (laid.lines_apart a x.0 y.0 w x.2 y.2)) y.1);
      passed = λ a k v. let r = crosses_there a k v in let g = laid.passed a r.0 r.2 in (g.0, (r.0, r.1, g.1));
      ports = λ a k w port. laid.ports a port.0 w port.2;
      ports_apart = λ a k b w x y. one_net_of s n joint stands k b x.0 x.1 (subst (IsNet s n b) (sym (laid.ports_apart a x.0 y.0 w x.2 y.2)) y.1);
      closes = own_closes;
      only = own_only;
    }

    its : image_at (plan_of s n p) i.config ≡ i
    its = λ j. record { config = i.config; inputs = sym (tenant.inputs ∙ ap (part s.input n.inputs) ground.route.inputs) j; outputs = sym (tenant.outputs ∙ ap (part s.output (length n.outputs)) ground.route.outputs) j }

    plan_here : IsPlan i.config.shape d n (plan_of s n p)
    plan_here = subst (λ z. IsPlan z d n (plan_of s n p)) back own_plan

    -- it touches only what is free
    pub tenant_free : IsFreeImage d i
    tenant_free = subst (IsFreeImage d) its (set_is_free d n (plan_of s n p) i.config plan_here own_set)

    -- and reads its network's rows
    pub tenant_reads : (f : Faults) → Covers m d f → IsRightForNetwork f i n
    tenant_reads f covers = subst (λ z. IsRightForNetwork f z n) its
        (tree_reads_rows d n (plan_of s n p) i.config plan_here Line Port_ (ground.numbered i.config.shape) (ground.tree i.config.shape) net
        (subst (λ z. IsLaidOnTree z (IsTerminal z n (plan_of s n p)) (is_closed i.config) Line Port_) back own_laid) f own_set
        (subst (IsDeepest n) (sym tenant.share.ticks) (deep_there s n joint stands net whole.config.ticks (ticks_enough joint whole.config.ticks ground.route.ticks)))
        (subst (λ z. Covers z d f) back covers))

    -- ---- the wires that it uses

    -- the wire is of a net of its own, or of one of its tables
    abbrev pub IsIts : ℕ → Type 0
    IsIts w = ((k : ℕ) × Owns s n k × Has k w) ⊎ ((j : ℕ) × (j < length n.tables) × (c : ℕ) × (c < 7) × (w ≡ table_wire m (place_of p (s.table + j)) c))

    its_terminal : {k w : ℕ} → IsTerminal m n (plan_of s n p) k w → (b : ℕ) × Owns s n b × Has b w
    its_terminal {k} t = let f = there t in (f.0, owns_net s n joint stands k f.0 f.1, as_terminal f.2)

    -- a pin of a table of its own is of one of its nets, or of none
    pub table_pin : (j c : ℕ) → j < length n.tables → c < 7 → ((k : ℕ) × Owns s n k × Has k (table_wire m (place_of p (s.table + j)) c)) ⊎ ((k : ℕ) → ¬ Has k (table_wire m (place_of p (s.table + j)) c))
    table_pin j c h b = by (cases_lt c (length (table_at n j).ins)) (cases_lt c 6)
      where
        to : {k : ℕ} → IsTerminal m n (plan_of s n p) k (table_wire m (place_of (plan_of s n p) j) c) → (k : ℕ) × Owns s n k × Has k (table_wire m (place_of p (s.table + j)) c)
        to t = let r = its_terminal t in (r.0, r.1, subst (λ z. Has r.0 (table_wire m z c)) (seat s n joint stands m d p net ground.network j h) r.2)

        wide : length (table_at joint (s.table + j)).ins ≡ length (table_at n j).ins
        wide = ap (λ (t : NetTable). length t.ins) (table_there s n joint stands net j h) ∙ length-map (table_at n j).ins (moved s.input s.table)

        by : (c < length (table_at n j).ins) ⊎ (length (table_at n j).ins ≤ c) → (c < 6) ⊎ (6 ≤ c) → ((k : ℕ) × Owns s n k × Has k (table_wire m (place_of p (s.table + j)) c)) ⊎ ((k : ℕ) → ¬ Has k (table_wire m (place_of p (s.table + j)) c))
        by (inl r) x = inl (to (reads j c (get_or (table_at n j).ins c (Input 0)) h r (get_or_default (table_at n j).ins c (get_or (table_at n j).ins c (Input 0)) (Input 0) r)))
        by (inr r) (inl x) = inr (λ k has. idle (s.table + j) c (within_there s n joint stands net j h) (let e = wide in omega (arith, r, e)) x k _ has refl)
        by (inr r) (inr x) = inl (last (let e : c ≡ 6 = omega (arith, b, x) in e))
          where
            last : c ≡ 6 → (k : ℕ) × Owns s n k × Has k (table_wire m (place_of p (s.table + j)) c)
            last e =
                let r = its_terminal (drives (Table j) h) in
                (r.0, r.1, subst (λ z. Has r.0 (table_wire m (place_of p (s.table + j)) z)) (sym e) (subst (λ z. Has r.0 (table_wire m z 6)) (seat s n joint stands m d p net ground.network j h) r.2))

    to_shape : i.config.shape ≡ m
    to_shape = sym back

    ins : i.inputs ≡ (plan_of s n p).inputs
    ins = tenant.inputs ∙ ap (part s.input n.inputs) ground.route.inputs

    outs : i.outputs ≡ (plan_of s n p).outputs
    outs = tenant.outputs ∙ ap (part s.output (length n.outputs)) ground.route.outputs

    pub own_pins : HasPinsOf n i
    own_pins = record { inputs = ap length ins ∙ own_plan.inputs; outputs = ap length outs ∙ own_plan.outputs }

    pin_its : (k : ℕ) → Contains (i.inputs ++ i.outputs) k → (b : ℕ) × Owns s n b × Has b (pin_wire m k)
    pin_its k has = by (cases_lt has.0 (length i.inputs))
      where
        found : {b u w : ℕ} → u ≡ w → IsTerminal m n (plan_of s n p) b (pin_wire m u) → (b : ℕ) × Owns s n b × Has b (pin_wire m w)
        found e t = let r = its_terminal t in (r.0, r.1, subst (λ z. Has r.0 (pin_wire m z)) e r.2)

        by : (has.0 < length i.inputs) ⊎ (length i.inputs ≤ has.0) → (b : ℕ) × Owns s n b × Has b (pin_wire m k)
        by (inl h) =
            let at : nth_of (plan_of s n p).inputs has.0 ≡ k = ap (λ xs. get_or xs has.0 0) (sym ins) ∙ get_or_default i.inputs has.0 0 k h ∙ sym (get_or_append_left i.inputs i.outputs k has.0 h) ∙ has.2 in
            found at (drives (Input has.0) (let e = own_pins.inputs in omega (arith, h, e)))
        by (inr h) =
            let o = has.0 - length i.inputs in
            let lo : has.0 - length i.inputs < length i.outputs = let e = length-append i.inputs i.outputs in let g = has.1 in omega (arith, g, h, e) in
            let ln : has.0 - length i.inputs < length n.outputs = let e = own_pins.outputs in omega (arith, lo, e) in
            let at : nth_of (plan_of s n p).outputs (has.0 - length i.inputs) ≡ k = ap (λ xs. get_or xs (has.0 - length i.inputs) 0) (sym outs) ∙ get_or_default i.outputs (has.0 - length i.inputs) 0 k lo ∙ sym (get_or-append_right i.inputs i.outputs (length i.inputs) has.0 k refl h) ∙ has.2 in
            found at (shows (has.0 - length i.inputs) (get_or n.outputs (has.0 - length i.inputs) (Input 0)) ln (get_or_default n.outputs (has.0 - length i.inputs) (get_or n.outputs (has.0 - length i.inputs) (Input 0)) (Input 0) ln))

    pub uses_its : (w : ℕ) → Uses i w → IsIts w
    uses_its w (at_pin k has e) = let r = pin_its k has in inl (r.0, r.1, subst (Has r.0) (ap (λ z. pin_wire z k) (sym to_shape) ∙ sym e) r.2)
    uses_its w (at_tap x on e) =
        let r = net_here x on in
        let c = r.0 in
        inl (c.net, r.1, subst (Has c.net) (sym (e ∙ ap (λ z. (ends_of z x).0) to_shape ∙ ap (λ (q : ℕ × ℕ). q.0) c.ends)) (tap_has c.node c.net c.tap c.is_tap))
    uses_its w (at_line x on e) =
        let r = net_here x on in
        let c = r.0 in
        inl (c.net, r.1, subst (Has c.net) (sym (e ∙ ap (λ z. (ends_of z x).1) to_shape ∙ ap (λ (q : ℕ × ℕ). q.1) c.ends)) (as_line c.node c.has_line))
    uses_its w (at_table t c on b e) =
        let r = own_set.no_others t on in
        inr (r.0, r.1, c, b, e ∙ ap (λ z. table_wire z t c) to_shape ∙ ap (λ z. table_wire m z c) (sym (sym (seat s n joint stands m d p net ground.network r.0 r.1) ∙ r.2)))

    -- its tables do what they do in the whole
    pub same_setting : (j : ℕ) → j < length n.tables → setting_of i.config (place_of p (s.table + j)) ≡ setting_of whole.config (place_of p (s.table + j))
    same_setting j h =
        ap (setting_of i.config) (sym (seat s n joint stands m d p net ground.network j h)) ∙ own_set.settings j h
        ∙ sym (ground.route.routed.sets.settings (s.table + j) (within_there s n joint stands net j h) ∙ ap (λ (t : NetTable). Some (setting_in t)) (table_there s n joint stands net j h))

    pub table_its : (t : ℕ) → IsSome (setting_of i.config t) → (j : ℕ) × (j < length n.tables) × (place_of p (s.table + j) ≡ t)
    table_its t on = let r = own_set.no_others t on in (r.0, r.1, sym (seat s n joint stands m d p net ground.network r.0 r.1) ∙ r.2)
