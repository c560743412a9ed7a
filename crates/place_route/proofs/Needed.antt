-- A route closes and switches on nothing idle, where its plan fits.
use Rattle.place_route.proofs.Vocabulary.{◌≡◌, ℕ, ◌<◌, true, subst, All-contains, Shape, nodes_of, ends_of, IsNumbered, HasParents, Defects}
use Rattle.place_route.proofs.Vocabulary.{is_closed, ImageValue, Network, IsNetwork, Plan, terminal_within}
use Rattle.place_plan.specs.Vocabulary.{Fits, IsPlan, IsTerminal, nets_in, CrossesAt, HasPort, port_for}
use Rattle.place_plan.specs.Room as room
use Rattle.place_route.specs.Vocabulary.{IsNetTap, by_terminal, by_child, by_port, HasLine, HasPortIn, IsRouteOf, IsRoutedFor}
use Rattle.place_route.proofs.Ported.{same_port, crossed_within}

module _ (numbered : (m : Shape) → IsNumbered m) (parents : (m : Shape) → HasParents m) (m : Shape) (d : Defects) (n : Network) (p : Plan) (i : ImageValue) (network : IsNetwork n) (plan : IsPlan m d n p) (is : IsRouteOf m d n p i) where
  abbrev terminal : ℕ → ℕ → Type 0
  terminal = IsTerminal m n p

  abbrev count : ℕ
  count = nets_in n

  -- the ports that nets have are those that room gives them
  has : (a k w : ℕ) → HasPortIn is.ports a k w → HasPort m d count terminal a k w
  has a k w at = (All-contains (λ q. (q.node.0 < nodes_of m) × CrossesAt m count terminal q.node.0 q.net.0 × HasPort m d count terminal q.node.0 q.net.0 q.wire.0) is.ports (port_for a k w) is.held.each at).2

  crosses : (a k w : ℕ) → HasPort m d count terminal a k w → CrossesAt m count terminal a k
  crosses a k w port = subst (CrossesAt m count terminal a) port.net_is.1 (port.are_crossing.only port.place 0 port.net_is.0)

  given : (a k w : ℕ) → HasPort m d count terminal a k w → HasPortIn is.ports a k w
  given a k w port =
      let c = crosses a k w port in
      let within : a < nodes_of m = crossed_within m (parents m) (terminal k) (λ u t. terminal_within m d n p network plan (numbered m) k u t) a c.1 in
      let got = is.held.given a k within c in
      subst (HasPortIn is.ports a k) (same_port m d count terminal a k got.0 w (has a k got.0 got.1) port) got.1

  tap_in : (a k t : ℕ) → room.IsTapOf m d count terminal a k t → IsNetTap m terminal (HasPortIn is.ports) a k t
  tap_in a k t (room.by_terminal it at) = by_terminal it at
  tap_in a k t (room.by_child c e port) = by_child c e (given c k t port)
  tap_in a k t (room.by_port port) = by_port (given a k t port)

  tap_of : (a k t : ℕ) → IsNetTap m terminal (HasPortIn is.ports) a k t → room.IsTapOf m d count terminal a k t
  tap_of a k t (by_terminal it at) = room.by_terminal it at
  tap_of a k t (by_child c e port) = room.by_child c e (has c k t port)
  tap_of a k t (by_port port) = room.by_port (has a k t port)

  only : (x : ℕ) → is_closed i.config x ≡ true → (a : ℕ) × (k : ℕ) × (w : ℕ) × (t : ℕ) × HasLine is.visits a k w
      × room.IsTapOf m d count terminal a k t × (ends_of m x ≡ (t, w))
  only x on =
      let r = is.routed.laid.only x on in
      (r.0, r.1, r.2, r.3, r.4, tap_of r.0 r.1 r.3 r.5, r.6)

  pub nothing_idle : Fits m d n p → IsRoutedFor m d n p i
  nothing_idle fits = record {
    plan = plan;
    fits = fits;
    shape = is.routed.shape;
    inputs = is.inputs;
    outputs = is.outputs;
    on = λ j l. is.routed.sets.settings j l;
    no_others = λ t on. is.routed.sets.no_others t on;
    lines = is.visits;
    served = is.visited;
    closed = λ a k w t line tap. is.routed.laid.closes a k w t line (tap_in a k t tap);
    only = only;
    ticks = is.ticks;
  }
