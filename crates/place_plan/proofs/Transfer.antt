-- Nets with the same terminals have the same room.
use Rattle.place_plan.proofs.Vocabulary.{ℕ, ◌<◌, List, Contains, All-weaker, Shape, Defects, Need, Port, Resource, Short, Visit, NetSide}
use Rattle.place_plan.specs.Vocabulary.{Pick, AreThose, IsStrand, Crosses, Visits, CrossesAt, VisitsAt, HasPort, IsTapOf, by_terminal, by_child, by_port, Serves, ArePorts, PortsSuffice, IsChoiceAt, AreShort, NodeSuffices, IsShortOf, Suffices, AreVisits, AreHeld}
use Rattle.place_plan.specs.declared.short.Resource.TheVariants.{Tables, Pins, Ports, Lines}
use Rattle.place_plan.proofs.Those.{those_same}

module _ (m : Shape) (A B : ℕ → ℕ → Type 0) (to : (k w : ℕ) → A k w → B k w) where
  strand : (k n : ℕ) (s : NetSide) → IsStrand m (A k) n s → IsStrand m (B k) n s
  strand k n s is = record { wire = is.wire; is = to k is.wire is.is; at = is.at }

  pub crosses_on : (k n : ℕ) → Crosses m (A k) n → Crosses m (B k) n
  crosses_on k n x = record { inner = x.inner; outer = x.outer; inner_is = to k x.inner x.inner_is; outer_is = to k x.outer x.outer_is; inside = x.inside; not_inside = x.not_inside }

  pub visits_on : (k n : ℕ) → Visits m (A k) n → Visits m (B k) n
  visits_on k n v = record { one = v.one; two = v.two; different = v.different; first = strand k n v.one v.first; second = strand k n v.two v.second }

-- what doesn't ask which nets ask
module _ (m : Shape) (d : Defects) (count : ℕ) (A B : ℕ → ℕ → Type 0) (to : (k w : ℕ) → A k w → B k w) (from : (k w : ℕ) → B k w → A k w) where
  pub those_on : (n : ℕ) (ks : List ℕ) → AreThose (CrossesAt m count A n) ks → AreThose (CrossesAt m count B n) ks
  those_on n ks are = those_same (CrossesAt m count A n) (CrossesAt m count B n) ks are (λ k x. (x.0, crosses_on m A B to k n x.1)) (λ k x. (x.0, crosses_on m B A from k n x.1))

  pub port_on : (n k w : ℕ) → HasPort m d count A n k w → HasPort m d count B n k w
  port_on n k w is = record { crossing = is.crossing; ports = is.ports; are_crossing = those_on n is.crossing is.are_crossing; are_ports = is.are_ports; place = is.place; net_is = is.net_is; port_is = is.port_is }

  pub tap_on : (n k w : ℕ) → IsTapOf m d count A n k w → IsTapOf m d count B n k w
  tap_on n k w (by_terminal h e) = by_terminal (to k w h) e
  tap_on n k w (by_child c e h) = by_child c e (port_on c k w h)
  tap_on n k w (by_port h) = by_port (port_on n k w h)

  pub ports_on : (n need have : ℕ) → ArePorts m d count A n need have → ArePorts m d count B n need have
  ports_on n need have are = record { crossing = are.crossing; ports = are.ports; are_crossing = those_on n are.crossing are.are_crossing; are_ports = are.are_ports; need_is = are.need_is; have_is = are.have_is }

  pub suffice_on : (n : ℕ) → PortsSuffice m d count A n → PortsSuffice m d count B n
  suffice_on n is = record { need = is.need; have = is.have; are = ports_on n is.need is.have is.are; met = is.met }

module _ (m : Shape) (d : Defects) (count : ℕ) (A B : ℕ → ℕ → Type 0) (to : (k w : ℕ) → A k w → B k w) (from : (k w : ℕ) → B k w → A k w) where
  pub serves_on : (n k w : ℕ) → Serves m d count A n k w → Serves m d count B n k w
  serves_on n k w is = record { line = is.line; free = is.free; crosses = λ t x tap lt e. is.crosses t x (tap_on m d count B A from to n k t tap) lt e }

module _ (m : Shape) (d : Defects) (count : ℕ) (A B : ℕ → ℕ → Type 0) (to : (k w : ℕ) → A k w → B k w) (from : (k w : ℕ) → B k w → A k w) where
  on : (n k w : ℕ) → Serves m d count A n k w → Serves m d count B n k w
  on = serves_on m d count A B to from

  back : (n k w : ℕ) → Serves m d count B n k w → Serves m d count A n k w
  back = serves_on m d count B A from to

  visit_on : (n k : ℕ) → VisitsAt m count A n k → VisitsAt m count B n k
  visit_on n k v = (v.0, visits_on m A B to k n v.1)

  visit_back : (n k : ℕ) → VisitsAt m count B n k → VisitsAt m count A n k
  visit_back n k v = (v.0, visits_on m B A from k n v.1)

  pub choice_on : (n : ℕ) (picks : List Pick) → IsChoiceAt m d count A n picks → IsChoiceAt m d count B n picks
  choice_on n picks is = record {
    given = λ k v. is.given k (visit_back n k v);
    each = All-weaker (λ p. VisitsAt m count A n p.net × Serves m d count A n p.net p.line) (λ p. VisitsAt m count B n p.net × Serves m d count B n p.net p.line) (λ p s. (visit_on n p.net s.0, on n p.net p.line s.1)) picks is.each;
    nets_apart = is.nets_apart;
    lines_apart = is.lines_apart;
  }

  pub short_on : (n : ℕ) (set : List ℕ) (need have : ℕ) → AreShort m d count A n set need have → AreShort m d count B n set need have
  short_on n set need have is = record {
    within = All-weaker (VisitsAt m count A n) (VisitsAt m count B n) (visit_on n) set is.within;
    ascending = is.ascending;
    lines = is.lines;
    lines_are = those_same (λ w. (k : ℕ) × Contains set k × Serves m d count A n k w) (λ w. (k : ℕ) × Contains set k × Serves m d count B n k w) is.lines is.lines_are (λ w s. (s.0, s.1, on n s.0 w s.2)) (λ w s. (s.0, s.1, back n s.0 w s.2));
    need_is = is.need_is;
    have_is = is.have_is;
    fewer = is.fewer;
  }

  pub node_on : (n : ℕ) → NodeSuffices m d count A n → NodeSuffices m d count B n
  node_on n is = record { ports = suffice_on m d count A B to from n is.ports; lines = (is.lines.0, choice_on n is.lines.0 is.lines.1) }

  pub suffices_on : (tables pins : Need) → Suffices m d count A tables pins → Suffices m d count B tables pins
  suffices_on tables pins is = record { tables_met = is.tables_met; pins_met = is.pins_met; nodes_met = λ n lt. node_on n (is.nodes_met n lt) }

  pub first_on : (tables pins : Need) (s : Short) (r : Resource) → IsShortOf r m d count A tables pins s → IsShortOf r m d count B tables pins s
  first_on tables pins s Tables is = is
  first_on tables pins s Pins is = is
  first_on tables pins s Ports is = ((is.0.0, is.0.1, is.0.2, λ i lt. node_on i (is.0.3 i lt)), (ports_on m d count A B to from s.node.0 s.need s.have is.1.0, is.1.1, is.1.2))
  first_on tables pins s Lines is = ((is.0.0, is.0.1, is.0.2, λ i lt. node_on i (is.0.3 i lt)), suffice_on m d count A B to from s.node.0 is.1, short_on s.node.0 s.nets s.need s.have is.2)

  pub visits_are_on : (nodes : ℕ) (vs : List Visit) → AreVisits m d count A nodes vs → AreVisits m d count B nodes vs
  visits_are_on nodes vs are = record {
    given = λ n k lt v. are.given n k lt (visit_back n k v);
    each = All-weaker (λ v. (v.node.0 < nodes) × VisitsAt m count A v.node.0 v.net.0 × Serves m d count A v.node.0 v.net.0 v.line.0) (λ v. (v.node.0 < nodes) × VisitsAt m count B v.node.0 v.net.0 × Serves m d count B v.node.0 v.net.0 v.line.0) (λ v s. (s.0, visit_on v.node.0 v.net.0 s.1, on v.node.0 v.net.0 v.line.0 s.2)) vs are.each;
    apart = are.apart;
  }

  pub held_are_on : (nodes : ℕ) (ps : List Port) → AreHeld m d count A nodes ps → AreHeld m d count B nodes ps
  held_are_on nodes ps are = record {
    given = λ n k lt x. are.given n k lt (x.0, crosses_on m B A from k n x.1);
    each = All-weaker (λ p. (p.node.0 < nodes) × CrossesAt m count A p.node.0 p.net.0 × HasPort m d count A p.node.0 p.net.0 p.wire.0) (λ p. (p.node.0 < nodes) × CrossesAt m count B p.node.0 p.net.0 × HasPort m d count B p.node.0 p.net.0 p.wire.0) (λ p s. (s.0, (s.1.0, crosses_on m A B to p.net.0 p.node.0 s.1.1), port_on m d count A B to from p.node.0 p.net.0 p.wire.0 s.2)) ps are.each;
  }
