-- Ports and lines of nets, by their lists.
use Rattle.std.proofs.Common.{◌≡◌, ◌≢◌, ◌⊎◌, ℕ, ◌<◌, List, length, get_or, refl, sym, ap, ◌∙◌, subst, inl, inr, arith}
use Rattle.place_route.proofs.Vocabulary.{AllPairs, Contains, cases_order, get_or_default, Shape, Defects, Visit, NetSide, Own, Child}
use Rattle.place_route.proofs.Vocabulary.{Outside, those_unique, same_place, HasLine}
use Rattle.machine_shape.specs.Vocabulary.{wires_of, crosses_of, nodes_of, ends_of, node_of_cross, tap_position, line_position, tap_at, line_at, cross_at, IsLine, IsPort, IsTap, IsAbove, itself, below, IsTree, HasParents, HasTaps, HasCrosses, HasSites}
use Rattle.place_plan.specs.Vocabulary.{IsNth, IsAt, at_own, at_child, at_outside, Crosses, Visits, CrossesAt, IsFreePort, HasPort, visit_for}

module _ (m : Shape) (d : Defects) (count : ℕ) (terminal : ℕ → ℕ → Type 0) where
  -- the ports of a node and the nets that cross it are the same each time
  alike : (n k l v w : ℕ) (p : HasPort m d count terminal n k v) (q : HasPort m d count terminal n l w) → (p.ports ≡ q.ports) × (p.crossing ≡ q.crossing)
  alike n k l v w p q = (those_unique (IsFreePort m d n) p.ports q.ports p.are_ports q.are_ports, those_unique (CrossesAt m count terminal n) p.crossing q.crossing p.are_crossing q.are_crossing)

  -- a port of a node is of one net
  pub port_of_one : (n k l w : ℕ) → HasPort m d count terminal n k w → HasPort m d count terminal n l w → k ≡ l
  port_of_one n k l w p q =
      let lists = alike n k l w w p q in
      let same : p.place ≡ q.place = same_place q.ports p.place q.place w q.are_ports.ascending (subst (λ xs. IsNth xs p.place w) lists.0 p.port_is) q.port_is in
      sym p.net_is.1 ∙ (λ i. get_or (lists.1 i) (same i) 0) ∙ q.net_is.1

  -- a net has one port of a node
  pub same_port : (n k v w : ℕ) → HasPort m d count terminal n k v → HasPort m d count terminal n k w → v ≡ w
  same_port n k v w p q =
      let lists = alike n k k v w p q in
      let same : p.place ≡ q.place = same_place q.crossing p.place q.place k q.are_crossing.ascending (subst (λ xs. IsNth xs p.place k) lists.1 p.net_is) q.net_is in
      sym p.port_is.1 ∙ (λ i. get_or (lists.0 i) (same i) 0) ∙ q.port_is.1

  pub port_is_port : (n k w : ℕ) → HasPort m d count terminal n k w → IsPort m n w
  port_is_port n k w p = subst (IsPort m n) p.port_is.1 (p.are_ports.only p.place 0 p.port_is.0).0

-- two visits of one node with one line are of one net, and with one net have one line
module _ (vs : List Visit) (apart : AllPairs (λ v u. v.node.0 ≡ u.node.0 → (v.net.0 ≢ u.net.0) × (v.line.0 ≢ u.line.0)) vs) where
  at : (i : ℕ) (v u : Visit) → i < length vs → get_or vs i v ≡ v → get_or vs i u ≡ v
  at i v u h e = get_or_default vs i u v h ∙ e

  same_at : (v u : Visit) → v.node.0 ≡ u.node.0 → (p : Contains vs v) (q : Contains vs u) → (v ≡ u) ⊎ ((v.net.0 ≢ u.net.0) × (v.line.0 ≢ u.line.0))
  same_at v u node p q = by (cases_order p.0 q.0)
    where
      swap : ((u.net.0 ≢ v.net.0) × (u.line.0 ≢ v.line.0)) → (v.net.0 ≢ u.net.0) × (v.line.0 ≢ u.line.0)
      swap r = (λ e. r.0 (sym e), λ e. r.1 (sym e))

      by : (p.0 ≡ q.0) ⊎ ((p.0 < q.0) ⊎ (q.0 < p.0)) → (v ≡ u) ⊎ ((v.net.0 ≢ u.net.0) × (v.line.0 ≢ u.line.0))
      by (inl e) = inl (sym (at p.0 v u p.1 p.2) ∙ ap (λ i. get_or vs i u) e ∙ q.2)
      by (inr (inl l)) =
          let r = apart p.0 q.0 v l q.1 in
          let first : get_or vs p.0 v ≡ v = p.2 in
          let second : get_or vs q.0 v ≡ u = at q.0 u v q.1 q.2 in
          inr (subst (λ (a : Visit). a.node.0 ≡ u.node.0 → (a.net.0 ≢ u.net.0) × (a.line.0 ≢ u.line.0)) first (subst (λ (b : Visit). (get_or vs p.0 v).node.0 ≡ b.node.0 → ((get_or vs p.0 v).net.0 ≢ b.net.0) × ((get_or vs p.0 v).line.0 ≢ b.line.0)) second r) node)
      by (inr (inr l)) =
          let r = apart q.0 p.0 u l p.1 in
          let first : get_or vs q.0 u ≡ u = q.2 in
          let second : get_or vs p.0 u ≡ v = at p.0 v u p.1 p.2 in
          inr (swap (subst (λ (a : Visit). a.node.0 ≡ v.node.0 → (a.net.0 ≢ v.net.0) × (a.line.0 ≢ v.line.0)) first (subst (λ (b : Visit). (get_or vs q.0 u).node.0 ≡ b.node.0 → ((get_or vs q.0 u).net.0 ≢ b.net.0) × ((get_or vs q.0 u).line.0 ≢ b.line.0)) second r) (sym node)))

  pub line_of_one : (n k l w : ℕ) → HasLine vs n k w → HasLine vs n l w → k ≡ l
  line_of_one n k l w p q = elim (same_at (visit_for n k w) (visit_for n l w) refl p q) [ inl e ↦ ap (λ (v : Visit). v.net.0) e | inr r ↦ absurd (r.1 refl) ]

  pub net_of_one : (n k w u : ℕ) → HasLine vs n k w → HasLine vs n k u → w ≡ u
  net_of_one n k w u p q = elim (same_at (visit_for n k w) (visit_for n k u) refl p q) [ inl e ↦ ap (λ (v : Visit). v.line.0) e | inr r ↦ absurd (r.0 refl) ]

-- ---- nodes and crosspoints

module _ (m : Shape) (parents : HasParents m) where
  pub above_within : {a h : ℕ} → IsAbove m a h → h < nodes_of m → a < nodes_of m
  above_within itself l = l
  above_within (below {p} {k} up e) l = above_within up (let b = parents.before k p e in omega arith)

  strand_within : (n w : ℕ) (s : NetSide) → s ≢ Outside → w < wires_of m → IsAt m n w s → n < nodes_of m
  strand_within n w s ne l (at_own e) = subst (λ a. a < nodes_of m) e (parents.node_within w l)
  strand_within n w s ne l (at_child c e inside) = (let b = parents.before c n e in let k = parents.within c n e in omega arith)
  strand_within n w s ne l (at_outside far) = absurd (ne refl)

  dec_outside : (s : NetSide) → (s ≡ Outside) ⊎ (s ≢ Outside)
  dec_outside (Own w) = inr (λ e. cc)
  dec_outside (Child c) = inr (λ e. cc)
  dec_outside Outside = inl refl

  pub visited_within : (terminal : ℕ → Type 0) → ((w : ℕ) → terminal w → w < wires_of m) → (n : ℕ) → Visits m terminal n → n < nodes_of m
  visited_within terminal wires n v = by (dec_outside v.one)
    where
      by : (v.one ≡ Outside) ⊎ (v.one ≢ Outside) → n < nodes_of m
      by (inl e) = strand_within n v.second.wire v.two (λ f. v.different (e ∙ sym f)) (wires v.second.wire v.second.is) v.second.at
      by (inr ne) = strand_within n v.first.wire v.one ne (wires v.first.wire v.first.is) v.first.at

  pub crossed_within : (terminal : ℕ → Type 0) → ((w : ℕ) → terminal w → w < wires_of m) → (n : ℕ) → Crosses m terminal n → n < nodes_of m
  crossed_within terminal wires n c = above_within c.inside (parents.node_within c.inner (wires c.inner c.inner_is))

module _ (m : Shape) (tree : IsTree m) (taps : HasTaps m) (crosses : HasCrosses m) (sites : HasSites m) where
  -- a tap and a line of one node have a crosspoint
  pub has_cross : (n t w : ℕ) → n < nodes_of m → IsTap m n t → IsLine m n w → (x : ℕ) × (x < crosses_of m) × (ends_of m x ≡ (t, w))
  has_cross n t w within tap line =
      let a = taps.has_position n t within tap in
      let b = sites.some_line n w line in
      (cross_at m n a.0 b.0, crosses.within n a.0 b.0 within a.1 b.1, crosses.ends n a.0 b.0 within a.1 b.1 ∙ (λ i. (a.2 i, sym b.2 i)))

  -- the tap of a crosspoint of a node's line is a tap of the node
  pub tap_at_line : (n t w x : ℕ) → x < crosses_of m → ends_of m x ≡ (t, w) → IsLine m n w → IsTap m n t
  tap_at_line n t w x within ends line =
      let a = node_of_cross m x in
      let node = crosses.node x within in
      let tap = crosses.tap x within in
      let at = crosses.line x within in
      let are : ends_of m x ≡ (tap_at m a (tap_position m x), line_at m a (line_position m x)) = ap (ends_of m) (sym (crosses.back x within)) ∙ crosses.ends a (tap_position m x) (line_position m x) node tap at in
      let its : line_at m a (line_position m x) ≡ w = ap (λ (p : ℕ × ℕ). p.1) (sym are ∙ ends) in
      let here : tap_at m a (tap_position m x) ≡ t = ap (λ (p : ℕ × ℕ). p.0) (sym are ∙ ends) in
      let same : a ≡ n = sym (tree.line_node a w (subst (IsLine m a) its (sites.line a (line_position m x) node at))) ∙ tree.line_node n w line in
      subst (λ b. IsTap m b t) same (subst (IsTap m a) here (taps.is_tap a (tap_position m x) node tap))
