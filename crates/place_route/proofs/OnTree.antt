-- Nets that are laid on the tree stay apart, and each hangs together.
use Rattle.place_route.proofs.Vocabulary.{◌≡◌, ◌≢◌, ℕ, Bool, true, Some, refl, sym, ap, ◌∙◌, subst, Shape, in_order, ends_of, node_of}
use Rattle.place_route.proofs.Vocabulary.{parent_of, IsTree, Joined, here, then, crossed, plain_net, NetSide, Own, Child, Outside}
use native.Mathlib.Decide.{ℕ_discrete}
use Rattle.machine_meaning.proofs.JoinedLemmas.{Joined-trans, Joined-sym}
use Rattle.place_plan.specs.Strands.{IsInside, IsAt, at_own, at_child, at_outside, Crosses, IsStrand}
use Rattle.place_plan.proofs.Upward.{IsUp, stay, up, up_of, higher, above_of, not_in_child, one_child}
use Rattle.place_route.specs.Trees.{IsNetTap, by_terminal, by_child, by_port, IsLaidOnTree, IsOfNet, as_terminal, as_line, as_port, AreTerminals}

-- t is the tap by which a net with these ports comes to node n for a strand
data Comes (port : ℕ → ℕ → Type 0) (n t : ℕ) : NetSide → Type 0 where
  itself_ : Comes port n t (Own t)
  from_child : (c : ℕ) → port c t → Comes port n t (Child c)
  from_outside : port n t → Comes port n t Outside

module _ (m : Shape) where
  module _ (tree : IsTree m) where
    module _ (terminal : ℕ → ℕ → Type 0) (closed : ℕ → Bool) (line port : ℕ → ℕ → ℕ → Type 0) (laid : IsLaidOnTree m terminal closed line port) where
      -- a net's tap is joined to its line
      tap_joined : (n k w t : ℕ) → line n k w → IsNetTap m terminal port n k t → Joined (plain_net m closed) t w
      tap_joined n k w t has tap = let r = laid.closes n k w t has tap in then here (crossed r.0 r.1 (in_order (ap (λ e. e.0) r.2) (ap (λ e. e.1) r.2)))

      tap_by : (n k t : ℕ) {s : NetSide} → Comes (λ c u. port c k u) n t s → IsStrand m (terminal k) n s → IsNetTap m terminal port n k t
      tap_by n k t comes is = by is.wire is.is comes is.at
        where
          by : {r : NetSide} (w : ℕ) → terminal k w → Comes (λ c u. port c k u) n t r → IsAt m n w r → IsNetTap m terminal port n k t
          by w mine itself_ (at_own at) = by_terminal mine at
          by w mine (from_child c has) (at_child b e inside) = by_child c e has
          by w mine (from_outside has) (at_outside far) = by_port has

      -- two strands' taps are joined
      meet : (n k : ℕ) (s r : NetSide) → s ≢ r → IsStrand m (terminal k) n s → IsStrand m (terminal k) n r → (t u : ℕ) → Comes (λ c u. port c k u) n t s → Comes (λ c u. port c k u) n u r → Joined (plain_net m closed) t u
      meet n k s r different is ir t u ct cu =
          let has = laid.given n k (record { one = s; two = r; different = different; first = is; second = ir }) in
          Joined-trans (tap_joined n k has.0 t has.1 (tap_by n k t ct is)) (Joined-sym (tap_joined n k has.0 u has.1 (tap_by n k u cu ir)))

      own_strand : (n k w : ℕ) → terminal k w → node_of m w ≡ n → IsStrand m (terminal k) n (Own w)
      own_strand n k w is at = record { wire = w; is = is; at = at_own at }

      child_strand : (n k c w : ℕ) → parent_of m c ≡ Some n → terminal k w → IsInside m c w → IsStrand m (terminal k) n (Child c)
      child_strand n k c w e is inside = record { wire = w; is = is; at = at_child c e inside }

      outside_strand : (n k : ℕ) → Crosses m (terminal k) n → IsStrand m (terminal k) n Outside
      outside_strand n k crosses = record { wire = crosses.outer; is = crosses.outer_is; at = at_outside crosses.not_inside }

      -- each terminal inside a node is joined to the net's port of it
      pub to_port : (k w : ℕ) → terminal k w → {n : ℕ} → IsUp m (node_of m w) n → Crosses m (terminal k) n → (t : ℕ) → port n k t → Joined (plain_net m closed) w t
      to_port k w is stay crosses t has = meet (node_of m w) k (Own w) Outside (λ e. cc) (own_strand _ k w is refl) (outside_strand _ k crosses) w t itself_ (from_outside has)
      to_port k w is (up {c} {n} a e) crosses t has =
          let below : Crosses m (terminal k) c = record { inner = w; outer = crosses.outer; inner_is = is; outer_is = crosses.outer_is; inside = above_of m a; not_inside = λ i. crosses.not_inside (higher m e i) } in
          let passed = laid.passed c k below in
          Joined-trans
          (to_port k w is a below passed.0 passed.1)
          (meet n k (Child c) Outside (λ e. cc) (child_strand n k c w e is (above_of m a)) (outside_strand n k crosses) passed.0 t (from_child c passed.1) (from_outside has))

      -- one of the two at the node itself
      own_joined : (k w u c n : ℕ) → terminal k w → terminal k u → node_of m w ≡ n → IsUp m (node_of m u) c → parent_of m c ≡ Some n → Joined (plain_net m closed) w u
      own_joined k w u c n is iu at a e =
          let crosses : Crosses m (terminal k) c = record { inner = u; outer = w; inner_is = iu; outer_is = is; inside = above_of m a; not_inside = not_in_child m tree n c w e at } in
          let passed = laid.passed c k crosses in
          Joined-trans (meet n k (Own w) (Child c) (λ e. cc) (own_strand n k w is at) (child_strand n k c u e iu (above_of m a)) w passed.0 itself_ (from_child c passed.1)) (Joined-sym (to_port k u iu a crosses passed.0 passed.1))

      -- terminals inside one node are joined
      inside_joined : (k w u : ℕ) → terminal k w → terminal k u → {a b n : ℕ} → node_of m w ≡ a → node_of m u ≡ b → IsUp m a n → IsUp m b n → Joined (plain_net m closed) w u
      inside_joined k w u is iu {n = n} ea eb stay stay = by (ℕ_discrete w u)
        where
          by : Dec (w ≡ u) → Joined (plain_net m closed) w u
          by (yes e) = subst (Joined (plain_net m closed) w) e here
          by (no ne) = meet n k (Own w) (Own u) (λ e. ne cc) (own_strand n k w is ea) (own_strand n k u iu eb) w u itself_ itself_
      inside_joined k w u is iu {n = n} ea eb stay (up {c = c} a e) = own_joined k w u c n is iu ea (subst (λ x. IsUp m x c) (sym eb) a) e
      inside_joined k w u is iu {n = n} ea eb (up {c = c} a e) stay = Joined-sym (own_joined k u w c n iu is eb (subst (λ x. IsUp m x c) (sym ea) a) e)
      inside_joined k w u is iu {n = n} ea eb (up {c = c} p e) (up {c = l} q f) = by (ℕ_discrete c l) (λ s. inside_joined k w u is iu ea eb p (subst (IsUp m _) (sym s) q))
        where
          by : Dec (c ≡ l) → (c ≡ l → Joined (plain_net m closed) w u) → Joined (plain_net m closed) w u
          by (yes s) same = same s
          by (no ne) same =
              let pw : IsUp m (node_of m w) c = subst (λ x. IsUp m x c) (sym ea) p in
              let qu : IsUp m (node_of m u) l = subst (λ x. IsUp m x l) (sym eb) q in
              let w_crosses : Crosses m (terminal k) c = record { inner = w; outer = u; inner_is = is; outer_is = iu; inside = above_of m pw; not_inside = λ i. ne (one_child m tree n c l u e f i (above_of m qu)) } in
              let u_crosses : Crosses m (terminal k) l = record { inner = u; outer = w; inner_is = iu; outer_is = is; inside = above_of m qu; not_inside = λ i. ne (one_child m tree n c l w e f (above_of m pw) i) } in
              let x = laid.passed c k w_crosses in
              let y = laid.passed l k u_crosses in
              Joined-trans (to_port k w is pw w_crosses x.0 x.1) (Joined-trans
              (meet n k (Child c) (Child l) (λ e. ne cc) (child_strand n k c w e is (above_of m pw)) (child_strand n k l u f iu (above_of m qu)) x.0 y.0 (from_child c x.1) (from_child l y.1))
              (Joined-sym (to_port k u iu qu u_crosses y.0 y.1)))

      of_net : (n k t : ℕ) → IsNetTap m terminal port n k t → IsOfNet terminal line port k t
      of_net n k t (by_terminal is at) = as_terminal is
      of_net n k t (by_child c e has) = as_port c has
      of_net n k t (by_port has) = as_port n has

      -- each closed crosspoint is of one net
      pub one_net : (x : ℕ) → closed x ≡ true → (k : ℕ) × IsOfNet terminal line port k (ends_of m x).0 × IsOfNet terminal line port k (ends_of m x).1
      one_net x on =
          let r = laid.only x on in
          (r.1, subst (IsOfNet terminal line port r.1) (sym (ap (λ e. e.0) r.6)) (of_net r.0 r.1 r.3 r.5), as_line r.0 (subst (line r.0 r.1) (sym (ap (λ e. e.1) r.6)) r.4))

      module _ (are : AreTerminals m terminal) where
        -- a net's terminals are joined
        pub net_joined : (k w u : ℕ) → terminal k w → terminal k u → Joined (plain_net m closed) w u
        net_joined k w u is iu = inside_joined k w u is iu refl refl (up_of m (are.below k w is)) (up_of m (are.below k u iu))

        -- no wire is of two nets
        pub nets_apart : (k l w : ℕ) → IsOfNet terminal line port k w → IsOfNet terminal line port l w → k ≡ l
        nets_apart k l w (as_terminal p) (as_terminal q) = are.apart k l w p q
        nets_apart k l w (as_terminal p) (as_line n q) = absurd (are.no_line k n w p (laid.lines n l w q))
        nets_apart k l w (as_terminal p) (as_port n q) = absurd (are.no_port k n w p (laid.ports n l w q))
        nets_apart k l w (as_line n p) (as_terminal q) = absurd (are.no_line l n w q (laid.lines n k w p))
        nets_apart k l w (as_port n p) (as_terminal q) = absurd (are.no_port l n w q (laid.ports n k w p))
        nets_apart k l w (as_line n p) (as_port b q) = absurd (tree.no_line_is_port n b w (laid.lines n k w p) (laid.ports b l w q))
        nets_apart k l w (as_port n p) (as_line b q) = absurd (tree.no_line_is_port b n w (laid.lines b l w q) (laid.ports n k w p))
        nets_apart k l w (as_line n p) (as_line b q) =
            let same : n ≡ b = sym (tree.line_node n w (laid.lines n k w p)) ∙ tree.line_node b w (laid.lines b l w q) in
            laid.lines_apart n k l w p (subst (λ x. line x l w) (sym same) q)
        nets_apart k l w (as_port n p) (as_port b q) =
            let same : n ≡ b = sym (tree.port_node n w (laid.ports n k w p)) ∙ tree.port_node b w (laid.ports b l w q) in
            laid.ports_apart n k l w p (subst (λ x. port x l w) (sym same) q)
