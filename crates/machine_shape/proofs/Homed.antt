-- Each wire is a tap or a line of its node, and none is both.
use Rattle.machine_shape.proofs.Vocabulary.{◌≡◌, ◌⊎◌, ℕ, ◌<◌, sym, ap, ◌∙◌, subst, inl, inr, arith, Shape}
use Rattle.machine_shape.specs.Vocabulary.{IsTree, HasHomes, HasMeanings, HasParents, HasMeetings, ends_of, wires_of, crosses_of, nodes_of, node_of, node_of_cross, IsLine, IsPort, IsTap, tap_pin, tap_port, tap_child, tap_table, Meaning, Means, is_pin, is_line, is_port, is_table_pin}
use Rattle.machine_shape.proofs.Meanings.{IsLine-at, IsPort-at}
use Rattle.machine_shape.proofs.Totals.{nodes_are}

module _ (m : Shape) (tree : IsTree m) (meanings : HasMeanings m) (parents : HasParents m) (meetings : HasMeetings m) where
  home : (w : ℕ) → w < wires_of m → IsTap m (node_of m w) w ⊎ IsLine m (node_of m w) w
  home w h = let x = meanings.some w h in by x.0 x.1
    where
      by : (x : Meaning) → Means m w x → IsTap m (node_of m w) w ⊎ IsLine m (node_of m w) w
      by _ (is_pin k b e) = inl (tap_pin k (ap (node_of m) e ∙ parents.pin_node k b) b e)
      by _ (is_line n k b c e) = let l = IsLine-at m n k w b c e in inr (subst (λ j. IsLine m j w) (sym (tree.line_node n w l)) l)
      by _ (is_port n k z b c e) = let p = IsPort-at m n k w z b c e in inl (tap_port (subst (λ j. IsPort m j w) (sym (tree.port_node n w p)) p))
      by _ (is_table_pin t k b c e) = inl (tap_table t k b (sym (ap (node_of m) e ∙ parents.table_node t k b c)) c e)

  tap_node : (n w : ℕ) → IsTap m n w → n < nodes_of m
  tap_node n w (tap_pin j z h e) = rw z (nodes_are m).2
  tap_node n w (tap_port p) = (meetings.port_within n w p).1
  tap_node n w (tap_child c e p) = let a = parents.before c n e in let b = parents.within c n e in omega arith
  tap_node n w (tap_table t j h b lt e) = subst (λ k. k < nodes_of m) b (parents.hextant_within t h)

  no_tap_is_line : (n k w : ℕ) → IsTap m n w → IsLine m k w → ⊥
  no_tap_is_line n k w (tap_pin j z h e) l = tree.no_pin_is_line j k h (subst (IsLine m k) e l)
  no_tap_is_line n k w (tap_port p) l = tree.no_line_is_port k n w l p
  no_tap_is_line n k w (tap_child c e p) l = tree.no_line_is_port k c w l p
  no_tap_is_line n k w (tap_table t j h b lt e) l = tree.no_table_is_line t j k h lt (subst (IsLine m k) e l)

  cross_of_line : (n l x : ℕ) → x < crosses_of m → (ends_of m x).1 ≡ l → IsLine m n l → node_of_cross m x ≡ n
  cross_of_line n l x h e line = sym (tree.line_node (node_of_cross m x) l (subst (IsLine m (node_of_cross m x)) e (meetings.line x h))) ∙ tree.line_node n l line

  pub has_homes : HasHomes m
  has_homes = record { home = home; tap_node = tap_node; no_tap_is_line = no_tap_is_line; cross_of_line = cross_of_line }
