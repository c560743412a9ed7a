-- Crosspoints by their taps and lines.
use Rattle.machine_shape.proofs.Vocabulary.{◌≡◌, ℕ, ◌<◌, sym, ap, ◌∙◌, subst, Shape}
use Rattle.machine_shape.specs.Vocabulary.{crosses_of, nodes_of, ends_of, node_of_cross, tap_position, line_position, cross_at, tap_at, line_at, IsLine, IsPort, IsTap, HasTaps, HasCrosses, HasMeetings}
use Rattle.machine_shape.proofs.Meanings.{IsLine-at}

module _ (m : Shape) (taps : HasTaps m) (crosses : HasCrosses m) where
  line_within : (n w : ℕ) → IsLine m n w → n < nodes_of m
  unfolding IsLine
  line_within n w l = l.0

  port_within : (n w : ℕ) → IsPort m n w → (0 < n) × (n < nodes_of m)
  unfolding IsPort
  port_within n w p = (p.0, p.1)

  ends_are : (x : ℕ) → x < crosses_of m → ends_of m x ≡ (tap_at m (node_of_cross m x) (tap_position m x), line_at m (node_of_cross m x) (line_position m x))
  ends_are x h = ap (ends_of m) (sym (crosses.back x h)) ∙ crosses.ends _ _ _ (crosses.node x h) (crosses.tap x h) (crosses.line x h)

  tap_of : (x : ℕ) → x < crosses_of m → IsTap m (node_of_cross m x) (ends_of m x).0
  tap_of x h = subst (IsTap m (node_of_cross m x)) (sym (ap (λ p. p.0) (ends_are x h))) (taps.is_tap _ _ (crosses.node x h) (crosses.tap x h))

  line_of : (x : ℕ) → x < crosses_of m → IsLine m (node_of_cross m x) (ends_of m x).1
  line_of x h = IsLine-at m _ _ _ (crosses.node x h) (crosses.line x h) (ap (λ p. p.1) (ends_are x h))

  meet : (n t l : ℕ) → IsTap m n t → IsLine m n l → (x : ℕ) × (x < crosses_of m) × (ends_of m x ≡ (t, l)) × (node_of_cross m x ≡ n)
  unfolding IsLine
  meet n t l tap line =
      let a = taps.has_position n t line.0 tap in
      let b = line.1 in
      (cross_at m n a.0 b.0, crosses.within n a.0 b.0 line.0 a.1 b.1, crosses.ends n a.0 b.0 line.0 a.1 b.1 ∙ ap (λ (k : ℕ). (k, line_at m n b.0)) a.2 ∙ ap (λ (k : ℕ). (t, k)) (sym b.2), crosses.at_node n a.0 b.0 line.0 a.1 b.1)

  pub has_meetings : HasMeetings m
  has_meetings = record { line_within = line_within; port_within = port_within; tap = tap_of; line = line_of; meet = meet }
