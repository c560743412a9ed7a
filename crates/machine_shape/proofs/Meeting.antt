-- A tap and a line that meet, as the code finds their crosspoint.
use Rattle.std.proofs.Common.{◌≡◌, ℕ, ◌+◌, ◌*◌, ◌/◌, ◌%◌, ◌-◌, ◌<◌, ◌≤◌, [], ◌∷◌, refl, sym, ap, ◌∙◌, subst, arith}
use Rattle.machine_shape.proofs.Vocabulary.{Shape, Crossbar}
use Rattle.machine_shape.specs.Vocabulary.{AreFull, IsBarAt, IsNodeBar, FitsBelow, tap_by, Levels, rest, start, size, next, lines_in, wires_in, crosses_in, levels_of, wires_of, crosses_of, nodes_of, way_to, node_at, place_of, place_of_cross, ports_of, lines_of, taps_of, tap_at, line_at, cross_at, node_of_cross, tap_position, line_position, ends_of}
use Rattle.machine_shape.proofs.Walks.{place_from}
use Rattle.machine_shape.proofs.Ways.{node_has}
use Rattle.machine_shape.proofs.Numbering.{way-node, line_is}
use Rattle.machine_shape.proofs.Meanings.{line_at-way}
use Rattle.machine_shape.proofs.Crossings.{crossed, ends_below, cross_below, ends_of-at, ends-cross, node_is}
use Rattle.machine_shape.proofs.Sites.{full_of}
use Rattle.machine_shape.proofs.Barred.{full_rest, bar_is}
use Rattle.machine_shape.proofs.Whereabouts.{wire_placed}

step_some : (ls : Levels) → AreFull ls → 0 < size wires_in (next ls)
step_some [] f = omega arith
step_some (l ∷ []) f = omega arith
step_some (l ∷ k ∷ ls) f = let p = (f 1 k (omega arith)).0 in omega arith

module _ (m : Shape) where
  pub positive_step : (w : ℕ) (b : Crossbar) → w < wires_of m → IsBarAt (levels_of m) (place_of m w).path b → 0 < b.step
  positive_step w b h is = let s = step_some (rest (levels_of m) (place_of m w).path) (full_rest (wire_placed m w h).spot (full_of m)) in let e = is.step in omega arith

  cross-at : (n a b : ℕ) → cross_at m n a b ≡ start crosses_in (levels_of m) (way_to m n) + (a * lines_of m n + b)
  unfolding cross_at
  cross-at n a b = refl

  -- the crossbar of a crosspoint's node
  pub cross_bar : (x : ℕ) (b : Crossbar) → x < crosses_of m → IsBarAt (levels_of m) (place_of_cross m x).path b → FitsBelow b (wires_of m) → IsNodeBar m (node_of_cross m x) b
  cross_bar x b h is fits = let r = node_is m x h in bar_is m (node_of_cross m x) b r.0 (subst (λ p. IsBarAt (levels_of m) p b) (sym r.1) is) fits

  pub tap_position-is : (x : ℕ) → tap_position m x ≡ (place_of_cross m x).position / lines_of m (node_of_cross m x)
  unfolding tap_position
  tap_position-is x = refl

  pub line_position-is : (x : ℕ) → line_position m x ≡ (place_of_cross m x).position % lines_of m (node_of_cross m x)
  unfolding line_position
  line_position-is x = refl

  -- the ends by the crossbar and the position
  pub record EndsFound (x : ℕ) (b : Crossbar) (position : ℕ) : Type 0 where
    pub inside : position / b.lines < b.ports + b.children * b.each
    pub short : position % b.lines < b.lines
    pub tap : tap_by b (position / b.lines) ≡ (ends_of m x).0
    pub line : b.first + b.ports + position % b.lines ≡ (ends_of m x).1
    pub tap_below : (ends_of m x).0 < wires_of m
    pub line_below : (ends_of m x).1 < wires_of m

  pub ends_found : (x : ℕ) (b : Crossbar) (position : ℕ) → x < crosses_of m → IsNodeBar m (node_of_cross m x) b → position ≡ (place_of_cross m x).position → EndsFound x b position
  ends_found x b position h bar e =
      let c = crossed m x h in
      let tap : position / b.lines ≡ tap_position m x = ap (λ k. k / b.lines) e ∙ ap (λ k. (place_of_cross m x).position / k) bar.lines ∙ sym (tap_position-is x) in
      let line : position % b.lines ≡ line_position m x = ap (λ k. k % b.lines) e ∙ ap (λ k. (place_of_cross m x).position % k) bar.lines ∙ sym (line_position-is x) in
      let below = ends_below m x h in
      record {
        inside = let t = bar.taps in let g = c.tap in omega arith;
        short = let l = bar.lines in let g = c.line in omega arith;
        tap = ap (tap_by b) tap ∙ sym (bar.tap (tap_position m x) c.tap) ∙ sym (ap (λ p. p.0) (ends-cross m x));
        line = ap (λ k. b.first + b.ports + k) line ∙ sym (bar.line (line_position m x)) ∙ sym (ap (λ p. p.1) (ends-cross m x));
        tap_below = below.0;
        line_below = below.1;
      }

  place_of-line : (w n k : ℕ) → line_at m n k ≡ w → n < nodes_of m → k < lines_of m n → place_of m w ≡ record { path = way_to m n; position = ports_of m n + k }
  unfolding place_of
  place_of-line w n k e hn hk = ap (place_of m) (sym e) ∙ (place_from wires_in (line_is m n k hn hk)).1

  -- what is no port at its place there, and no table's pin, is a line
  module _ (w : ℕ) (b : Crossbar) (h : w < wires_of m) (is : IsBarAt (levels_of m) (place_of m w).path b) (fits : FitsBelow b (wires_of m)) where
    line_here : b.ports ≤ (place_of m w).position → (place_of m w).position < b.ports + lines_in (rest (levels_of m) (place_of m w).path)
    line_here p = let r = (wire_placed m w h).within in let e = is.ports in omega arith

    node_here : b.ports ≤ (place_of m w).position → (node_at m (place_of m w).path < nodes_of m) × (way_to m (node_at m (place_of m w).path) ≡ (place_of m w).path)
    node_here p = let l = line_here p in way-node m (place_of m w).path (wire_placed m w h).spot (node_has _ (omega arith))

    bar_here : (p : b.ports ≤ (place_of m w).position) → IsNodeBar m (node_at m (place_of m w).path) b
    bar_here p = let r = node_here p in bar_is m (node_at m (place_of m w).path) b r.0 (subst (λ q. IsBarAt (levels_of m) q b) (sym r.1) is) fits

    line_is_here : (p : b.ports ≤ (place_of m w).position) → w ≡ line_at m (node_at m (place_of m w).path) ((place_of m w).position - b.ports)
    line_is_here p =
        let r = node_here p in
        let e = line_at-way m (node_at m (place_of m w).path) ((place_of m w).position - b.ports) (place_of m w).path r.1 in
        let n = (wire_placed m w h).number in let q = is.ports in omega arith

    pub met : (a first t : ℕ) → b.ports ≤ (place_of m w).position → a < b.ports + b.children * b.each → tap_by b a ≡ t → first ≡ start crosses_in (levels_of m) (place_of m w).path →
        (first + (a * b.lines + ((place_of m w).position - b.ports)) < crosses_of m) × (ends_of m (first + (a * b.lines + ((place_of m w).position - b.ports))) ≡ (t, w))
    met a first t p inside e f =
        let r = node_here p in
        let bar = bar_here p in
        let n : ℕ = node_at m (place_of m w).path in
        let k : ℕ = (place_of m w).position - b.ports in
        let low : a < taps_of m n = let q = bar.taps in omega arith in
        let short : k < lines_of m n = let q = line_here p in let g = is.lines in let g' = bar.lines in omega arith in
        let same : cross_at m n a k ≡ first + (a * b.lines + k) = cross-at n a k ∙ ap (λ q. start crosses_in (levels_of m) q + (a * lines_of m n + k)) r.1 ∙ ap (λ j. j + (a * lines_of m n + k)) (sym f) ∙ ap (λ j. first + (a * j + k)) (sym bar.lines) in (
          subst (λ x. x < crosses_of m) same (cross_below m n a k r.0 low short),
          subst (λ x. ends_of m x ≡ (t, w)) same (ends_of-at m n a k r.0 low short ∙ ap (λ j. (j, line_at m n k)) (bar.tap a low ∙ e) ∙ ap (λ j. (t, j)) (sym (line_is_here p))),
        )

    -- and where a crosspoint has this line, the place is a line's, and the tap is one of that crossbar
    pub meeting : (x t : ℕ) → x < crosses_of m → ends_of m x ≡ (t, w) → (b.ports ≤ (place_of m w).position) × ((tap_position m x < b.ports + b.children * b.each) × (tap_by b (tap_position m x) ≡ t))
    meeting x t hx e =
        let c = crossed m x hx in
        let n : ℕ = node_of_cross m x in
        let both = sym (ends-cross m x) ∙ e in
        let line : line_at m n (line_position m x) ≡ w = ap (λ q. q.1) both in
        let tap : tap_at m n (tap_position m x) ≡ t = ap (λ q. q.0) both in
        let at : place_of m w ≡ record { path = way_to m n; position = ports_of m n + line_position m x } = place_of-line w n (line_position m x) line c.node c.line in
        let bar = bar_is m n b c.node (subst (λ q. IsBarAt (levels_of m) q b) (ap (λ q. q.path) at) is) fits in
        let position : (place_of m w).position ≡ ports_of m n + line_position m x = ap (λ q. q.position) at in
        let p = bar.ports in
        (omega arith, (let q = bar.taps in let g = c.tap in omega arith, sym (bar.tap (tap_position m x) c.tap) ∙ tap))

    pub met_at : (a first t place : ℕ) → place ≡ (place_of m w).position → b.ports ≤ place → a < b.ports + b.children * b.each → tap_by b a ≡ t → first ≡ start crosses_in (levels_of m) (place_of m w).path →
        (first + (a * b.lines + (place - b.ports)) < crosses_of m) × (ends_of m (first + (a * b.lines + (place - b.ports))) ≡ (t, w))
    met_at a first t place e p inside f g = subst (λ k. (first + (a * b.lines + (k - b.ports)) < crosses_of m) × (ends_of m (first + (a * b.lines + (k - b.ports))) ≡ (t, w))) (sym e) (met a first t (omega arith) inside f g)
