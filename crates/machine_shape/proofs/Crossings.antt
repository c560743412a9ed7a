-- Crosspoints, taps and lines.
use Rattle.machine_shape.proofs.Vocabulary.{◌≡◌, ℕ, ◌+◌, ◌*◌, ◌/◌, ◌%◌, ◌<◌, refl, sym, ap, ◌∙◌, subst, arith, ⊎_elim, mul_comm}
use Rattle.machine_shape.proofs.Vocabulary.{cases_order, div-mul-add, mod-mul-add, mul-add-lt, div-add-mod', div_below, mod_below, Shape}
use Rattle.machine_shape.specs.Vocabulary.{rest, start, IsPlaceOf, lines_in, wires_in, taps_in, crosses_in, Ends, in_order, turned, levels_of, wires_of, crosses_of, nodes_of, way_to, node_at, place_of_cross, ports_of, lines_of, taps_of, line_at, tap_at, cross_at, node_of_cross, tap_position, line_position, ends_of}
use Rattle.machine_shape.proofs.Walks.{place_from, placed}
use Rattle.machine_shape.proofs.Ways.{place_unique, node_has}
use Rattle.machine_shape.proofs.Taps as taps
use Rattle.machine_shape.proofs.Taps.{positive_from}
use Rattle.machine_shape.proofs.Numbering.{way_is, way-node, line_is, wire_below}

module _ (m : Shape) where
  -- taps
  pub tap_below : (n a : ℕ) → n < nodes_of m → a < taps_of m n → tap_at m n a < wires_of m
  unfolding tap_at taps_of wires_of
  tap_below n a h b = taps.tap_below (way_is m n h).0 (taps.tap_is (levels_of m) (way_to m n) a b)

  pub taps_ascend : (n a b : ℕ) → n < nodes_of m → a < b → b < taps_of m n → tap_at m n a < tap_at m n b
  unfolding tap_at taps_of
  taps_ascend n a b h lt hb = taps.taps_ascend (way_is m n h).0 (taps.tap_is (levels_of m) (way_to m n) a (omega arith)) (taps.tap_is (levels_of m) (way_to m n) b hb) lt

  taps_differ : (n a b : ℕ) → n < nodes_of m → a < taps_of m n → b < taps_of m n → tap_at m n a ≡ tap_at m n b → a ≡ b
  taps_differ n a b h ha hb e = ⊎_elim (λ s. s) (⊎_elim (λ lt. absurd (let x = taps_ascend n a b h lt hb in omega arith)) (λ gt. absurd (let x = taps_ascend n b a h gt ha in omega arith))) (cases_order a b)

  pub lines_differ : (n k a b : ℕ) → n < nodes_of m → k < nodes_of m → a < lines_of m n → b < lines_of m k → line_at m n a ≡ line_at m k b → (n ≡ k) × (a ≡ b)
  lines_differ n k a b hn hk ha hb e =
      let s = place_unique wires_in (levels_of m) _ _ _ _ e (line_is m n a hn ha) (line_is m k b hk hb) in
      let same : n ≡ k = sym (way_is m n hn).2 ∙ ap (λ q. node_at m q.path) s ∙ (way_is m k hk).2 in
      let p : ports_of m n + a ≡ ports_of m k + b = ap (λ q. q.position) s in
      let o : ports_of m n ≡ ports_of m k = ap (ports_of m) same in (same, omega arith)

  -- from a tap and a line
  cross_is : (n a b : ℕ) → n < nodes_of m → a < taps_of m n → b < lines_of m n → IsPlaceOf crosses_in (levels_of m) (cross_at m n a b) (record { path = way_to m n; position = a * lines_of m n + b })
  unfolding cross_at taps_of lines_of
  cross_is n a b h ha hb = record {
    spot = (way_is m n h).0;
    within = let p = mul-add-lt a (lines_of m n) b (taps_of m n) ha hb in let c = mul_comm (lines_of m n) (taps_of m n) in omega arith;
    number = refl;
  }

  pub cross_below : (n a b : ℕ) → n < nodes_of m → a < taps_of m n → b < lines_of m n → cross_at m n a b < crosses_of m
  unfolding crosses_of
  cross_below n a b h ha hb = (place_from crosses_in (cross_is n a b h ha hb)).0

  place_of_cross-at : (n a b : ℕ) → n < nodes_of m → a < taps_of m n → b < lines_of m n → place_of_cross m (cross_at m n a b) ≡ record { path = way_to m n; position = a * lines_of m n + b }
  unfolding place_of_cross
  place_of_cross-at n a b h ha hb = (place_from crosses_in (cross_is n a b h ha hb)).1

  pub node_of_cross-at : (n a b : ℕ) → n < nodes_of m → a < taps_of m n → b < lines_of m n → node_of_cross m (cross_at m n a b) ≡ n
  unfolding node_of_cross
  node_of_cross-at n a b h ha hb = ap (λ q. node_at m q.path) (place_of_cross-at n a b h ha hb) ∙ (way_is m n h).2

  tap_position-at : (n a b : ℕ) → n < nodes_of m → a < taps_of m n → b < lines_of m n → tap_position m (cross_at m n a b) ≡ a
  unfolding tap_position
  tap_position-at n a b h ha hb = ap (λ k. (place_of_cross m (cross_at m n a b)).position / lines_of m k) (node_of_cross-at n a b h ha hb)
      ∙ ap (λ q. q.position / lines_of m n) (place_of_cross-at n a b h ha hb) ∙ div-mul-add a (lines_of m n) b hb

  line_position-at : (n a b : ℕ) → n < nodes_of m → a < taps_of m n → b < lines_of m n → line_position m (cross_at m n a b) ≡ b
  unfolding line_position
  line_position-at n a b h ha hb = ap (λ k. (place_of_cross m (cross_at m n a b)).position % lines_of m k) (node_of_cross-at n a b h ha hb)
      ∙ ap (λ q. q.position % lines_of m n) (place_of_cross-at n a b h ha hb) ∙ mod-mul-add a (lines_of m n) b hb

  pub ends_of-at : (n a b : ℕ) → n < nodes_of m → a < taps_of m n → b < lines_of m n → ends_of m (cross_at m n a b) ≡ (tap_at m n a, line_at m n b)
  unfolding ends_of
  ends_of-at n a b h ha hb = ap (λ k. (tap_at m k (tap_position m (cross_at m n a b)), line_at m k (line_position m (cross_at m n a b)))) (node_of_cross-at n a b h ha hb)
      ∙ ap (λ k. (tap_at m n k, line_at m n (line_position m (cross_at m n a b)))) (tap_position-at n a b h ha hb)
      ∙ ap (λ k. (tap_at m n a, line_at m n k)) (line_position-at n a b h ha hb)

  -- from a crosspoint
  pub record Crossed (x : ℕ) : Type 0 where
    pub node : node_of_cross m x < nodes_of m
    pub tap : tap_position m x < taps_of m (node_of_cross m x)
    pub line : line_position m x < lines_of m (node_of_cross m x)
    pub back : cross_at m (node_of_cross m x) (tap_position m x) (line_position m x) ≡ x

  pub cross_placed : (x : ℕ) → x < crosses_of m → IsPlaceOf crosses_in (levels_of m) x (place_of_cross m x)
  unfolding crosses_of place_of_cross
  cross_placed x h = placed crosses_in (levels_of m) x h

  taps-way : (n : ℕ) → taps_of m n ≡ taps_in (rest (levels_of m) (way_to m n))
  unfolding taps_of
  taps-way n = refl

  lines-way : (n : ℕ) → lines_of m n ≡ lines_in (rest (levels_of m) (way_to m n))
  unfolding lines_of
  lines-way n = refl

  pub has_lines : (x : ℕ) → x < crosses_of m → 0 < lines_in (rest (levels_of m) (place_of_cross m x).path)
  has_lines x h = positive_from (place_of_cross m x).position (taps_in (rest (levels_of m) (place_of_cross m x).path)) _ (cross_placed x h).within

  pub node_is : (x : ℕ) → x < crosses_of m → (node_of_cross m x < nodes_of m) × (way_to m (node_of_cross m x) ≡ (place_of_cross m x).path)
  unfolding node_of_cross
  node_is x h = way-node m (place_of_cross m x).path (cross_placed x h).spot (node_has _ (has_lines x h))

  lines-cross : (x : ℕ) → x < crosses_of m → lines_of m (node_of_cross m x) ≡ lines_in (rest (levels_of m) (place_of_cross m x).path)
  lines-cross x h = lines-way (node_of_cross m x) ∙ ap (λ q. lines_in (rest (levels_of m) q)) (node_is x h).1

  taps-cross : (x : ℕ) → x < crosses_of m → taps_of m (node_of_cross m x) ≡ taps_in (rest (levels_of m) (place_of_cross m x).path)
  taps-cross x h = taps-way (node_of_cross m x) ∙ ap (λ q. taps_in (rest (levels_of m) q)) (node_is x h).1

  position_below : (x : ℕ) → x < crosses_of m → (place_of_cross m x).position < taps_of m (node_of_cross m x) * lines_of m (node_of_cross m x)
  position_below x h = subst (λ k. (place_of_cross m x).position < k * lines_of m (node_of_cross m x)) (sym (taps-cross x h))
      (subst (λ k. (place_of_cross m x).position < taps_in (rest (levels_of m) (place_of_cross m x).path) * k) (sym (lines-cross x h)) (cross_placed x h).within)

  tap_within : (x : ℕ) → x < crosses_of m → tap_position m x < taps_of m (node_of_cross m x)
  unfolding tap_position
  tap_within x h = let p = position_below x h in div_below _ _ _ (positive_from _ _ _ p) p

  line_within : (x : ℕ) → x < crosses_of m → line_position m x < lines_of m (node_of_cross m x)
  unfolding line_position
  line_within x h = let p = position_below x h in mod_below _ _ (positive_from _ _ _ p)

  back_to : (x : ℕ) → x < crosses_of m → cross_at m (node_of_cross m x) (tap_position m x) (line_position m x) ≡ x
  unfolding cross_at tap_position line_position
  back_to x h =
      ap (λ k. start crosses_in (levels_of m) (way_to m (node_of_cross m x)) + k) (div-add-mod' (place_of_cross m x).position (lines_of m (node_of_cross m x)))
      ∙ ap (λ q. start crosses_in (levels_of m) q + (place_of_cross m x).position) (node_is x h).1
      ∙ (cross_placed x h).number

  pub crossed : (x : ℕ) → x < crosses_of m → Crossed x
  crossed x h = record { node = (node_is x h).0; tap = tap_within x h; line = line_within x h; back = back_to x h }

  pub ends-cross : (x : ℕ) → ends_of m x ≡ (tap_at m (node_of_cross m x) (tap_position m x), line_at m (node_of_cross m x) (line_position m x))
  unfolding ends_of
  ends-cross x = refl

  pub one_cross : (x y : ℕ) → x < crosses_of m → y < crosses_of m → ends_of m x ≡ ends_of m y → x ≡ y
  one_cross x y hx hy e =
      let c = crossed x hx in
      let d = crossed y hy in
      let both = sym (ends-cross x) ∙ e ∙ ends-cross y in
      let l = lines_differ (node_of_cross m x) (node_of_cross m y) (line_position m x) (line_position m y) c.node d.node c.line d.line (ap (λ p. p.1) both) in
      let t : tap_at m (node_of_cross m x) (tap_position m x) ≡ tap_at m (node_of_cross m x) (tap_position m y) = ap (λ p. p.0) both ∙ ap (λ n. tap_at m n (tap_position m y)) (sym l.0) in
      let f = taps_differ (node_of_cross m x) (tap_position m x) (tap_position m y) c.node c.tap (subst (λ n. tap_position m y < taps_of m n) (sym l.0) d.tap) t in
      sym c.back ∙ ap (λ a. cross_at m (node_of_cross m x) a (line_position m x)) f
      ∙ ap (λ b. cross_at m (node_of_cross m x) (tap_position m y) b) l.1
      ∙ ap (λ n. cross_at m n (tap_position m y) (line_position m y)) l.0 ∙ d.back

  pub ends_below : (x : ℕ) → x < crosses_of m → ((ends_of m x).0 < wires_of m) × ((ends_of m x).1 < wires_of m)
  ends_below x h =
      let c = crossed x h in (
        subst (λ p. p.0 < wires_of m) (sym (ends-cross x)) (tap_below (node_of_cross m x) (tap_position m x) c.node c.tap),
        subst (λ p. p.1 < wires_of m) (sym (ends-cross x)) (wire_below m _ _ (line_is m (node_of_cross m x) (line_position m x) c.node c.line)),
      )

  pub first_below : (x a b : ℕ) → x < crosses_of m → Ends (ends_of m x) a b → a < wires_of m
  first_below x a b h (in_order s t) = subst (λ k. k < wires_of m) s (ends_below x h).0
  first_below x a b h (turned s t) = subst (λ k. k < wires_of m) t (ends_below x h).1
