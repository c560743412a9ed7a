-- The crosspoints of a wire at a node, by their numbers.
use Rattle.std.proofs.Common.{◌≡◌, ◌≢◌, ℕ, ◌+◌, ◌-◌, ◌*◌, ◌<◌, ◌≤◌, Bool, List, length, sym, ap, ◌∙◌, subst, arith}
use Rattle.machine_defects.proofs.Vocabulary.{Shape, crosses_are, wires_are, IsSwept, AreShutBy}
use Rattle.machine_shape.specs.Vocabulary.{HasCrosses, first_cross_of, HasRows, wires_of, crosses_of, nodes_of, lines_of, taps_of, ends_of, node_of_cross, tap_position, line_position, tap_at, line_at, cross_at}
use Rattle.machine_shape.proofs.Crossings.{lines_differ, ends_below}
use Rattle.machine_defects.proofs.Sweeping.{sweep_none, swept_by, ends_are, OnLine}

module _ (m : Shape) (crosses : HasCrosses m) (rows : HasRows m) (n w : ℕ) (ln : n < nodes_of m) (line : ℕ) (at : line ≡ line_at m n 0) where
  at_position : (i j y : ℕ) → i < taps_of m n → j < lines_of m n → tap_at m n i ≡ w → y ≡ first_cross_of m n + i * lines_of m n + j → (y < crosses_of m) × (ends_of m y ≡ (w, line_at m n j))
  at_position i j y li lj tap here = (
    subst (λ k. k < crosses_of m) (sym here) (rows.within n i j ln li lj),
    ap (ends_of m) here ∙ rows.ends n i j ln li lj ∙ ap (λ t. (t, line_at m n j)) tap,
  )

  -- the row of a tap, from its crosspoint with the first line on
  module _ (x : ℕ) (found : (x < crosses_of m) × (ends_of m x ≡ (w, line))) where
    same_node : 0 < lines_of m n → (node_of_cross m x ≡ n) × (line_position m x ≡ 0)
    same_node some = lines_differ m (node_of_cross m x) n (line_position m x) 0 (crosses.node x found.0) ln (crosses.line x found.0) some
        (sym (ap (λ (p : ℕ × ℕ). p.1) (ends_are m crosses x found.0)) ∙ ap (λ (p : ℕ × ℕ). p.1) found.1 ∙ at)

    tap_below : node_of_cross m x ≡ n → tap_position m x < taps_of m n
    tap_below same = subst (λ k. tap_position m x < taps_of m k) same (crosses.tap x found.0)

    tap_is : node_of_cross m x ≡ n → tap_at m n (tap_position m x) ≡ w
    tap_is same = ap (λ k. tap_at m k (tap_position m x)) (sym same) ∙ sym (ap (λ (p : ℕ × ℕ). p.0) (ends_are m crosses x found.0)) ∙ ap (λ (p : ℕ × ℕ). p.0) found.1

    first_is : node_of_cross m x ≡ n → line_position m x ≡ 0 → x ≡ first_cross_of m n + tap_position m x * lines_of m n + 0
    first_is same none = sym (crosses.back x found.0) ∙ ap (λ k. cross_at m k (tap_position m x) (line_position m x)) same ∙ ap (cross_at m n (tap_position m x)) none ∙ rows.cross n (tap_position m x) 0

    pub in_row : (j : ℕ) → j < lines_of m n → ((x + j < crosses_of m) × (ends_of m (x + j) ≡ (w, line + j))) × (line + j ≡ line_at m n j)
    in_row j lj =
        let same = same_node (omega (arith, lj)) in
        let first = first_is same.0 same.1 in
        let r = rows.line n j in
        let step : line + j ≡ line_at m n j = omega (arith, at, r) in
        let here = at_position (tap_position m x) j (x + j) (tap_below same.0) lj (tap_is same.0) (omega (arith, first)) in
        ((here.0, subst (λ l. ends_of m (x + j) ≡ (w, l)) (sym step) here.1), step)

    pub line_within : (j : ℕ) → j < lines_of m n → line + j < wires_of m
    line_within j lj = let r = in_row j lj in subst (λ l. l < wires_of m) (ap (λ (p : ℕ × ℕ). p.1) r.0.1) (ends_below m (x + j) r.0.0).1

    pub few_in_row : (j : ℕ) → j < lines_of m n → (x + j < 268435456) × (line + j < 1310720)
    few_in_row j lj = let r = in_row j lj in let l = line_within j lj in let c = crosses_are m in let k = wires_are m in (omega (arith, r.0.0, c.1), omega (arith, l, k.1))

  -- the crosspoints of a line, one in each row
  module _ (first width : ℕ) (from : first ≡ first_cross_of m n) (wide : width ≡ lines_of m n) where
    in_rows : (i j : ℕ) → i < taps_of m n → j < width → line + j ≡ w → (first + i * width + j < crosses_of m) × (ends_of m (first + i * width + j) ≡ (tap_at m n i, w))
    in_rows i j li lj e =
        let here : first + i * width + j ≡ first_cross_of m n + i * lines_of m n + j = ap (λ f. f + i * width + j) from ∙ ap (λ k. first_cross_of m n + i * k + j) wide in
        let lk : j < lines_of m n = subst (λ k. j < k) wide lj in
        let r = rows.line n j in
        let is : line_at m n j ≡ w = omega (arith, at, r, e) in
        (subst (λ y. y < crosses_of m) (sym here) (rows.within n i j ln li lk), ap (ends_of m) here ∙ rows.ends n i j ln li lk ∙ ap (λ l. (tap_at m n i, l)) is)

    -- the line stands at its distance from the first one
    module _ (i : ℕ) (li : i < taps_of m n) (near : w - line < width) (behind : line ≤ w) where
      pub at_distance : (first + i * width + (w - line) < crosses_of m) × (ends_of m (first + i * width + (w - line)) ≡ (tap_at m n i, w))
      at_distance = in_rows i (w - line) li near (omega (arith, behind))

      pub few_at_distance : first + i * width + (w - line) < 268435456
      few_at_distance = let r = at_distance in let c = crosses_are m in omega (arith, r.0, c.1)

  -- the wire is no line here
  pub not_a_line : (c b : List Bool) (s : List ℕ) → length c ≡ crosses_of m → length b ≡ crosses_of m → length s ≡ wires_of m → AreShutBy m c s → ((j : ℕ) → j < lines_of m n → line + j ≢ w) → IsSwept m w (OnLine m n w) c b c b s
  not_a_line c b s lc lb ls counted none = swept_by m w (λ x. ⊥) (OnLine m n w) c b c b s (sweep_none m w (λ x. ⊥) c b s lc lb ls counted (λ x h. h))
      (λ x lt h.
      let e : line_at m n (line_position m x) ≡ w = ap (λ k. line_at m k (line_position m x)) (sym h.0) ∙ sym (ap (λ (p : ℕ × ℕ). p.1) (ends_are m crosses x lt)) ∙ h.1 in
      let r = rows.line n (line_position m x) in
      none (line_position m x) (subst (λ k. line_position m x < lines_of m k) h.0 (crosses.line x lt)) (omega (arith, at, r, e)))
