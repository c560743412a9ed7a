-- Crosspoints stand in rows.
use Rattle.machine_shape.proofs.Vocabulary.{◌≡◌, ℕ, ◌+◌, ◌*◌, ◌<◌, refl, sym, ap, ◌∙◌, subst, arith, Shape}
use Rattle.machine_shape.specs.Vocabulary.{start, crosses_in, levels_of, way_to, crosses_of, lines_of, line_at, port_at, cross_at, node_of_cross, ends_of, first_cross_of, HasRows}
use Rattle.machine_shape.proofs.Crossings as crossings

module _ (m : Shape) where
  pub first_cross_is : (n : ℕ) → start crosses_in (levels_of m) (way_to m n) ≡ first_cross_of m n
  unfolding first_cross_of
  first_cross_is n = refl

  cross_in_row : (n i j : ℕ) → cross_at m n i j ≡ first_cross_of m n + i * lines_of m n + j
  unfolding first_cross_of cross_at
  cross_in_row n i j = omega arith

  line_in_row : (n j : ℕ) → line_at m n j ≡ line_at m n 0 + j
  unfolding line_at
  line_in_row n j = omega arith

  port_in_row : (n k : ℕ) → port_at m n k ≡ port_at m n 0 + k
  unfolding port_at
  port_in_row n k = omega arith

  pub has_rows : HasRows m
  has_rows = record {
    cross = cross_in_row;
    within = λ n i j ln li lj. subst (λ x. x < crosses_of m) (cross_in_row n i j) (crossings.cross_below m n i j ln li lj);
    node = λ n i j ln li lj. ap (node_of_cross m) (sym (cross_in_row n i j)) ∙ crossings.node_of_cross-at m n i j ln li lj;
    ends = λ n i j ln li lj. ap (ends_of m) (sym (cross_in_row n i j)) ∙ crossings.ends_of-at m n i j ln li lj;
    line = line_in_row;
    port = port_in_row;
  }
