-- The lines and ports of a node, by their numbers.
use Rattle.machine_defects.proofs.Vocabulary.{◌≡◌, ℕ, ◌+◌, ◌<◌, refl, arith, Shape, wires_are, ports_within}
use Rattle.machine_shape.specs.Vocabulary.{HasMeanings, HasRows, wires_of, nodes_of, lines_of, own_ports_of, line_at, port_at, Line, Port, is_line, is_port}

module _ (m : Shape) (rows : HasRows m) (n first i : ℕ) where
  pub line_step : first ≡ line_at m n 0 → first + i ≡ line_at m n i
  line_step at = let r = rows.line n i in omega (arith, r, at)

  pub port_step : first ≡ port_at m n 0 → first + i ≡ port_at m n i
  port_step at = let r = rows.port n i in omega (arith, r, at)

module _ (m : Shape) (meanings : HasMeanings m) (rows : HasRows m) (n : ℕ) (ln : n < nodes_of m) (first i : ℕ) where
  pub line_below : first ≡ line_at m n 0 → i < lines_of m n → (first + i < wires_of m) × (first + i < 1310720)
  line_below at li =
      let h = meanings.within (line_at m n i) (Line n i) (is_line n i ln li refl) in
      let e = line_step m rows n first i at in
      let k = wires_are m in (omega (arith, h, e), omega (arith, h, e, k.1))

  pub port_below : first ≡ port_at m n 0 → i < own_ports_of m n → (first + i < wires_of m) × (first + i < 1310720)
  port_below at li =
      let p = ports_within m n i li in
      let h = meanings.within (port_at m n i) (Port n i) (is_port n i p.0 ln p.1 refl) in
      let e = port_step m rows n first i at in
      let k = wires_are m in (omega (arith, h, e), omega (arith, h, e, k.1))
