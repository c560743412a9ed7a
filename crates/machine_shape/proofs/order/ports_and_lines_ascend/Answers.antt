use Rattle.machine_shape.proofs.Vocabulary.{◌≡◌, ℕ, zero, suc, ◌<◌, refl, arith, Shape}
use Rattle.machine_shape.specs.Shape.{nodes_of, lines_of, own_ports_of, line_at, port_at, IsLine, IsPort}
use Rattle.machine_shape.proofs.order.ports_and_lines_ascend.Goals as goal

port_is : (m : Shape) (n k : ℕ) → n < nodes_of m → k < own_ports_of m n → IsPort m n (port_at m n k)
unfolding own_ports_of IsPort
port_is m zero k lt l = absurd (none l)
  where
    none : k < 0 → ⊥
    none l = omega arith
port_is m (suc n) k lt l = (omega arith, lt, (k, l, refl))

is_port : (m : Shape) (n w : ℕ) → IsPort m n w → (k : ℕ) × (k < own_ports_of m n) × (w ≡ port_at m n k)
unfolding own_ports_of IsPort
is_port m zero w is = absurd (none is.0)
  where
    none : 0 < 0 → ⊥
    none l = omega arith
is_port m (suc n) w is = is.2

line_is : (m : Shape) (n k : ℕ) → n < nodes_of m → k < lines_of m n → IsLine m n (line_at m n k)
unfolding IsLine
line_is m n k lt l = (lt, (k, l, refl))

is_line : (m : Shape) (n w : ℕ) → IsLine m n w → (k : ℕ) × (k < lines_of m n) × (w ≡ line_at m n k)
unfolding IsLine
is_line m n w is = is.1

ports_up : (m : Shape) (n j k : ℕ) → j < k → port_at m n j < port_at m n k
unfolding port_at
ports_up m n j k lt = omega arith

lines_up : (m : Shape) (n j k : ℕ) → j < k → line_at m n j < line_at m n k
unfolding line_at
lines_up m n j k lt = omega arith

pub returns : goal.returns
returns c = λ m. record {
  port = port_is m;
  some_port = is_port m;
  ports_ascend = ports_up m;
  line = line_is m;
  some_line = is_line m;
  lines_ascend = lines_up m;
}
