-- A machine that has parts to spare for a network, and for so many faults.
use Rattle.std.specs.Prelude.{ℕ, ◌+◌, ◌*◌, ◌<◌, ◌≤◌, length}
use Rattle.machine_shape.specs.{declared.Shape.Shape, Shape.nodes_of, Shape.tables_of, Shape.pins_of, Shape.lines_of, Shape.own_ports_of}
use Rattle.map_network.specs.declared.network.Network.{Network}
use Rattle.place_plan.specs.Plans.{nets_in}

-- with so many lost, as many are left as are wanted, and two at least
pub record HasLeft (wanted lost have : ℕ) : Type 0 where
  pub enough : wanted + lost ≤ have
  pub two : 2 + lost ≤ have

-- With 2 k tables lost as many are left as the network has, and with 2 k pins lost as many as it has inputs and outputs, and two at
-- least. Each crossbar has 2 k lines more than the network has nets, and 2 k more than two; and so has each node below the root ports.
pub record HasToSpare (m : Shape) (n : Network) (k : ℕ) : Type 0 where
  pub tables : length n.tables + 2 * k ≤ tables_of m
  pub pins : HasLeft (n.inputs + length n.outputs) (2 * k) (pins_of m)
  pub lines : (c : ℕ) → c < nodes_of m → HasLeft (nets_in n) (2 * k) (lines_of m c)
  pub ports : (c : ℕ) → 0 < c → c < nodes_of m → HasLeft (nets_in n) (2 * k) (own_ports_of m c)
