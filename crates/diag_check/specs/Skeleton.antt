-- The field of an image: two lines and two ports of each involved node, the image's wires on them, and its crosspoints.
use Rattle.std.specs.Prelude.{◌≡◌, ◌≢◌, ℕ, ◌<◌, Bool, true, Some, List}
use Rattle.base_bits.specs.Numbers.{has_number}
use Rattle.machine_shape.specs.declared.Shape.{Shape}
use Rattle.machine_shape.specs.Shape.{node_of, parent_of, pins_of, pin_wire, ends_of, IsLine, IsPort, IsTap}
use Rattle.machine_config.specs.Configuration.{is_closed}
use Rattle.machine_image.specs.Vocabulary.{ImageValue, Uses, IsInvolved}
use Rattle.diag_known.specs.declared.field.Field.{Field}

-- a tap and a line whose crosspoint is marked
pub record IsMet (m : Shape) (crosses : List Bool) (tap line : ℕ) : Type 0 where
  pub cross : ℕ
  pub ends : ends_of m cross ≡ (tap, line)
  pub marked : has_number crosses cross ≡ true

-- both taps with both lines
pub record AreMet (m : Shape) (crosses : List Bool) (taps lines : ℕ × ℕ) : Type 0 where
  pub first_first : IsMet m crosses taps.0 lines.0
  pub first_second : IsMet m crosses taps.0 lines.1
  pub second_first : IsMet m crosses taps.1 lines.0
  pub second_second : IsMet m crosses taps.1 lines.1

-- two different wires of the field
pub record AreTwo (a : Field) (ws : ℕ × ℕ) : Type 0 where
  pub differ : ws.0 ≢ ws.1
  pub first : has_number a.wires ws.0 ≡ true
  pub second : has_number a.wires ws.1 ≡ true

-- a pin of the machine at the root, a port below it
pub data IsOwn (m : Shape) (n w : ℕ) : Type 0 where
  own_pin : (k : ℕ) → n ≡ 0 → k < pins_of m → w ≡ pin_wire m k → IsOwn m n w
  own_port : IsPort m n w → IsOwn m n w

-- the two lines and the two ports of each involved node, by its number, and what of the image hangs on them
pub record HasSkeleton (i : ImageValue) (a : Field) : Type 0 where
  pub lines : ℕ → ℕ × ℕ
  pub ports : ℕ → ℕ × ℕ
  pub two_lines : (n : ℕ) → IsInvolved i n → AreTwo a (lines n) × IsLine i.config.shape n (lines n).0 × IsLine i.config.shape n (lines n).1
  pub two_ports : (n : ℕ) → IsInvolved i n → AreTwo a (ports n) × IsOwn i.config.shape n (ports n).0 × IsOwn i.config.shape n (ports n).1
  pub own : (n : ℕ) → IsInvolved i n → AreMet i.config.shape a.crosses (ports n) (lines n)
  pub above : (n p : ℕ) → IsInvolved i n → parent_of i.config.shape n ≡ Some p → AreMet i.config.shape a.crosses (ports n) (lines p)
  pub used : (w : ℕ) → Uses i w → has_number a.wires w ≡ true
  pub used_lines : (w : ℕ) → Uses i w → IsLine i.config.shape (node_of i.config.shape w) w →
      IsMet i.config.shape a.crosses (ports (node_of i.config.shape w)).0 w
      × IsMet i.config.shape a.crosses (ports (node_of i.config.shape w)).1 w
  pub used_taps : (w : ℕ) → Uses i w → IsTap i.config.shape (node_of i.config.shape w) w →
      IsMet i.config.shape a.crosses w (lines (node_of i.config.shape w)).0
      × IsMet i.config.shape a.crosses w (lines (node_of i.config.shape w)).1
  pub closed : (x : ℕ) → is_closed i.config x ≡ true → has_number a.crosses x ≡ true
