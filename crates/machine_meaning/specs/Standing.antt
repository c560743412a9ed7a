-- Which wires stand on others, and which tables are seated: over any wires and crosspoints, and over the sound ones.
use Rattle.std.specs.Prelude.{◌≡◌, ◌≢◌, ℕ, ◌<◌}
use Rattle.machine_shape.specs.declared.Shape.{Shape}
use Rattle.machine_shape.specs.Shape.{Ends, ends_of, pin_wire, table_wire, pins_of, crosses_of, tables_of, hextant_of, IsLine, IsPort, IsTap}
use Rattle.machine_meaning.specs.{Faults.Faults, Defects.IsOfUse}
use Rattle.machine_meaning.specs.Sound.{IsSoundWire, IsSoundCross, IsSoundTable, IsWholeLine, IsServed}

-- Of these wires, those that stand by these crosspoints: the pins of the machine, and each wire that two of these crosspoints
-- lead from to two different wires that stand.
pub data StandsBy (m : Shape) (wires crosses : ℕ → Type 0) : ℕ → Type 0 where
  pin_stands : (k : ℕ) → k < pins_of m → wires (pin_wire m k) → StandsBy m wires crosses (pin_wire m k)
  on_two : (w x y a b : ℕ) → wires w → crosses x → crosses y → Ends (ends_of m x) a w → Ends (ends_of m y) b w → a ≢ b →
      StandsBy m wires crosses a → StandsBy m wires crosses b → StandsBy m wires crosses w

-- neither a line of the hextant nor a pin of one of its tables
pub record IsOutside (m : Shape) (h w : ℕ) : Type 0 where
  pub no_line : ¬ IsLine m h w
  pub no_pin : (t k : ℕ) → t < tables_of m → hextant_of m t ≡ h → k < 7 → w ≢ table_wire m t k

-- those that stand by wires outside the hextant alone
abbrev pub StandsWithout : Shape → (ℕ → Type 0) → (ℕ → Type 0) → ℕ → ℕ → Type 0
StandsWithout m wires crosses h w = StandsBy m (λ u. wires u × IsOutside m h u) crosses w

-- one of these crosspoints is that of the tap and the line
abbrev pub Meets : Shape → (ℕ → Type 0) → ℕ → ℕ → Type 0
Meets m crosses tap line = (x : ℕ) × crosses x × (ends_of m x ≡ (tap, line))

-- The table's pins are among these wires. Its hextant has two different ports that stand without it, and a line that meets the
-- far port and the table's output. For each input another line meets the near port and the input.
pub record IsSeated (m : Shape) (wires crosses : ℕ → Type 0) (t : ℕ) : Type 0 where
  pub pins : (k : ℕ) → k < 7 → wires (table_wire m t k)
  pub near : ℕ
  pub far : ℕ
  pub line : ℕ
  pub near_port : IsPort m (hextant_of m t) near
  pub far_port : IsPort m (hextant_of m t) far
  pub different : near ≢ far
  pub near_stands : StandsWithout m wires crosses (hextant_of m t) near
  pub far_stands : StandsWithout m wires crosses (hextant_of m t) far
  pub out : IsLine m (hextant_of m t) line × wires line × Meets m crosses far line × Meets m crosses (table_wire m t 6) line
  pub inputs : (k : ℕ) → k < 6 → (l : ℕ) × IsLine m (hextant_of m t) l × wires l × (l ≢ line) × Meets m crosses near l ×
      Meets m crosses (table_wire m t k) l

-- the sound crosspoints of the machine
abbrev pub IsSoundCrossOf : Shape → Faults → ℕ → Type 0
IsSoundCrossOf m f x = (x < crosses_of m) × IsSoundCross m f x

-- the least set of sound wires that has each sound pin of the machine, and each sound wire with sound crosspoints to two
-- different wires of the set
abbrev pub IsStanding : Shape → Faults → ℕ → Type 0
IsStanding m f w = StandsBy m (IsSoundWire m f) (IsSoundCrossOf m f) w

-- The sound pins of the machine stand. Of served nodes the sound taps stand, among them the ports, and of the lines the whole
-- ones and the sound ones with two sound crosspoints; and their sound tables are seated among standing wires.
pub record HasStandingParts (m : Shape) (f : Faults) : Type 0 where
  pub pins : (k : ℕ) → k < pins_of m → IsSoundWire m f (pin_wire m k) → IsStanding m f (pin_wire m k)
  pub taps : (n w : ℕ) → IsServed m f n → IsTap m n w → IsSoundWire m f w → IsStanding m f w
  pub ports : (n w : ℕ) → IsServed m f n → IsPort m n w → IsSoundWire m f w → IsStanding m f w
  pub whole : (n l : ℕ) → IsServed m f n → IsLine m n l → IsWholeLine m f l → IsStanding m f l
  pub lines : (n l : ℕ) → IsServed m f n → IsLine m n l → IsSoundWire m f l → IsOfUse m f l → IsStanding m f l
  pub tables : (t : ℕ) → t < tables_of m → IsServed m f (hextant_of m t) → IsSoundTable m f t →
      IsSeated m (IsStanding m f) (IsSoundCrossOf m f) t
