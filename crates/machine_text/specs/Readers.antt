-- What a reader holds, and the fault that it comes to.
use Rattle.std.specs.Prelude.{◌≡◌, ◌<◌, List, Ok, Err, MatchOption}
use Rattle.machine_shape.specs.declared.Shape.{Shape}
use Rattle.machine_text.specs.{declared.reader.Reader.Reader, declared.said.Said.Said, Reading.State, Reading.start, Reading.reading}
use Rattle.base_text.specs.Lines.{LogicalLine}
use Rattle.machine_text.specs.declared.kind.MachineFault.{MachineFault, TheVariants.At, TheVariants.Memory}
use Rattle.machine_text.specs.Machine.{KeepsLimits}

abbrev pub state_of : Reader → State
state_of r = record { read = r.read; said = r.said }

-- it has the shape of its counts once all nine lines were read
abbrev pub IsReader : Reader → Type 0
IsReader r = MatchOption r.shape (r.read < 9) (λ s. (r.read ≡ 9) × (s.counts ≡ r.said.counts) × KeepsLimits r.said)

-- the lines say this, and it makes this shape
abbrev pub IsReadShape : List LogicalLine → Said → Shape → Type 0
IsReadShape lines said s = (reading start lines ≡ Ok said) × (s.counts ≡ said.counts) × KeepsLimits said

-- reading the lines comes to this fault; of a lack of memory nothing is said
abbrev pub IsReadFault : List LogicalLine → MachineFault → Type 0
IsReadFault lines Memory = Unit {0}
IsReadFault lines (At line kind) = reading start lines ≡ Err (line, kind)
