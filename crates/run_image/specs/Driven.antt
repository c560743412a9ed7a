-- A vector on some pins.
use Rattle.std.specs.Prelude.{ℕ, Bool, List, [], ◌∷◌, slice_set}
use Rattle.machine_meaning.specs.Circuit.{Pins}

-- the drive, with this vector on these pins
abbrev pub driven : List ℕ → List Bool → Pins → Pins
driven [] vector drive = drive
driven (p ∷ pins) [] drive = drive
driven (p ∷ pins) (b ∷ bits) drive = driven pins bits (slice_set drive p b)
