-- The levels of a machine by its counts.
use Rattle.std.specs.Prelude.{◌<◌, [], ◌∷◌, slice_index_or, All}
use Rattle.machine_shape.specs.{declared.Counts.Counts, declared.Level.Level, Walk.Levels}

-- root, modules, chips, hextants; the pins of the machine are the root's ports here
unfoldable pub levels_from : Counts → Levels
levels_from c =
    record { ports = c.pins; lines = slice_index_or c.lines 0 0; children = c.modules } ∷
    record { ports = slice_index_or c.ports 0 0; lines = slice_index_or c.lines 1 0; children = c.chips } ∷
    record { ports = slice_index_or c.ports 1 0; lines = slice_index_or c.lines 2 0; children = c.hextants } ∷
    record { ports = slice_index_or c.ports 2 0; lines = slice_index_or c.lines 3 0; children = c.tables } ∷ []

-- at each of these levels, ports, lines and children are at least 1
abbrev pub AreFull : Levels → Type 0
AreFull ls = All (λ (l : Level). (0 < l.ports) × (0 < l.lines) × (0 < l.children)) ls

-- each of the twelve counts is at least 1
abbrev pub IsFull : Counts → Type 0
IsFull c = AreFull (levels_from c)

-- at each of these levels a node has two ports and two lines at least; the pins are the root's ports here
abbrev pub AreAmple : Levels → Type 0
AreAmple ls = All (λ (l : Level). (1 < l.ports) × (1 < l.lines)) ls

abbrev pub IsAmple : Counts → Type 0
IsAmple c = AreAmple (levels_from c)
