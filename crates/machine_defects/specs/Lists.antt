-- A list of the defects of a machine, what a further entry makes of it, and what it leaves free.
use Rattle.std.specs.Prelude.{◌≡◌, ℕ, zero, suc, ◌+◌, ◌==◌, Bool, true, not, ◌&&◌, ◌||◌, if◌then◌else◌, refl, List, [], ◌∷◌, ◌++◌}
use Rattle.std.specs.Ordering.{nat_cmp}
use Rattle.std.specs.FinSet as set
use Rattle.std.specs.Coded.{Coded, code_by, coded×, coded_ℕ}
use Rattle.machine_shape.specs.contracts.Shape as shape
use Rattle.machine_shape.specs.declared.Shape.{Shape}
use Rattle.machine_shape.specs.Shape.{crosses_of, tables_of, lines_of, own_ports_of, pins_of, ends_of, table_wire, line_at, port_at, pin_wire}
use Rattle.machine_meaning.specs.Defects.{Defects, AreDefectsOf}

-- the defects that are listed of a machine of this shape
pub record DefectList : Type 0 where
  pub shape : Shape
  pub list : Defects

-- codes, by which a proof tells these values apart
abbrev pub coded_defects : Coded Defects
coded_defects = code_by (set.FinSet nat_cmp × (set.FinSet nat_cmp × set.FinSet nat_cmp))
    (coded× (set.code coded_ℕ) (coded× (set.code coded_ℕ) (set.code coded_ℕ))) (λ d. (d.wires, (d.crosses, d.tables)))
    (λ p. record { wires = p.0; crosses = p.1.0; tables = p.1.1 }) (λ _. refl)

abbrev pub coded_list : Coded DefectList
coded_list = code_by (Shape × Defects) (coded× shape.the_row.coded coded_defects) (λ d. (d.shape, d.list))
    (λ p. record { shape = p.0; list = p.1 }) (λ _. refl)

-- nothing is listed
abbrev pub no_defects : Defects
no_defects = record { wires = set.empty; crosses = set.empty; tables = set.empty }

-- what holds of every list
abbrev pub IsDefectList : DefectList → Type 0
IsDefectList d = AreDefectsOf d.shape d.list

-- ---- numbers that pass a test

-- those below this one, ascending
abbrev pub those : (ℕ → Bool) → ℕ → List ℕ
those test zero = []
those test (suc n) = those test n ++ (if test n then n ∷ [] else [])

-- how many of those below this one
abbrev pub how_many : (ℕ → Bool) → ℕ → ℕ
how_many test zero = 0
how_many test (suc n) = how_many test n + (if test n then 1 else 0)

-- whether each below this one does
abbrev pub all_below : ℕ → (ℕ → Bool) → Bool
all_below zero test = true
all_below (suc n) test = all_below n test && test n

-- ---- what is free, by tests

abbrev pub is_free_wire : Defects → ℕ → Bool
is_free_wire d w = not (set.contains d.wires w)

-- both ends of a crosspoint, and all pins of a table
abbrev pub has_free_ends : Shape → Defects → ℕ → Bool
has_free_ends m d x = is_free_wire d (ends_of m x).0 && is_free_wire d (ends_of m x).1

abbrev pub has_free_pins : Shape → Defects → ℕ → Bool
has_free_pins m d t = all_below 7 (λ k. is_free_wire d (table_wire m t k))

abbrev pub is_free_cross : Shape → Defects → ℕ → Bool
is_free_cross m d x = not (set.contains d.crosses x) && has_free_ends m d x

abbrev pub is_free_table : Shape → Defects → ℕ → Bool
is_free_table m d t = not (set.contains d.tables t) && has_free_pins m d t

-- the crosspoint isn't one of this line with a free tap, or is free
abbrev pub leaves_open : Shape → Defects → ℕ → ℕ → Bool
leaves_open m d line x = not ((ends_of m x).1 == line) || (not (is_free_wire d (ends_of m x).0) || is_free_cross m d x)

abbrev pub is_open_line : Shape → Defects → ℕ → Bool
is_open_line m d line = is_free_wire d line && all_below (crosses_of m) (leaves_open m d line)

-- ---- how much is free

abbrev pub open_lines_of : Shape → Defects → ℕ → ℕ
open_lines_of m d n = how_many (λ k. is_open_line m d (line_at m n k)) (lines_of m n)

abbrev pub free_ports_of : Shape → Defects → ℕ → ℕ
free_ports_of m d n = how_many (λ k. is_free_wire d (port_at m n k)) (own_ports_of m n)

abbrev pub free_tables_of : Shape → Defects → ℕ
free_tables_of m d = how_many (is_free_table m d) (tables_of m)

abbrev pub free_pins_of : Shape → Defects → ℕ
free_pins_of m d = how_many (λ k. is_free_wire d (pin_wire m k)) (pins_of m)

-- ---- a further entry

-- the wire is an end of the crosspoint, and a pin of the table
abbrev pub touches_cross : Shape → ℕ → ℕ → Bool
touches_cross m w x = ((ends_of m x).0 == w) || ((ends_of m x).1 == w)

abbrev pub touches_table : Shape → ℕ → ℕ → Bool
touches_table m w t = not (all_below 7 (λ k. not (table_wire m t k == w)))

-- the list with a wire more: the crosspoints and the table that it touches are listed no more
pub record IsWithWire (d : DefectList) (w : ℕ) (e : DefectList) : Type 0 where
  pub shape : e.shape ≡ d.shape
  pub wires : e.list.wires ≡ set.insert d.list.wires w
  pub crosses : (x : ℕ) → set.contains e.list.crosses x ≡ (set.contains d.list.crosses x && not (touches_cross d.shape w x))
  pub tables : (t : ℕ) → set.contains e.list.tables t ≡ (set.contains d.list.tables t && not (touches_table d.shape w t))

-- the list with a crosspoint more, unless one of its ends is listed
abbrev pub with_cross : Shape → Defects → ℕ → Defects
with_cross m d x = if has_free_ends m d x then record d { crosses = set.insert d.crosses x } else d

-- the list with a table more, unless one of its pins is listed
abbrev pub with_table : Shape → Defects → ℕ → Defects
with_table m d t = if has_free_pins m d t then record d { tables = set.insert d.tables t } else d
