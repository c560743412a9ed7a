-- A configuration: what is set on a machine.
use Rattle.std.specs.Prelude.{◌≡◌, ℕ, ◌^◌, ◌<◌, ◌≤◌, Bool, true, false, ◌==◌, Option, None, List, All, IfSome, length, if◌then◌else◌}
use Rattle.std.specs.{Prelude.slice_index_or, Prelude.slice_set, Prelude.bit_xor, Prelude.replicate, Prelude.refl, Ordering.nat_cmp}
use Rattle.std.specs.Int.{bit_at}
use Rattle.std.specs.FinSet as set
use Rattle.std.specs.Coded.{Coded, code_by, coded×, coded_ℕ, coded_bool, coded_list, coded_option}
use Rattle.machine_shape.specs.contracts.Shape as shape
use Rattle.machine_shape.specs.{declared.Shape.Shape, Bounds.most_ticks, Shape.crosses_of, Shape.tables_of}
use Rattle.machine_config.specs.declared.Setting.{Setting}

-- the closed crosspoints, what each table does that is switched on, by the table's number, and how
-- many ticks a cycle has
pub record Configuration : Type 0 where
  pub shape : Shape
  pub closed : set.FinSet nat_cmp
  pub tables : List (Option Setting)
  pub ticks : ℕ

-- a table that is on has 64 cells
abbrev pub CellsFit : Option Setting → Type 0
CellsFit o = IfSome o (λ s. s.cells < 2 ^ 64)

-- it is one of its machine
pub record IsConfiguration (g : Configuration) : Type 0 where
  pub crosses : (x : ℕ) → set.contains g.closed x ≡ true → x < crosses_of g.shape
  pub tables : length g.tables ≡ tables_of g.shape
  pub cells : All CellsFit g.tables
  pub some_ticks : 1 ≤ g.ticks
  pub few_ticks : g.ticks ≤ most_ticks g.shape

-- a configuration, and for how many more closings there is room
pub record Roomy : Type 0 where
  pub config : Configuration
  pub spare : ℕ

abbrev pub is_closed : Configuration → ℕ → Bool
is_closed g x = set.contains g.closed x

-- what a table does, or None where it is off
abbrev pub setting_of : Configuration → ℕ → Option Setting
setting_of g t = slice_index_or g.tables t None

-- nothing is closed, nothing is on, and a cycle has one tick
abbrev pub cleared : Shape → Configuration
cleared m = record { shape = m; closed = set.empty; tables = replicate (tables_of m) None; ticks = 1 }

abbrev pub with_closed : Configuration → ℕ → Configuration
with_closed g x = record g { closed = set.insert g.closed x }

abbrev pub with_open : Configuration → ℕ → Configuration
with_open g x = record g { closed = set.remove g.closed x }

abbrev pub with_setting : Configuration → ℕ → Option Setting → Configuration
with_setting g t s = record g { tables = slice_set g.tables t s }

abbrev pub with_ticks : Configuration → ℕ → Configuration
with_ticks g n = record g { ticks = n }

-- what the cell for an address gives: that bit of the cells
abbrev pub cell_of : Setting → ℕ → Bool
cell_of s a = bit_at s.cells a == 1

-- the number with this bit at a value
abbrev pub with_bit : ℕ → ℕ → Bool → ℕ
with_bit n a true = if bit_at n a == 1 then n else bit_xor n (2 ^ a)
with_bit n a false = if bit_at n a == 1 then bit_xor n (2 ^ a) else n

-- the setting with this cell, or this initial bit, at a value
abbrev pub with_cell : Setting → ℕ → Bool → Setting
with_cell s a b = record s { cells = with_bit s.cells a b }

abbrev pub with_init : Setting → Bool → Setting
with_init s b = record s { init = b }

-- codes, by which a proof tells these values apart
abbrev pub coded_setting : Coded Setting
coded_setting = code_by (ℕ × (Bool × Bool)) (coded× coded_ℕ (coded× coded_bool coded_bool)) (λ s. (s.cells, (s.latched, s.init)))
    (λ p. record { cells = p.0; latched = p.1.0; init = p.1.1 }) (λ _. refl)

abbrev pub coded_configuration : Coded Configuration
coded_configuration = code_by ((Shape × ℕ) × (set.FinSet nat_cmp × List (Option Setting)))
    (coded× (coded× shape.the_row.coded coded_ℕ) (coded× (set.code coded_ℕ) (coded_list (coded_option coded_setting))))
    (λ g. ((g.shape, g.ticks), (g.closed, g.tables))) (λ p. record { shape = p.0.0; ticks = p.0.1; closed = p.1.0; tables = p.1.1 })
    (λ _. refl)

abbrev pub coded_roomy : Coded Roomy
coded_roomy = code_by (Configuration × ℕ) (coded× coded_configuration coded_ℕ) (λ r. (r.config, r.spare))
    (λ p. record { config = p.0; spare = p.1 }) (λ _. refl)
