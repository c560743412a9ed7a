-- How a configuration is kept: its closed crosspoints as marks and as a list, its tables in place and,
-- those that are on, as a list.
use Rattle.std.specs.Prelude.{◌≡◌, ℕ, ◌≤◌, Bool, false, ◌==◌, Option, None, List, length, map, if◌then◌else◌, slice_index_or, is_some}
use Rattle.std.specs.{Prelude.vec_len, Prelude.count_by, Vec.vec_capacity, Ordering.nat_cmp}
use Rattle.std.specs.FinSet as set
use Rattle.machine_shape.specs.{declared.Cross.Cross, declared.Table.Table, Shape.crosses_of, Shape.tables_of}
use Rattle.machine_config.specs.declared.Setting.{Setting}
use Rattle.machine_config.specs.{declared.Config.TheInside.Inside, Configuration.Configuration, Configuration.IsConfiguration}

abbrev pub set_of : List Cross → set.FinSet nat_cmp
set_of xs = set.from_list (map (λ x. x.0) xs)

-- how often a number stands in a list of crosspoints, and in one of tables
abbrev pub times : ℕ → List Cross → ℕ
times q xs = count_by (λ x. x.0 == q) xs

abbrev pub times_on : ℕ → List Table → ℕ
times_on t xs = count_by (λ x. x.0 == t) xs

abbrev pub once_if : Bool → ℕ
once_if b = if b then 1 else 0

-- whether a number has a mark
abbrev pub has_mark : List Bool → ℕ → Bool
has_mark marks q = slice_index_or marks q false

-- those with a mark stand in the list once, and no others do
abbrev pub AreMarked : List Bool → List Cross → Type 0
AreMarked marks xs = (q : ℕ) → times q xs ≡ once_if (has_mark marks q)

-- those that are on stand in the list once, and no others do
abbrev pub AreListed : List (Option Setting) → List Table → Type 0
AreListed tables on = (t : ℕ) → times_on t on ≡ once_if (is_some (slice_index_or tables t None))

abbrev pub configuration_in : Inside → Configuration
configuration_in a = record { shape = a.shape; closed = set_of a.closed.items; tables = a.tables.items; ticks = a.ticks }

pub record IsKept (a : Inside) : Type 0 where
  pub right : IsConfiguration (configuration_in a)
  pub marked : AreMarked a.marks a.closed.items
  pub wide : crosses_of a.shape ≤ length a.marks
  pub listed : AreListed a.tables.items a.on.items
  pub counted : vec_len a.on ≡ count_by is_some a.tables.items
  pub room : tables_of a.shape ≤ vec_capacity a.on
