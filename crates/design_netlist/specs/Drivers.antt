-- The table of the covers that drive the signals.
use Rattle.std.specs.Prelude.{ℕ, ◌≡◌, ◌<◌, List, Option, None, Some, slice_index_or, length}
use Rattle.design_netlist.specs.{declared.netlist_data.Cover.Cover, Covers.cover_at}

abbrev pub driver_at : List (Option ℕ) → ℕ → Option ℕ
driver_at drivers s = slice_index_or drivers s None

-- the one of the first m covers that drives the signal
abbrev pub IsDriverBelow : List Cover → ℕ → ℕ → Option ℕ → Type 0
IsDriverBelow covers m s None = (i : ℕ) → i < m → (cover_at covers i).out ≡ s → ⊥
IsDriverBelow covers m s (Some d) = (d < m) × ((cover_at covers d).out ≡ s) × ((i : ℕ) → i < m → (cover_at covers i).out ≡ s → i ≡ d)

abbrev pub IsDriver : List Cover → ℕ → Option ℕ → Type 0
IsDriver covers s found = IsDriverBelow covers (length covers) s found

abbrev pub AreDriversBelow : List Cover → ℕ → ℕ → List (Option ℕ) → Type 0
AreDriversBelow covers m count drivers = (s : ℕ) → s < count → IsDriverBelow covers m s (driver_at drivers s)

-- the drivers of all signals. Each signal has at most one
pub record AreDrivers (covers : List Cover) (drivers : List (Option ℕ)) : Type 0 where
  pub drives : (s : ℕ) → s < length drivers → IsDriver covers s (driver_at drivers s)
  pub outs : (i : ℕ) → i < length covers → (cover_at covers i).out < length drivers
  pub ins : (i k : ℕ) → i < length covers → k < length (cover_at covers i).ins → slice_index_or (cover_at covers i).ins k 0 < length drivers
