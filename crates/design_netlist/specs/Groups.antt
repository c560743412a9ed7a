-- Groups of covers that reach one another.
use Rattle.std.specs.Prelude.{ℕ, ◌≡◌, ◌<◌, ◌↔◌, List, map, length}
use Rattle.design_netlist.specs.{declared.netlist_data.Cover.Cover, declared.search.State.State, Covers.Reaches, Searches.search_number}
use Rattle.design_netlist.specs.Valuations.{number_at}

-- two covers have the same number exactly where each reaches the other
pub record AreGroups (covers : List Cover) (groups : List ℕ) : Type 0 where
  pub len : length groups ≡ length covers
  pub same : (u v : ℕ) → u < length covers → v < length covers →
      (number_at groups u ≡ number_at groups v) ↔ (Reaches covers u v × Reaches covers v u)

abbrev pub numbers_of : List State → List ℕ
numbers_of states = map search_number states
