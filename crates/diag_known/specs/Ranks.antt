-- How known wires are kept: as a list, by the place of each in it, and as a set.
use Rattle.std.specs.Prelude.{◌≡◌, ℕ, Option, Some, None, length, List, is_some, slice_index_or}
use Rattle.std.specs.List.{count_by}
use Rattle.base_bits.specs.Numbers.{has_number}
use Rattle.machine_shape.specs.Shape.{wires_of}
use Rattle.diag_known.specs.{Known.IsAt, declared.known.Known.TheInside.Inside}

-- a wire's place, if it is known
abbrev pub rank_in : List (Option ℕ) → ℕ → Option ℕ
rank_in ranks w = slice_index_or ranks w None

pub record AreRanks (a : Inside) : Type 0 where
  pub wide : length a.ranks.items ≡ wires_of a.shape
  pub right : (w i : ℕ) → rank_in a.ranks.items w ≡ Some i → IsAt a.steps.items i w
  pub whole : (w i : ℕ) → IsAt a.steps.items i w → rank_in a.ranks.items w ≡ Some i
  pub counted : count_by is_some a.ranks.items ≡ length a.steps.items
  pub marks : length a.wires ≡ wires_of a.shape
  pub marked : (w : ℕ) → has_number a.wires w ≡ is_some (rank_in a.ranks.items w)
