-- Covers as tables of 64 cells, looked up by the bits of at most six inputs.
use Rattle.std.specs.Prelude.{◌≡◌, ℕ, ◌+◌, ◌*◌, ◌/◌, ◌%◌, ◌==◌, ◌<◌, ◌≤◌, List, [], ◌∷◌, Bool, false, Option, None, Some, if◌then◌else◌}
use Rattle.std.specs.Prelude.{not, length, take, slice_index_or}
use Rattle.design_netlist.specs.{declared.netlist_data.Cover.Cover, Covers.some_matches, Covers.truth, Covers.IsCoverOver}
use Rattle.design_eval.specs.{declared.tables.Table.Table, Bits.AreBelow}

-- a cover's truth, by the bits of its inputs
abbrev pub truth_at : Cover → List Bool → Bool
truth_at c bits = if c.off then not (some_matches c.rows bits) else some_matches c.rows bits

-- the number whose bits are those of the signals, the first one's at place 0
unfoldable pub address : (ℕ → Bool) → List ℕ → ℕ
address given [] = 0
address given (s ∷ ss) = (if given s then 1 else 0) + 2 * address given ss

-- the lowest six bits of a number, from place 0 on
abbrev pub six_bits : ℕ → List Bool
six_bits n =
    (n % 2 == 1) ∷ (n / 2 % 2 == 1) ∷ (n / 2 / 2 % 2 == 1) ∷ (n / 2 / 2 / 2 % 2 == 1) ∷ (n / 2 / 2 / 2 / 2 % 2 == 1) ∷
    (n / 2 / 2 / 2 / 2 / 2 % 2 == 1) ∷ []

-- the cells of a cover, by the bits of its inputs in the lowest places of their number
pub record AreCells (c : Cover) (cells : List Bool) : Type 0 where
  pub len : length cells ≡ 64
  pub each : (n : ℕ) → n < 64 → slice_index_or cells n false ≡ truth_at c (take (length c.ins) (six_bits n))

-- a cover's inputs, and its output in the places that are left
pub record AreWires (c : Cover) (wires : List ℕ) : Type 0 where
  pub len : length wires ≡ 6
  pub ins : take (length c.ins) wires ≡ c.ins
  pub rest : (k : ℕ) → length c.ins ≤ k → k < 6 → slice_index_or wires k 0 ≡ c.out

-- the cell at the signals' address is the cover's truth, whatever bits the signals have
pub record IsTable (t : Table) (c : Cover) : Type 0 where
  pub wires : length t.wires ≡ 6
  pub size : length t.cells ≡ 64
  pub below : (n : ℕ) → IsCoverOver c n → AreBelow n t.wires
  pub cells : (given : ℕ → Bool) → slice_index_or t.cells (address given t.wires) false ≡ truth given c

-- a cover may have a table
abbrev pub IsTableOf : Option Table → Cover → Type 0
IsTableOf None c = Unit {0}
IsTableOf (Some t) c = IsTable t c
