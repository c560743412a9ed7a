-- Covers as tables of 16 cells, looked up by the bits of at most four inputs.
use Rattle.std.specs.Prelude.{◌≡◌, ◌<◌, ℕ, List, Bool, false, Option, None, Some, length, slice_index_or}
use Rattle.design_netlist.specs.{declared.netlist_data.Cover.Cover, Covers.cover_at, Covers.truth, Covers.IsCoverOver}
use Rattle.design_eval.specs.{declared.smalls.Small.Small, declared.smalls.Quick.Quick, declared.turns.Turn.Turn, Tables.address}
use Rattle.design_eval.specs.{Bits.AreBelow, Turns.turn_at}

-- the cell at the signals' address is the cover's truth, whatever bits the signals have
pub record IsSmall (t : Small) (c : Cover) : Type 0 where
  pub wires : length t.wires ≡ 4
  pub size : length t.cells ≡ 16
  pub below : (n : ℕ) → IsCoverOver c n → AreBelow n t.wires
  pub cells : (given : ℕ → Bool) → slice_index_or t.cells (address given t.wires) false ≡ truth given c

-- a cover may have a small table
abbrev pub IsSmallOf : Option Small → Cover → Type 0
IsSmallOf None c = Unit {0}
IsSmallOf (Some t) c = IsSmall t c

abbrev pub quick_at : List Quick → ℕ → Quick
quick_at quicks k = slice_index_or quicks k (record { out = 0; small = None })

-- a cover's output, and its small table where it has one
pub record IsQuick (c : Cover) (q : Quick) : Type 0 where
  pub out : q.out ≡ c.out
  pub small : IsSmallOf q.small c

-- each turn has these
pub record AreQuick (covers : List Cover) (turns : List Turn) (quicks : List Quick) : Type 0 where
  pub len : length quicks ≡ length turns
  pub each : (k : ℕ) → k < length turns → IsQuick (cover_at covers (turn_at turns k).place) (quick_at quicks k)
