-- The covers in the order in which they are evaluated.
use Rattle.std.specs.Prelude.{◌≡◌, ℕ, ◌<◌, List, None, length, map, slice_index_or}
use Rattle.design_netlist.specs.{declared.netlist_data.Cover.Cover, Vocabulary.cover_at, Vocabulary.IsOrder}
use Rattle.design_eval.specs.{declared.turns.Turn.Turn, Tables.IsTableOf}

abbrev pub turn_at : List Turn → ℕ → Turn
turn_at turns k = slice_index_or turns k (record { out = 0; place = 0; table = None })

-- the covers' places, turn by turn
abbrev pub places : List Turn → List ℕ
places turns = map (λ t. t.place) turns

-- a turn has its cover's output, and its table where it has one
pub record IsTurn (covers : List Cover) (t : Turn) : Type 0 where
  pub out : t.out ≡ (cover_at covers t.place).out
  pub table : IsTableOf t.table (cover_at covers t.place)

-- all covers have a turn, each after those that it reads
pub record AreTurns (covers : List Cover) (turns : List Turn) : Type 0 where
  pub order : IsOrder covers (places turns)
  pub each : (k : ℕ) → k < length turns → IsTurn covers (turn_at turns k)
