-- What is known of a design before it is run, and what is kept of its covers.
use Rattle.std.specs.Prelude.{◌≡◌, ℕ, ◌+◌, ◌<◌, ◌≤◌, List, Bool, length}
use Rattle.design_netlist.specs.{declared.netlist_data.NetlistData.NetlistData, Vocabulary.cover_at, Vocabulary.truth, Vocabulary.bit_at}
use Rattle.design_eval.specs.{declared.plan.Plan.Plan, Bits.IsWiring, Smalls.AreQuick, Latches.HaveBits}
use Rattle.design_eval.specs.{Turns.AreTurns, Turns.places, Readers.AreListed, Readers.AreReaders, Marks.AreKept, Marks.AreTaken}

-- what is known of a design
pub record IsPlan (d : NetlistData) (p : Plan) : Type 0 where
  pub wiring : IsWiring d p.wiring
  pub turns : AreTurns d.covers p.turns.items
  pub quicks : AreQuick d.covers p.turns.items p.quicks.items
  pub few : length p.turns.items ≤ 65535
  pub readers : AreReaders d.covers (places p.turns.items) (length d.names) p.readers
  pub latches : AreListed p.readers (length p.turns.items) p.wiring.reads.items
  pub room : length p.turns.items + length p.wiring.reads.items ≤ 65535

-- each cover that isn't marked has the truth of its inputs' bits
pub record IsMarked (d : NetlistData) (p : Plan) (marks values : List Bool) : Type 0 where
  pub size : length marks ≡ 65536
  pub kept : AreKept d.covers (places p.turns.items) 0 marks values

-- what latches drive has the bits that they gave last, and what they read those that they give next, where they aren't marked
pub record IsHeld (p : Plan) (hints : List ℕ) (marks last state values : List Bool) : Type 0 where
  pub hints_len : length hints ≡ 1024
  pub last_len : length last ≡ length state
  pub given : HaveBits p.wiring.drives.items last values
  pub taken : AreTaken (length p.turns.items) p.wiring.reads.items state marks values

-- all covers have their truths
abbrev pub AllHold : NetlistData → List Bool → Type 0
AllHold d values = (i : ℕ) → i < length d.covers → bit_at values (cover_at d.covers i).out ≡ truth (bit_at values) (cover_at d.covers i)
