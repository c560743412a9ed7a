-- Vectors that are evaluated at once, each in a lane of its own.
use Rattle.std.specs.Prelude.{◌≡◌, ℕ, ◌<◌, ◌≤◌, List, Bool, false, length}
use Rattle.design_netlist.specs.declared.netlist_data.NetlistData.{NetlistData}
use Rattle.design_netlist.specs.Vocabulary.{IsDriven, number_at, bit_at, lane_bits}
use Rattle.design_eval.specs.{declared.block.Block.Block, Evals.EvalState, Evals.IsStep, Plans.AllHold}

-- the words of all signals but these are as they were
abbrev pub HaveKept : List ℕ → List ℕ → List ℕ → Type 0
HaveKept signals old new = (s : ℕ) → ((k : ℕ) → k < length signals → number_at signals k ≡ s → ⊥) → number_at new s ≡ number_at old s

-- a word for each signal, 0 where nothing drives it; in the lanes of the block's vectors all covers have their truths
pub record IsBlock (d : NetlistData) (b : Block) : Type 0 where
  pub size : length b.words.items ≡ length d.names
  pub few : b.count ≤ 64
  pub hold : (j : ℕ) → j < b.count → AllHold d (lane_bits b.words.items j)
  pub others : (j : ℕ) → j < 64 → (s : ℕ) → (IsDriven d s → ⊥) → bit_at (lane_bits b.words.items j) s ≡ false

-- the row of a vector at any state, which stays
abbrev pub IsRowOf : NetlistData → List Bool → List Bool → Type 0
IsRowOf d vector row =
    (state : List Bool) → length state ≡ length d.latches →
    let at : EvalState = record { netlist = d; state = state } in IsStep at vector row at
