-- A design that is run, vector by vector.
use Rattle.std.specs.Prelude.{◌≡◌, ℕ, List, Bool}
use Rattle.design_netlist.specs.declared.netlist_data.NetlistData.{NetlistData}
use Rattle.design_netlist.specs.Rows.{IsRightValuation, outputs_in, next_state, first_state}

-- a design, and what its latches give next
pub record EvalState : Type 0 where
  pub netlist : NetlistData
  pub state : List Bool

abbrev pub first_eval : NetlistData → EvalState
first_eval netlist = record { netlist = netlist; state = first_state netlist }

-- at a vector: the row is the outputs in a right valuation, and the latches take what they read in it
pub record IsStep (old : EvalState) (vector row : List Bool) (new : EvalState) : Type 0 where
  pub given : ℕ → Bool
  pub right : IsRightValuation old.netlist old.state vector given
  pub outputs : row ≡ outputs_in old.netlist given
  pub next : new ≡ record { netlist = old.netlist; state = next_state old.netlist given }
