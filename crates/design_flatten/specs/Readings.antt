-- A netlist in which each signal is driven once.
use Rattle.std.specs.Prelude.{List, None}
use Rattle.design_netlist.specs.declared.netlist_data.NetlistData.{NetlistData}
use Rattle.design_flatten.specs.{declared.model.Model.Model, declared.model.Signal.Signal, Words.IsFirstDoubled, Words.IsFirstUndriven}
use Rattle.design_flatten.specs.{Lines.Line, Netlists.IsReadFrom, Faults.IsClean}

-- the draft is read from the substituted design, no signal of which is driven twice, and each that is read is driven
pub record IsReading (models : List Model) (draft : NetlistData) : Type 0 where
  pub lines : List (Line Signal)
  pub clean : IsClean models lines
  pub netlist : IsReadFrom models lines draft
  pub undoubled : IsFirstDoubled lines None
  pub driven : IsFirstUndriven lines None
