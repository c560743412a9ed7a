-- What the lines above a line say of it.
use Rattle.std.specs.Prelude.{ℕ, Bool, List, Option}
use Rattle.design_netlist.specs.declared.netlist_data.Cover.{Cover}

-- of the lines of a model: whether a line stands there, whether the last is `.end`, the names, the cover whose rows go on, and
-- the control of the latches
pub record Seen : Type 0 where
  pub begun : Bool
  pub ended : Bool
  pub names : List (List ℕ)
  pub current : Option Cover
  pub control : Option (List ℕ)

-- of a text: the names of the models, and the lines of the last
pub record Above : Type 0 where
  pub models : List (List ℕ)
  pub this : Seen
