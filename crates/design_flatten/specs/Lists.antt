-- The lists of a netlist, as far as they have come.
use Rattle.std.specs.Prelude.{◌≡◌, List, ◌++◌}
use Rattle.std.specs.List.{flat_map}
use Rattle.design_flatten.specs.{declared.model.Signal.Signal, Netlists.input_on, Netlists.output_on, Netlists.cover_on, Netlists.latch_on}
use Rattle.design_flatten.specs.{declared.lists.Lists.Lists, Lines.Line}

-- they grow by what the line says
pub record Adds (signals : List Signal) (l : Line Signal) (old new : Lists) : Type 0 where
  pub inputs : new.inputs.items ≡ old.inputs.items ++ input_on signals l
  pub outputs : new.outputs.items ≡ old.outputs.items ++ output_on signals l
  pub covers : new.covers.items ≡ old.covers.items ++ cover_on signals l
  pub latches : new.latches.items ≡ old.latches.items ++ latch_on signals l

-- they are those of the lines
pub record AreLists (signals : List Signal) (lines : List (Line Signal)) (lists : Lists) : Type 0 where
  pub inputs : lists.inputs.items ≡ flat_map (input_on signals) lines
  pub outputs : lists.outputs.items ≡ flat_map (output_on signals) lines
  pub covers : lists.covers.items ≡ flat_map (cover_on signals) lines
  pub latches : lists.latches.items ≡ flat_map (latch_on signals) lines
