-- What a reader holds, as plain lists.
use Rattle.std.specs.Prelude.{map, option_copied}
use Rattle.design_blif.specs.{declared.reader.Reader.Reader, Steps.State}

abbrev pub state_of : Reader → State
state_of r = record {
  seen = record { begun = r.begun; ended = r.ended; names = r.names; current = r.current; control = option_copied r.control };
  inputs = r.inputs.items;
  outputs = r.outputs.items;
  clocks = map (λ c. c.now) r.clocks.items;
  pieces = r.pieces.items;
}
