-- Two designs as what is laid on a machine.
use Rattle.std.specs.Prelude.{◌+◌, length}
use Rattle.design_netlist.specs.declared.netlist_data.NetlistData.{NetlistData}
use Rattle.place_both.specs.Both.{AreBothRows, lays_both}
use Rattle.run_image.specs.{Laid.Laid, declared.copies.Copies.TheVariants.One}

-- the two designs as what is laid
abbrev pub both_laid : NetlistData → NetlistData → Laid
both_laid first second = record {
  lays = λ d. lays_both d first second;
  copies = One;
  width = length first.inputs + length second.inputs;
  rows = λ vectors rows. AreBothRows first second vectors rows;
}
