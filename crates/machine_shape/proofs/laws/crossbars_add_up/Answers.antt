use Rattle.machine_shape.proofs.{ShortNames.short_wire_name, ShortNames.short_table_name, Sums.has_sums}
use Rattle.machine_shape.proofs.laws.crossbars_add_up.Goals as goal

pub returns : goal.returns
returns c = has_sums
