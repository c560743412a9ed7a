use Rattle.machine_shape.proofs.InRows.{has_rows}
use Rattle.machine_shape.proofs.laws.crosspoints_stand_in_rows.Goals as goal

pub returns : goal.returns
returns c = has_rows
