use Rattle.std.proofs.Common.{◌∙◌, sym}
use Rattle.rig_port.proofs.Resumed.{same_bits}
use Rattle.rig_port.proofs.again.is_same.Goals as goal

pub returns : goal.returns
returns c = λ yes. sym c.as_slice.ensures ∙ same_bits c.as_slice.result.now c.as_slice-2.result.now (sym c.eq.ensures ∙ yes) ∙ c.as_slice-2.ensures
