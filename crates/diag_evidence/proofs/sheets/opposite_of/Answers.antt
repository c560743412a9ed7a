use Rattle.diag_evidence.proofs.Settings.{opposed}
use Rattle.diag_evidence.proofs.sheets.opposite_of.Goals as goal

pub returns : goal.returns
returns c = opposed c.args.setting
