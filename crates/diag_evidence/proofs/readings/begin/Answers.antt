use Rattle.diag_evidence.proofs.Fewer.{few_begin}
use Rattle.diag_evidence.proofs.readings.begin.Goals as goal

pub returns-clause-few : goal.returns-clause-few
returns-clause-few g c = few_begin _ _ c.load.result c.load.ensures.machine c.load.ensures.counted c.load.ensures.not_counted c.load.ensures.made
