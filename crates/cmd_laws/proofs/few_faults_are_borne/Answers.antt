use Rattle.cmd_laws.proofs.Bearing.{go-borne, pair-borne, twice-borne}
use Rattle.cmd_laws.proofs.few_faults_are_borne.Goals as goal

pub returns-clause-go : goal.returns-clause-go
returns-clause-go c = λ machine name design vectors k status old new. go-borne c.spare_parts_bear_faults.ensures.standing k status old new machine name design vectors

pub returns-clause-pair : goal.returns-clause-pair
returns-clause-pair c = λ machine name first second vectors k status old new. pair-borne c.spare_parts_bear_faults.ensures.standing k status old new machine name first second vectors

pub returns-clause-twice : goal.returns-clause-twice
returns-clause-twice c = λ machine name design vectors k status old new. twice-borne c.spare_parts_bear_faults.ensures.standing k status old new machine name design vectors
