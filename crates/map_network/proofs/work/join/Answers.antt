use Rattle.std.proofs.lemmas.Result.{on_ok_weaker}
use Rattle.map_network.specs.Joining.{none, more}
use Rattle.map_network.proofs.work.join.Goals as goal

pub returns-in-Some-clause-puts : goal.returns-in-Some-clause-puts
returns-in-Some-clause-puts c = on_ok_weaker c.settle.result (λ p. more none p) c.settle.ensures

pub returns-in-None-clause-puts : goal.returns-in-None-clause-puts
returns-in-None-clause-puts c = none

pub returns-then-is_marked-clause-puts : goal.returns-then-is_marked-clause-puts
returns-then-is_marked-clause-puts c = none

pub returns-then-is_marked-2-clause-puts : goal.returns-then-is_marked-2-clause-puts
returns-then-is_marked-2-clause-puts c = none
