use Rattle.place_plan.proofs.Vocabulary.{length, HasTerminal}
use Rattle.place_plan.proofs.Decided.{never_both, one_first}
use Rattle.place_plan.proofs.laws.room_is_decided.Goals as goal

pub returns-clause-never_both : goal.returns-clause-never_both
returns-clause-never_both c = λ m d nets tables pins s is short. never_both m d (length nets) (HasTerminal nets) tables pins s is s.resource short

pub returns-clause-one : goal.returns-clause-one
returns-clause-one c = λ m d nets tables pins s t x y. one_first m d (length nets) (HasTerminal nets) tables pins s t s.resource t.resource x y
