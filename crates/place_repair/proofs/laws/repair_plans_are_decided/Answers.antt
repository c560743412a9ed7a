use Rattle.place_repair.proofs.Decided.{never_short}
use Rattle.place_repair.proofs.laws.repair_plans_are_decided.Goals as goal

pub returns : goal.returns
returns c = record { never_both = λ d i s n short seats nets room. never_short c.room_is_decided.ensures.never_both d i s n short seats nets room }
