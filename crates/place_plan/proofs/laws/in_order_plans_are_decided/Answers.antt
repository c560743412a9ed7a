use Rattle.place_plan.proofs.Determined.{fits_or_is_short}
use Rattle.place_plan.proofs.laws.in_order_plans_are_decided.Goals as goal

pub returns : goal.returns
returns c = record { never_both = λ m d n p s is short. fits_or_is_short m d n p s is short }
