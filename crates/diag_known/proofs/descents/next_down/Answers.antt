use Rattle.diag_known.proofs.Places.{both_pins}
use Rattle.diag_known.proofs.descents.next_down.Goals as goal

pub returns-in-None-clause-left_pin : goal.returns-in-None-clause-left_pin
returns-in-None-clause-left_pin c = both_pins c.in_default.ensures.stays c.in-None.ensures.stays

pub returns-in-None-clause-right_pin : goal.returns-in-None-clause-right_pin
returns-in-None-clause-right_pin c = both_pins c.in-None.ensures.stays c.in_default.ensures.stays
