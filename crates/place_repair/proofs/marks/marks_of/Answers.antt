use Rattle.std.proofs.Common.{rules}
use Rattle.place_repair.proofs.marks.marks_of.Goals as goal

pub returns : goal.returns
returns c = c.in_ok-marks.ensures.items_if_clones_equal (search rules)
