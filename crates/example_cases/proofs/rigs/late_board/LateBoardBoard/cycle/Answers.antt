use Rattle.std.proofs.Common.{◌∙◌}
use Rattle.example_cases.proofs.rigs.late_board.LateBoardBoard.cycle.Goals as goal

pub invariant_of-self : goal.invariant_of-self
invariant_of-self g c = λ set.
    let has = c.self.invariant set in
    record { loaded = has.loaded; config = c.in-Ok.ensures.cycles.config ∙ has.config; shape = has.shape }
