use Rattle.std.proofs.Common.{◌∙◌, ap}
use Rattle.example_cases.specs.LateBoards.{Late}
use Rattle.example_cases.proofs.rigs.late_board.LateBoardBoard.set_up.Goals as goal

pub invariant_of-self : goal.invariant_of-self
invariant_of-self g c = λ set. record {
  loaded = c.args.config.now.config;
  config = c.in-Ok.ensures;
  shape = ap (λ (l : Late). l.found) c.self.view_is ∙ c.requires;
}
