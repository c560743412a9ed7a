use Rattle.diag_evidence.proofs.Keeping.{advances_itself, advances_then, advances_still, holds_earlier, holds_untried}
use Rattle.diag_evidence.proofs.laws.tests_add_up.Goals as goal

pub returns : goal.returns
returns c = record {
  itself = advances_itself;
  onward = λ a b c k l n. advances_then;
  stays = advances_still;
  earlier = λ k l f. holds_earlier;
  untried = λ k f. holds_untried;
}
