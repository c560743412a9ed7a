use Rattle.place_pair.proofs.Lonely.{first_alone, second_alone}
use Rattle.place_pair.proofs.laws.either_runs_alone.Goals as goal

pub returns : goal.returns
returns c = record {
  first = λ whole first second h n image are left. first_alone whole first second image are h n left;
  second = λ whole first second h n image are left. second_alone whole first second image are h n left;
}
