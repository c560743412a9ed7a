use Rattle.diag_evidence.proofs.Keeping.{nothing_holds, no_pair_itself, pair_turned}
use Rattle.diag_evidence.proofs.laws.kept_facts_are_sound.Goals as goal

pub returns : goal.returns
returns c = record { nothing = nothing_holds; differ = no_pair_itself; turned = pair_turned }
