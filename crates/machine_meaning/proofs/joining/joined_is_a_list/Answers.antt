use Rattle.machine_meaning.proofs.ByList.{list_of, joined_of}
use Rattle.machine_meaning.proofs.joining.joined_is_a_list.Goals as goal

pub returns : goal.returns
returns c = λ net a b. ((λ j. list_of j), (λ s. joined_of net a b s.0 s.1))
