use Rattle.machine_meaning.specs.Joined.{here}
use Rattle.machine_meaning.proofs.JoinedLemmas.{Joined-sym, Joined-trans}
use Rattle.machine_meaning.proofs.joining.joined_is_an_equivalence.Goals as goal

pub returns : goal.returns
returns c = record { itself = λ net a. here; turned = λ net a b j. Joined-sym j; onward = λ net a b c p q. Joined-trans p q }
