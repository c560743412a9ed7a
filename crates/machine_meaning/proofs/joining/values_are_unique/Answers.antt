use Rattle.machine_meaning.proofs.{JoinedLemmas.Joined-sym, Values.IsValue-unique, Values.IsValue-along}
use Rattle.machine_meaning.proofs.joining.values_are_unique.Goals as goal

pub returns : goal.returns
returns c = record { one = λ c drive outputs w a b p q. IsValue-unique p q; same = λ c drive outputs w u b j p. IsValue-along (Joined-sym j) p }
