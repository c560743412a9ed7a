use Rattle.machine_meaning.proofs.JoinedLemmas.{Joined-mono, Joined-Shorted}
use Rattle.machine_meaning.proofs.joining.joined_grows.Goals as goal

pub returns : goal.returns
returns c = record { more = λ m f closed more h a b j. Joined-mono m f closed more h j; shorted = λ m f closed a b s. Joined-Shorted m f closed s }
