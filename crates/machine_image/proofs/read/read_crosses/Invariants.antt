use Rattle.machine_image.proofs.Vocabulary.{◌≡◌, ◌-◌, AreCrosses}
use Rattle.machine_image.proofs.read.read_crosses.Given as goal

abbrev pub invariant-crosses : goal.invariant-crosses
invariant-crosses l = AreCrosses l.fn.config.config.shape l.bytes l.fn.at l.at l.count (l.count - l.counter) l.least l.config.config × (l.config.config ≡ record l.fn.config.config { closed = l.config.config.closed }) × (l.shape ≡ l.fn.config.config.shape)
