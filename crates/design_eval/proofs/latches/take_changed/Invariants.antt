use Rattle.design_eval.proofs.Vocabulary.{◌≡◌, length, AreTaken}
use Rattle.design_eval.proofs.latches.take_changed.Given as goal

abbrev pub invariant-words : goal.invariant-words
invariant-words l = (length l.marks ≡ 65536) × (length l.hints ≡ 1024) × (length l.state ≡ length l.taking.reads.now) × AreTaken l.taking.first l.taking.reads.now l.state l.marks l.taking.values.now
