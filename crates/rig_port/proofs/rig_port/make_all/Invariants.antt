use Rattle.rig_port.proofs.Vocabulary.{◌≡◌, take, edited, edits_of}
use Rattle.rig_port.proofs.rig_port.make_all.Given as goal

abbrev pub invariant-changes : goal.invariant-changes
invariant-changes l = (l.set.config.shape ≡ l.initial.set.config.shape) × (l.set.config ≡ edited l.initial.set.config (edits_of (take l.k l.changes)))
