use Rattle.rig_port.proofs.Vocabulary.{◌≡◌, take, after}
use Rattle.rig_port.proofs.check.Check.with_body.Given as goal

abbrev pub invariant-bytes : goal.invariant-bytes
invariant-bytes l = l.check ≡ after l.fn.self (take l.k l.body)
