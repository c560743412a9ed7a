use Rattle.rig_port.proofs.Vocabulary.{◌≡◌, ◌++◌, take, edits_text, edits_of}
use Rattle.rig_port.proofs.respell.put_changes.Given as goal

abbrev pub invariant-changes : goal.invariant-changes
invariant-changes l = l.line.items ≡ l.initial.line.items ++ edits_text (edits_of (take l.k l.changes))
