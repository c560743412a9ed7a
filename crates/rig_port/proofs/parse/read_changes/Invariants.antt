use Rattle.rig_port.proofs.Vocabulary.{All, IsEditOf, edit_of}
use Rattle.rig_port.proofs.parse.read_changes.Given as goal

abbrev pub invariant-words : goal.invariant-words
invariant-words l = All (λ c. IsEditOf l.shape (edit_of c)) l.changes.items
