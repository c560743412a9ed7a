use Rattle.map_eval.proofs.Vocabulary.{◌≡◌, length, AreDue}
use Rattle.map_eval.proofs.latching.find_due.Given as goal

abbrev pub invariant-words : goal.invariant-words
invariant-words l = (length l.due ≡ length l.fn.due) × AreDue l.plan l.state l.word l.due
