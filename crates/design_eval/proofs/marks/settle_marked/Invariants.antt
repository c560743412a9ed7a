use Rattle.design_eval.proofs.Vocabulary.{◌≡◌, ◌≤◌, ◌*◌, length, places, AreKept, AreOthersSame, StillTaken}
use Rattle.design_eval.proofs.marks.settle_marked.Given as goal

abbrev pub invariant-words : goal.invariant-words
invariant-words l = (length l.values ≡ length l.fn.values) × (length l.marks ≡ 65536) × (length l.hints ≡ 1024) × AreKept l.plan.covers.now (places l.plan.turns.now) 0 l.marks l.values × AreOthersSame l.plan.covers.now l.fn.values l.values × StillTaken (length l.plan.turns.now) l.plan.readers.now l.fn.marks l.fn.values l.marks l.values × (l.count ≤ 64 * l.place)
