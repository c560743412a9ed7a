use Rattle.design_eval.proofs.Vocabulary.{◌≡◌, take, length, bits_put, StillKept, StillTaken}
use Rattle.design_eval.proofs.marks.put_marked.Given as goal

abbrev pub invariant-signals : goal.invariant-signals
invariant-signals l = (l.values ≡ bits_put l.fn.values (take l.k l.signals) (take l.k l.bits)) × (length l.marks ≡ 65536) × StillKept l.readers (take l.k l.signals) l.fn.marks l.fn.values l.marks l.values × (length l.hints ≡ 1024) × StillTaken 0 l.readers l.fn.marks l.fn.values l.marks l.values
