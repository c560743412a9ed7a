use Rattle.design_eval.proofs.Vocabulary.{◌≡◌, take, bits_put}
use Rattle.design_eval.proofs.bits.put_bits.Given as goal

abbrev pub invariant-signals : goal.invariant-signals
invariant-signals l = l.values ≡ bits_put l.fn.values (take l.k l.signals) (take l.k l.bits)
