use Rattle.design_eval.proofs.Vocabulary.{◌≡◌, take, map, bit_at}
use Rattle.design_eval.proofs.bits.read_bits.Given as goal

abbrev pub invariant-signals : goal.invariant-signals
invariant-signals l = take l.k l.out ≡ map (bit_at l.values) (take l.k l.signals)
