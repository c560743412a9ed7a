use Rattle.map_eval.proofs.Vocabulary.{ap, arith, w64, ◌==◌, bit_at-trailing_zeros}
use Rattle.map_eval.proofs.words.lowest.Goals as goal

pub returns : goal.returns
returns c =
    let some = c.if-word-eq0.false in
    let h = bit_at-trailing_zeros w64 c.args.word (omega arith) (omega arith) in
    (h.0, ap (λ b. b == 1) h.1)
