use Rattle.base_text.proofs.Vocabulary.{sym, arith, ◌==◌, position_or_len_is, eq-eqb}
use Rattle.base_text.proofs.bytes.place_of.Goals as goal

pub returns-else-bytes-place-clause-place : goal.returns-else-bytes-place-clause-place
returns-else-bytes-place-clause-place c = sym (position_or_len_is (λ b. b == c.args.byte) c.args.bytes.now c.loop-place.place 0 c.loop-place.invariant.0 c.loop-place.invariant.1 (λ lt. eq-eqb _ _ c.if-bytes-place.false))

pub returns-after-loop-place-clause-place : goal.returns-after-loop-place-clause-place
returns-after-loop-place-clause-place c = sym (position_or_len_is (λ b. b == c.args.byte) c.args.bytes.now c.loop-place.place 0 c.loop-place.invariant.0 c.loop-place.invariant.1 (λ lt. absurd (omega arith)))
