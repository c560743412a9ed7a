use Rattle.base_text.proofs.Vocabulary.{sym, arith, position_or_len_is, is_blank}
use Rattle.base_text.proofs.bytes.blank_place.Goals as goal

pub returns-else-not-is_blank-clause-place : goal.returns-else-not-is_blank-clause-place
returns-else-not-is_blank-clause-place c = sym (position_or_len_is is_blank c.args.bytes.now c.loop-place.place 0 c.loop-place.invariant.0 c.loop-place.invariant.1 (λ lt. sym c.if-not-is_blank.ensures))

pub returns-after-loop-place-clause-place : goal.returns-after-loop-place-clause-place
returns-after-loop-place-clause-place c = sym (position_or_len_is is_blank c.args.bytes.now c.loop-place.place 0 c.loop-place.invariant.0 c.loop-place.invariant.1 (λ lt. absurd (omega arith)))
