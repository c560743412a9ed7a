use Rattle.machine_text.proofs.CountLemmas.{no_number, zero_number, one_number}
use Rattle.machine_text.proofs.reader.count.Goals as goal

pub returns-in_default : goal.returns-in_default
returns-in_default c = no_number c.args.word.now c.in_default.ensures.none

pub returns-then-n-eq0 : goal.returns-then-n-eq0
returns-then-n-eq0 c = zero_number c.args.word.now c.in-Some.n c.in-Some.ensures.some.0 c.if-n-eq0.true

pub returns : goal.returns
returns c = one_number c.args.word.now c.in-Some.n c.in-Some.ensures.some.0 c.in-Some.ensures.some.1 c.if-n-eq0.false
