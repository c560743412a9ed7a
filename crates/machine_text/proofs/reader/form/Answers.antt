use Rattle.std.proofs.Common.{arith}
use Rattle.machine_text.proofs.CountLemmas.{form_read, form_over, form_uncounted}
use Rattle.machine_text.proofs.reader.form.Goals as goal

pub returns-in-Err : goal.returns-in-Err
returns-in-Err c = form_uncounted c.args.word.now c.in-Err.field-0 c.in-Err.ensures

pub returns-then-n-lt3 : goal.returns-then-n-lt3
returns-then-n-lt3 c = (form_read c.args.word.now c.in-Ok.n c.in-Ok.ensures.0 c.in-Ok.ensures.1 (omega (arith, c.if-n-lt3.true)), c.in-Ok.ensures.1)

pub returns-else-n-lt3 : goal.returns-else-n-lt3
returns-else-n-lt3 c = form_over c.args.word.now c.in-Ok.n c.in-Ok.ensures.1 (λ lt. omega (arith, c.if-n-lt3.false, lt))
