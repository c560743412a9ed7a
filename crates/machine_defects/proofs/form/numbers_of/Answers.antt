use Rattle.std.proofs.Common.{sym, arith, refl}
use Rattle.machine_defects.proofs.Numerals.{none_read, one_read, none_more, all_read, too_long, empty_is, not_empty}
use Rattle.machine_defects.proofs.form.numbers_of.Goals as goal

pub numbers-init : goal.numbers-init
numbers-init c = none_read c.args.text.now _ refl (omega arith, (omega arith, (omega arith, (omega arith, (omega arith, (omega arith, (omega arith, (omega arith, (omega arith, (omega arith, (omega arith, (omega arith, tt))))))))))))

pub returns-in-None : goal.returns-in-None
returns-in-None c = none_more c.args.text.now c.numbers.numbers c.numbers.left.now c.numbers.i c.numbers.invariant (omega (arith, c.numbers-test.true)) c.in-None.ensures.none

pub numbers-preserved : goal.numbers-preserved
numbers-preserved c = one_read c.args.text.now c.numbers.numbers c.numbers.left.now c.numbers.i c.numbers.invariant c.in-Some.number c.in-Some.rest.now (omega (arith, c.numbers-test.true)) c.in-Some.ensures.some.1 c.in-Some.ensures.some.0 c.in-Some.ensures.one

pub returns-then-is_empty : goal.returns-then-is_empty
returns-then-is_empty c = all_read c.args.text.now c.numbers.numbers c.numbers.left.now c.numbers.i (omega (arith, c.numbers-test.false)) c.numbers.invariant (empty_is c.numbers.left.now (sym c.if-is_empty.ensures))

pub returns-else-is_empty : goal.returns-else-is_empty
returns-else-is_empty c = too_long c.args.text.now c.numbers.numbers c.numbers.left.now c.numbers.i (omega (arith, c.numbers-test.false)) c.numbers.invariant (not_empty c.numbers.left.now (sym c.if-is_empty.ensures))
