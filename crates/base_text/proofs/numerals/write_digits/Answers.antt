use Rattle.base_text.proofs.Vocabulary.{arith, length-set}
use Rattle.base_text.proofs.NumberLemmas.{starts, room_before, last_digit, more_digits, less_room}
use Rattle.base_text.proofs.numerals.write_digits.Goals as goal

pub digits-init : goal.digits-init
digits-init c =
    let begun = starts c.args.digits.now c.args.n (omega arith) c.told-digits in
    record { numeral = begun.0; room = begun.1; within = omega arith; size = c.told-digits }

pub overflow_sub-place : goal.overflow_sub-place
overflow_sub-place c = room_before c.digits.left c.digits.place (omega arith) c.digits.invariant.room

pub returns-then-left-lt10-clause-numeral : goal.returns-then-left-lt10-clause-numeral
returns-then-left-lt10-clause-numeral c =
    last_digit c.digits.digits c.digits.place c.digits.left c.args.n (omega arith) c.digits.invariant.numeral c.digits.invariant.room (omega arith) c.if-left-lt10.true

pub digits-smaller : goal.digits-smaller
digits-smaller c = omega (arith, room_before c.digits.left c.digits.place (omega arith) c.digits.invariant.room)

pub digits-preserved : goal.digits-preserved
digits-preserved c = record {
  numeral = more_digits c.digits.digits c.digits.place c.digits.left c.args.n (omega arith) c.digits.invariant.numeral c.digits.invariant.room (omega arith) c.if-left-lt10.false;
  room = less_room c.digits.digits c.digits.place c.digits.left c.args.n (omega arith) c.digits.invariant.numeral c.digits.invariant.room (omega arith) c.if-left-lt10.false;
  within = omega arith;
  size = simp length-set c.digits.invariant.size;
}
