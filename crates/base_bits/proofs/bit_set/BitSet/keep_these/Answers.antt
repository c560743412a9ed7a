use Rattle.std.proofs.Common.{◌&&◌, ◌∙◌, false, length, sym, ap, arith, inl, inr}
use Rattle.std.proofs.lemmas.{Bool.cases_lt, List.get_or_past}
use Rattle.base_bits.specs.Numbers.{has_number}
use Rattle.base_bits.proofs.bit_set.BitSet.keep_these.Goals as goal

pub returns-clause-both : goal.returns-clause-both
returns-clause-both c = λ i low high.
    let len = c.len.ensures in
    let end = c.numbers-test.false in
    elim (cases_lt i (length c.args.other.now)) [
      | inl below ↦ let done = c.word_end-i-end.ensures.whole i high (omega (arith, below, len)) in c.numbers.invariant.both i low (omega (arith, done, end))
      | inr past ↦
          get_or_past c.numbers.self i false (omega (arith, past, c.requires.len, c.numbers.invariant.len_is))
          ∙ sym (ap (λ b. b && has_number c.args.self.now i) (get_or_past c.args.other.now i false past))
    ]
