use Rattle.std.proofs.Common.{◌∙◌, false, length, sym, arith, inl, inr}
use Rattle.std.proofs.lemmas.{Bool.cases_lt, Bool.false≢true, List.get_or_past}
use Rattle.base_bits.proofs.bit_set.BitSet.are_within.Goals as goal

pub returns-clause-yes : goal.returns-clause-yes
returns-clause-yes c = λ _ i low high on.
    let len = c.len.ensures in
    let end = c.numbers-test.false in
    elim (cases_lt i (length c.args.self.now)) [
      | inl below ↦ let done = c.word_end-i-end.ensures.whole i high (omega (arith, below, len)) in c.numbers.invariant i low (omega (arith, done, end)) on
      | inr past ↦ absurd (false≢true (sym (get_or_past c.args.self.now i false past) ∙ on))
    ]
