use Rattle.std.proofs.Common.{arith}
use Rattle.map_text.proofs.NameLemmas.{names-same}
use Rattle.map_text.proofs.names.have_same_names.Goals as goal

pub returns : goal.returns
returns c =
    let same = c.if-words-other_words.false in
    let end = c.words-test.false in
    λ yes.
    names-same c.args.design.now c.args.other.now c.args.words.now c.args.other_words.now (omega (arith, same))
    (λ j lt. c.words.invariant j (omega (arith, lt, end)))
