use Rattle.std.proofs.Common.{◌∙◌, ◌+◌, ◌++◌, sym, ap, arith, map, drop, take}
use Rattle.design_blif.proofs.Vocabulary.{err_from_is_err_and, list_any, numbers, names_after, is_long}
use Rattle.design_blif.proofs.NamesLemmas.{words_left, words_split, words_taken, full_after, short_more, numbers_more}
use Rattle.design_blif.proofs.names.Names.numbers.Goals as goal

pub returns-in_err-number-clause-refused : goal.returns-in_err-number-clause-refused
returns-in_err-number-clause-refused c =
    let p = err_from_is_err_and c.from_residual.result c.from_residual.ensures.1 in
    let left = words_left c.args.words.now c.words.word-index _ c.words-test.true in
    let split = words_split c.args.words.now c.words.word-index _ c.words-test.true in
    rw (p.1, p.2, split) (full_after c.in_err-number.field-0.0 c.args.self.now c.words.self _ (map (λ w. w.now) (take c.words.word-index c.args.words.now)) (map (λ w. w.now) (drop (c.words.word-index + 1) c.args.words.now)) (ap (names_after c.words.self) (sym left) ∙ c.words.invariant.named ∙ ap (names_after c.args.self.now) split) c.in_err-number.ensures.refused)

pub words-preserved : goal.words-preserved
words-preserved c =
    let left = words_left c.args.words.now c.words.word-index _ c.words-test.true in
    record {
      numbered = rw (c.in_ok-push.ensures.items, c.in_ok-number.ensures.number, c.in_ok-number.ensures.ok) (numbers_more c.words.numbers.items c.words.self _ (map (λ w. w.now) (drop (c.words.word-index + 1) c.args.words.now)) _ (ap (λ ws. c.words.numbers.items ++ numbers c.words.self ws) (sym left) ∙ c.words.invariant.numbered));
      named = rw c.in_ok-number.ensures.ok (ap (names_after c.words.self) (sym left) ∙ c.words.invariant.named);
      short = ap (list_any is_long) (words_taken c.args.words.now c.words.word-index _ c.words-test.true) ∙ short_more (map (λ w. w.now) (take c.words.word-index c.args.words.now)) _ c.words.invariant.short c.in_ok-number.ensures.short;
      counted = omega (arith, c.in_ok-push.ensures.len);
      within = c.in_ok-number.ensures.within;
    }
