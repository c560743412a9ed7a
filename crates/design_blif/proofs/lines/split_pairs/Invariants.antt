use Rattle.design_blif.proofs.Vocabulary.{◌≡◌, true, map, take, vec_len, list_all, formal_of, actual_of, is_pair}
use Rattle.design_blif.proofs.lines.split_pairs.Given as goal

abbrev pub invariant-words : goal.invariant-words
invariant-words l =
    let read = map (λ w. w.now) (take l.word-index l.words) in
    record {
      formals : map (λ w. w.now) l.formals.items ≡ map formal_of read;
      actuals : map (λ w. w.now) l.actuals.items ≡ map actual_of read;
      pairs : list_all is_pair read ≡ true;
      len : vec_len l.formals ≡ vec_len l.actuals;
    }
