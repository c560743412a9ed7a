use Rattle.design_blif.proofs.Vocabulary.{◌≡◌, ◌++◌, ◌≤◌, length, map, drop, take, vec_len, false, list_any, numbers, names_after, is_long}
use Rattle.design_blif.proofs.names.Names.numbers.Given as goal

abbrev pub invariant-words : goal.invariant-words
invariant-words l =
    let left = map (λ w. w.now) (drop l.word-index l.words) in
    let all = map (λ w. w.now) l.words in
    record {
      numbered : l.numbers.items ++ numbers l.self left ≡ numbers l.fn.self all;
      named : names_after l.self left ≡ names_after l.fn.self all;
      short : list_any is_long (map (λ w. w.now) (take l.word-index l.words)) ≡ false;
      counted : vec_len l.numbers ≡ l.word-index;
      within : length l.self ≤ 65535;
    }
