-- The next bytes of a file make a longer front.
use Rattle.std.proofs.Common.{◌≡◌, ℕ, ◌+◌, ◌≤◌, length, List, ◌++◌, take, drop, IfSome, option_map, arith, ◌∙◌, refl}
use Rattle.std.proofs.{lemmas.Grind.common_steps, Math.Seq.take-add, lemmas.List.take-append-le}
use Rattle.base_io.specs.Vocabulary.{Told, untold, absent, holds, bytes_of, IfTold, StoreState, AreNext, moved, rest_of, IsFront}

-- at bytes that may be told
front-more : (told : Told) (text into : List ℕ) (n : ℕ) → IfTold told (λ bytes. text ≡ take (length text) bytes) → IfSome (option_map (λ bytes. drop (length text) bytes) (bytes_of told)) (AreNext n into) → IfTold told (λ bytes. text ++ take n into ≡ take (length text + n) bytes)
front-more untold text into n front next = tt
front-more absent text into n front next = front
front-more (holds bytes) text into n front next = rw (take-add, ← front, ← next.bytes) refl

pub IsFront-more : (name : List ℕ) (most : ℕ) (old mid new : StoreState) (text into tail more : List ℕ) (n : ℕ) → IsFront name most old mid text → new.contents ≡ mid.contents → mid.failures ≤ new.failures → new.asked ≡ mid.asked → n ≤ length into → new.current ≡ moved mid.current n → IfSome (rest_of mid) (AreNext n into) → length into + length text ≤ most + 1 → more ≡ text ++ take n (into ++ tail) → IsFront name most old new more
IsFront-more name most old mid new text into tail more n front contents later asked room place bytes short is =
    let same : more ≡ text ++ take n into = rw (is, take-append-le n into tail room) refl in
    let longer : length more ≡ length text + n = grind (arith, common_steps, same, room) in
    let at = rw front.current at place in
    let next = rw (front.current, front.contents) at bytes in
    record {
      contents = contents ∙ front.contents;
      later = omega arith;
      asked = asked ∙ front.asked;
      current = rw (at, longer) refl;
      short = omega arith;
      front = rw (longer, same) (front-more (old.contents name) text into n front.front next);
    }
