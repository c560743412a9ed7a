-- Bytes that a store gives are the next ones of its file.
use Rattle.std.proofs.Common.{◌≡◌, ℕ, ◌+◌, ◌≤◌, List, ◌++◌, length, take, drop, Option, None, Some, IfSome, option_map, refl, sym, ap, ◌∙◌, arith, option_and_then}
use Rattle.design_vectors.proofs.Vocabulary.{take-take, take-append-le, take-append-drop, drop-drop, bytes_ahead}
use Rattle.base_io.specs.Vocabulary.{Told, bytes_of, StoreState, StorePlace, AreNext, moved, rest_of}

told-moved : (told : Option (List ℕ)) (at n : ℕ) → option_map (λ bytes. drop (at + n) bytes) told ≡ option_map (λ (bytes : List ℕ). drop n bytes) (option_map (λ bytes. drop at bytes) told)
told-moved None at n = refl
told-moved (Some bytes) at n = ap Some (sym (drop-drop n at bytes))

place-moved : (contents : List ℕ → Told) (current : Option StorePlace) (n : ℕ) → option_and_then (λ p. option_map (λ bytes. drop p.at bytes) (bytes_of (contents p.name))) (moved current n) ≡ option_map (λ (bytes : List ℕ). drop n bytes) (option_and_then (λ p. option_map (λ bytes. drop p.at bytes) (bytes_of (contents p.name))) current)
place-moved contents None n = refl
place-moved contents (Some p) n = told-moved (bytes_of (contents p.name)) p.at n

pub rest-moved : (before after : StoreState) (n : ℕ) → after.contents ≡ before.contents → after.current ≡ moved before.current n → rest_of after ≡ option_map (λ (bytes : List ℕ). drop n bytes) (rest_of before)
rest-moved before after n contents place = rw (contents, place) (place-moved before.contents before.current n)

told-next : (told : Option (List ℕ)) (into : List ℕ) (n : ℕ) → IfSome told (AreNext n into) → told ≡ option_map (λ (rest : List ℕ). take n into ++ rest) (option_map (λ (bytes : List ℕ). drop n bytes) told)
told-next None into n next = refl
told-next (Some rest) into n next = ap Some (sym (ap (λ (t : List ℕ). t ++ drop n rest) next.bytes ∙ take-append-drop n rest))

pub fed : (before after : StoreState) (into tail : List ℕ) (len n : ℕ) → after.contents ≡ before.contents → after.current ≡ moved before.current n → n ≤ length into → length into ≤ len → IfSome (rest_of before) (AreNext n into) → rest_of before ≡ bytes_ahead (take n (take len (into ++ tail))) after
fed before after into tail len n contents place room within next =
    let front : take n (take len (into ++ tail)) ≡ take n into = take-take n len (into ++ tail) (omega arith) ∙ take-append-le n into tail room in
    told-next (rest_of before) into n next ∙
    ap (option_map (λ (rest : List ℕ). take n into ++ rest)) (sym (rest-moved before after n contents place)) ∙
    ap (λ (t : List ℕ). bytes_ahead t after) (sym front)
