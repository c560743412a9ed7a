-- Names are words: they have bytes, and none of these is a blank, a bad byte, the end of a line or the beginning of a
-- comment.
use Rattle.std.proofs.Common.{◌<◌, ◌^◌, ◌-◌, ◌+◌, ◌%◌, ℕ, Bool, true, false, List, [], ◌∷◌, ◌++◌, length, sym, subst, arith, if◌then◌else◌, nat_lt, length-append, suc, All, ◌==◌}
use Rattle.machine_shape.proofs.Vocabulary.{decimal, decimal_by_steps, Shape}
use Rattle.machine_shape.specs.Vocabulary.{levels_of, place_of, way_to_table, wires_of, tables_of, numbered, inner_letters, steps_name, way_name, port_letter, part_name, wire_name, table_name, Levels, Path, rest}
use Rattle.machine_shape.proofs.Naming.{wire_steps, table_steps, wire_name-place, table_name-way}

abbrev pub AllPlain : List ℕ → Type 0
AllPlain [] = Unit {0}
AllPlain (b ∷ bs) = (35 < b) × (b < 127) × AllPlain bs

pub plain-append : (a b : List ℕ) → AllPlain a → AllPlain b → AllPlain (a ++ b)
plain-append [] b p q = q
plain-append (x ∷ a) b p q = (p.0, p.1, plain-append a b p.2 q)

pub plain-decimal : (n : ℕ) → n < 2 ^ 64 → AllPlain (decimal n)
plain-decimal n h = decimal_by_steps (λ k ds. AllPlain ds)
    (λ k lt. (omega arith, omega arith, tt))
    (λ k ds lt p. plain-append ds ((48 + k % 10) ∷ []) p (omega arith, omega arith, tt)) n h

plain-numbered : (c n : ℕ) → 35 < c → c < 127 → n < 10000000 → AllPlain (numbered c n)
plain-numbered c n p q h = (p, q, plain-decimal n (omega arith))

plain-steps : (letters : List ℕ) (p : Path) → AllPlain letters → All (λ i. i < 10000000) p → AllPlain (steps_name letters p)
plain-steps letters [] q small = tt
plain-steps [] (i ∷ p) q small = tt
plain-steps (c ∷ letters) (i ∷ p) q small = (omega arith, omega arith, plain-append (numbered c i) (steps_name letters p) (plain-numbered c i q.0 q.1 (small 0 0 (omega arith))) (plain-steps letters p q.2 (λ k d lt. small (suc k) d (omega arith))))

plain_letters : AllPlain inner_letters
plain_letters = (omega arith, omega arith, (omega arith, omega arith, (omega arith, omega arith, tt)))

plain-way : (p : Path) → All (λ i. i < 10000000) p → AllPlain (way_name p)
plain-way [] small = (omega arith, omega arith, tt)
plain-way (i ∷ p) small = plain-append (numbered 109 i) (steps_name inner_letters p) (plain-numbered 109 i (omega arith) (omega arith) (small 0 0 (omega arith))) (plain-steps inner_letters p plain_letters (λ k d lt. small (suc k) d (omega arith)))

some_way : (p : Path) → 0 < length (way_name p)
some_way [] = omega arith
some_way (i ∷ p) = omega arith

either_plain : (b : Bool) (u v : List ℕ) → AllPlain u → AllPlain v → AllPlain (if b then u else v)
either_plain true u v p q = p
either_plain false u v p q = q

plain-part : (letter : ℕ) (ls : Levels) (k : ℕ) → 35 < letter → letter < 127 → k < 10000000 → AllPlain (part_name letter ls k)
plain-part letter [] k p q small = either_plain (k == 6) (113 ∷ []) (numbered 105 k) (omega arith, omega arith, tt) (plain-numbered 105 k (omega arith) (omega arith) small)
plain-part letter (l ∷ ls) k p q small = either_plain (nat_lt k l.ports) (numbered letter k) (numbered 108 (k - l.ports)) (plain-numbered letter k p q small) (plain-numbered 108 (k - l.ports) (omega arith) (omega arith) (omega arith))

letter_low : (p : Path) → 35 < port_letter p
letter_low [] = omega arith
letter_low (i ∷ p) = omega arith

letter_high : (p : Path) → port_letter p < 127
letter_high [] = omega arith
letter_high (i ∷ p) = omega arith

abbrev pub IsPlainWord : List ℕ → Type 0
IsPlainWord w = (0 < length w) × AllPlain w

pub wire_word : (m : Shape) (w : ℕ) → w < wires_of m → IsPlainWord (wire_name m w)
wire_word m w lt =
    let s = wire_steps m w lt in
    let p : Path = (place_of m w).path in
    let part : List ℕ = part_name (port_letter p) (rest (levels_of m) p) (place_of m w).position in
    subst IsPlainWord (sym (wire_name-place m w)) (
      let n = length-append (way_name p) (46 ∷ part) in let z = some_way p in omega arith,
      plain-append (way_name p) (46 ∷ part) (plain-way p s.0) (omega arith, omega arith, plain-part (port_letter p) (rest (levels_of m) p) (place_of m w).position (letter_low p) (letter_high p) s.1),
    )

pub table_word : (m : Shape) (t : ℕ) → t < tables_of m → IsPlainWord (table_name m t)
table_word m t lt = subst IsPlainWord (sym (table_name-way m t)) (some_way (way_to_table m t), plain-way (way_to_table m t) (table_steps m t lt))
