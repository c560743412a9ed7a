-- Names and numerals are words: they have bytes, and none of these is a space or ends a line.
use Rattle.machine_defects.proofs.Vocabulary.{◌≡◌, ◌<◌, ◌^◌, ℕ, true, List, [], ◌∷◌, refl, arith, ◌&&◌, decimal, list_all, nat_tests, Shape}
use Rattle.machine_defects.proofs.Vocabulary.{wires_of, tables_of, wire_name, table_name, is_inner, IsWord}
use Rattle.machine_shape.proofs.PlainNames.{AllPlain, plain-decimal, wire_word, table_word}

plain_inner : (b : ℕ) → 35 < b → is_inner b ≡ true
plain_inner b p = grind (arith, nat_tests)

inner_of : (w : List ℕ) → AllPlain w → list_all is_inner w ≡ true
inner_of [] p = refl
inner_of (b ∷ bs) p = (λ i. plain_inner b p.0 i && inner_of bs p.2 i)

pub wire_is_word : (m : Shape) (w : ℕ) → w < wires_of m → IsWord (wire_name m w)
wire_is_word m w lt = let h = wire_word m w lt in (h.0, inner_of (wire_name m w) h.1)

pub table_is_word : (m : Shape) (t : ℕ) → t < tables_of m → IsWord (table_name m t)
table_is_word m t lt = let h = table_word m t lt in (h.0, inner_of (table_name m t) h.1)

pub decimal_inner : (n : ℕ) → n < 2 ^ 64 → list_all is_inner (decimal n) ≡ true
decimal_inner n h = inner_of (decimal n) (plain-decimal n h)
