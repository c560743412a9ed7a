-- The words of an entry are words of a line: they have bytes, and none of these is a blank, a bad byte, the end of a
-- line or the beginning of a comment.
use Rattle.std.proofs.Common.{◌≡◌, ◌<◌, ◌-◌, ℕ, Bool, true, false, List, [], ◌∷◌, refl, arith, nat_lt, ◌&&◌, ◌||◌, ltb-true, le-ltb, ne_eqb, not, ◌==◌}
use Rattle.machine_faults.proofs.Vocabulary.{list_all, list_any, decimal_nonempty, and_parts, Shape, ends_of, AllPlain, IsPlainWord}
use Rattle.machine_faults.proofs.Vocabulary.{plain-decimal, wire_word, table_word, is_bad, is_blank, Fault, Stuck, CrossStuck, Cell}
use Rattle.machine_faults.proofs.Vocabulary.{Register, Bridge, Head, CanHave, word_of, bit_word, head_of, rest_of, fault_words}
use Rattle.machine_faults.specs.declared.head.Head.TheVariants as head
use Rattle.machine_faults.proofs.Words.{IsTold, tap_in, line_in}

plain_byte : ℕ → Bool
plain_byte b = nat_lt 35 b && nat_lt b 127

from_test : (w : List ℕ) → list_all plain_byte w ≡ true → AllPlain w
unfolding plain_byte
from_test [] e = tt
from_test (b ∷ bs) e =
    let h = and_parts (plain_byte b) (list_all plain_byte bs) e in
    let g = and_parts (nat_lt 35 b) (nat_lt b 127) h.0 in
    (ltb-true 35 b g.0, ltb-true b 127 g.1, from_test bs h.1)

head_word : (h : Head) → IsPlainWord (word_of h)
unfolding plain_byte
head_word head.Stuck0 = (omega arith, from_test (word_of head.Stuck0) refl)
head_word head.Stuck1 = (omega arith, from_test (word_of head.Stuck1) refl)
head_word head.Open = (omega arith, from_test (word_of head.Open) refl)
head_word head.Closed = (omega arith, from_test (word_of head.Closed) refl)
head_word head.Cell = (omega arith, from_test (word_of head.Cell) refl)
head_word head.Register = (omega arith, from_test (word_of head.Register) refl)
head_word head.Bridge = (omega arith, from_test (word_of head.Bridge) refl)

bit_is_word : (b : Bool) → IsPlainWord (bit_word b)
unfolding plain_byte
bit_is_word false = (omega arith, from_test (bit_word false) refl)
bit_is_word true = (omega arith, from_test (bit_word true) refl)

abbrev pub AreWords : List (List ℕ) → Type 0
AreWords [] = Unit {0}
AreWords (w ∷ ws) = IsPlainWord w × AreWords ws

rest_words : (m : Shape) → IsTold m → (x : Fault) → CanHave m x → AreWords (rest_of m x)
rest_words m k (Stuck w v) p = (wire_word m w.0 p, tt)
rest_words m k (CrossStuck x c) p = (wire_word m (ends_of m x.0).0 (tap_in m k x.0 p), (wire_word m (ends_of m x.0).1 (line_in m k x.0 p), tt))
rest_words m k (Cell t a v) p = (table_word m t.0 p.0, ((decimal_nonempty a (omega (arith, p.1)), plain-decimal a (omega (arith, p.1))), (bit_is_word v, tt)))
rest_words m k (Register t v) p = (table_word m t.0 p, (bit_is_word v, tt))
rest_words m k (Bridge a b) p = (wire_word m a.0 p.0, (wire_word m b.0 p.1, tt))

pub entry_words : (m : Shape) → IsTold m → (x : Fault) → CanHave m x → AreWords (fault_words m x)
entry_words m k x p = (head_word (head_of x), rest_words m k x p)

good_byte : (b : ℕ) → 35 < b → b < 127 → is_bad b ≡ false
good_byte b p q =
    let low : nat_lt b 32 ≡ false = le-ltb b 32 (omega arith) in
    let other : (b == 127) ≡ false = ne_eqb b 127 (λ e. omega arith) in
    (λ i. (low i && not (is_blank b)) || other i)

good_word : (w : List ℕ) → AllPlain w → list_any is_bad w ≡ false
good_word [] p = refl
good_word (b ∷ bs) p = (λ i. good_byte b p.0 p.1 i || good_word bs p.2 i)

good_words : (ws : List (List ℕ)) → AreWords ws → list_any (list_any is_bad) ws ≡ false
good_words [] p = refl
good_words (w ∷ ws) p = (λ i. good_word w p.0.1 i || good_words ws p.1 i)

pub good_entry : (m : Shape) → IsTold m → (x : Fault) → CanHave m x → list_any (list_any is_bad) (fault_words m x) ≡ false
good_entry m k x p = good_words (fault_words m x) (entry_words m k x p)
