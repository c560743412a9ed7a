-- How long the lines of a text are at most.
use Rattle.std.proofs.Common.{◌≡◌, ◌<◌, ◌≤◌, ◌+◌, ◌*◌, ℕ, Bool, true, false, List, [], ◌∷◌, length, map, arith, length-append, if◌then◌else◌, refl}
use Rattle.machine_faults.proofs.Vocabulary.{AllByRecursion, flat_map, length-decimal-le, Shape, ends_of, wire_name, table_name, is_small}
use Rattle.machine_faults.proofs.Vocabulary.{most_faults, most_text, spaced, written, written_line, Fault, Stuck, CrossStuck, Cell}
use Rattle.machine_faults.proofs.Vocabulary.{Register, Bridge, Head, CanHave, word_of, bit_word, head_of, rest_of, fault_words}
use Rattle.std.specs.Fmt.{decimal}
use Rattle.machine_shape.proofs.ShortNames.{short_wire_name, short_table_name}
use Rattle.machine_faults.specs.declared.head.Head.TheVariants as head
use Rattle.machine_faults.proofs.Words.{IsTold, tap_in, line_in}

short_bit : (b : Bool) → length (bit_word b) ≤ 1
short_bit true = omega arith
short_bit false = omega arith

-- the words behind the first, each with a space before it
abbrev behind : List (List ℕ) → List ℕ
behind ws = flat_map (λ v. 32 ∷ v) ws

behind_one : (a : List ℕ) → length (behind (a ∷ [])) ≤ 1 + length a
behind_one a = omega (arith, length-append a (behind []))

behind_two : (a b : List ℕ) → length (behind (a ∷ b ∷ [])) ≤ 2 + length a + length b
behind_two a b = omega (arith, length-append a (behind (b ∷ [])), behind_one b)

behind_three : (a b c : List ℕ) → length (behind (a ∷ b ∷ c ∷ [])) ≤ 3 + length a + length b + length c
behind_three a b c = omega (arith, length-append a (behind (b ∷ c ∷ [])), behind_two b c)

-- two names, or one with small numbers
short_rest : (m : Shape) → IsTold m → (x : Fault) → CanHave m x → length (behind (rest_of m x)) ≤ 50
short_rest m k (Stuck w v) p =
    let a : List ℕ = wire_name m w.0 in
    omega (arith, behind_one a, short_wire_name m w.0 p)
short_rest m k (CrossStuck x c) p =
    let a : List ℕ = wire_name m (ends_of m x.0).0 in
    let b : List ℕ = wire_name m (ends_of m x.0).1 in
    omega (arith, behind_two a b, short_wire_name m (ends_of m x.0).0 (tap_in m k x.0 p), short_wire_name m (ends_of m x.0).1 (line_in m k x.0 p))
short_rest m k (Cell t a v) p =
    let b : List ℕ = table_name m t.0 in
    let d = length-decimal-le 2 a (omega arith) (omega (arith, p.1)) (omega (arith, p.1)) in
    omega (arith, behind_three b (decimal a) (bit_word v), short_table_name m t.0 p.0, d, short_bit v)
short_rest m k (Register t v) p =
    let b : List ℕ = table_name m t.0 in
    omega (arith, behind_two b (bit_word v), short_table_name m t.0 p, short_bit v)
short_rest m k (Bridge a b) p =
    let c : List ℕ = wire_name m a.0 in
    let d : List ℕ = wire_name m b.0 in
    omega (arith, behind_two c d, short_wire_name m a.0 p.0, short_wire_name m b.0 p.1)

short_head : (h : Head) → length (word_of h) ≤ 8
short_head head.Stuck0 = omega arith
short_head head.Stuck1 = omega arith
short_head head.Open = omega arith
short_head head.Closed = omega arith
short_head head.Cell = omega arith
short_head head.Register = omega arith
short_head head.Bridge = omega arith

short_line : (m : Shape) → IsTold m → (x : Fault) → CanHave m x → length (written_line (fault_words m x)) ≤ 64
short_line m k x p =
    let r = short_rest m k x p in
    let h = short_head (head_of x) in
    let n = length-append (word_of (head_of x)) (behind (rest_of m x)) in
    let l = length-append (spaced (fault_words m x)) (10 ∷ []) in
    omega (arith, r, h, n, l)

pub short_text : (m : Shape) → IsTold m → (xs : List Fault) → AllByRecursion (CanHave m) xs → length (written (map (fault_words m) xs)) ≤ 64 * length xs
short_text m k [] p = omega arith
short_text m k (x ∷ xs) p =
    let n = length-append (written_line (fault_words m x)) (written (map (fault_words m) xs)) in
    let l = short_line m k x p.0 in
    let r = short_text m k xs p.1 in
    omega (arith, n, l, r)

-- so many bytes of each of the most faults are no more than are read
pub enough_bytes : (m : Shape) → 64 * most_faults m ≤ most_text m
unfolding most_faults most_text
enough_bytes m = by_size (is_small m.counts)
  where
    by_size : (b : Bool) → 64 * (if b then 65536 else 16777216) ≤ (if b then 16777216 else 1073741824)
    by_size true = omega arith
    by_size false = omega arith
