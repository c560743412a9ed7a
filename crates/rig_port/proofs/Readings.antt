-- A line of readings has one reading.
use Rattle.std.proofs.Common.{◌≡◌, ℕ, suc, zero, ◌+◌, ◌*◌, ◌/◌, ◌%◌, ◌<◌, ◌≤◌, Bool, true, false, List, [], ◌∷◌, ◌++◌, length, get_or, drop, All, refl, sym, ap, ◌∙◌, arith, subst, flat_map, Ok, ◌==◌}
use Rattle.rig_port.proofs.Vocabulary.{nat_tests, append_assoc, ext_get_or, div_ceil, encode_lower, decode_of, lower_digits, IsBytes}
use Rattle.rig_port.proofs.Vocabulary.{decode_of-encode_lower, length-encode_with, Pins, Check, after, check_bytes}
use Rattle.rig_port.specs.Lines.{line_of, pin_bit, bit_of, octet_at, octets_below, pin_text, reading_body, reading_line}
use Rattle.rig_port.proofs.Spelled.{led}

small : (b : Bool) → pin_bit b ≤ 1
small true = omega arith
small false = omega arith

same_bit : (a b : Bool) → pin_bit a ≡ pin_bit b → a ≡ b
same_bit true true e = refl
same_bit false false e = refl
same_bit true false e = absurd (omega (arith, e))
same_bit false true e = absurd (omega (arith, e))

pub few : (pins : Pins) (k : ℕ) → bit_of pins k ≤ 1
few pins k = small (get_or pins k false)

pub octet_small : (pins : Pins) (k : ℕ) → octet_at pins k < 256
octet_small pins k =
    let a = few pins k in let b = few pins (k + 1) in let c = few pins (k + 2) in let d = few pins (k + 3) in
    let e = few pins (k + 4) in let f = few pins (k + 5) in let g = few pins (k + 6) in let h = few pins (k + 7) in
    omega (arith, a, b, c, d, e, f, g, h)

-- what is left of a byte behind its lowest bits
abbrev behind6 : Pins → ℕ → ℕ
behind6 pins k = bit_of pins (k + 6) + 2 * bit_of pins (k + 7)

abbrev behind5 : Pins → ℕ → ℕ
behind5 pins k = bit_of pins (k + 5) + 2 * behind6 pins k

abbrev behind4 : Pins → ℕ → ℕ
behind4 pins k = bit_of pins (k + 4) + 2 * behind5 pins k

abbrev behind3 : Pins → ℕ → ℕ
behind3 pins k = bit_of pins (k + 3) + 2 * behind4 pins k

abbrev behind2 : Pins → ℕ → ℕ
behind2 pins k = bit_of pins (k + 2) + 2 * behind3 pins k

abbrev behind1 : Pins → ℕ → ℕ
behind1 pins k = bit_of pins (k + 1) + 2 * behind2 pins k

peel : (a b x y : ℕ) → a ≤ 1 → b ≤ 1 → a + 2 * x ≡ b + 2 * y → (a ≡ b) × (x ≡ y)
peel a b x y s t e = (omega (arith, s, t, e), omega (arith, s, t, e))

-- the bits of a byte are known by it
bits_same : (xs ys : Pins) (i : ℕ) → octet_at xs i ≡ octet_at ys i → (r : ℕ) → r < 8 → bit_of xs (i + r) ≡ bit_of ys (i + r)
bits_same xs ys i e r lt = by_place r lt where
  p0 : (bit_of xs i ≡ bit_of ys i) × (behind1 xs i ≡ behind1 ys i)
  p0 = peel (bit_of xs i) (bit_of ys i) (behind1 xs i) (behind1 ys i) (few xs i) (few ys i) (omega (arith, e))

  p1 : (bit_of xs (i + 1) ≡ bit_of ys (i + 1)) × (behind2 xs i ≡ behind2 ys i)
  p1 = peel (bit_of xs (i + 1)) (bit_of ys (i + 1)) (behind2 xs i) (behind2 ys i) (few xs (i + 1)) (few ys (i + 1)) p0.1

  p2 : (bit_of xs (i + 2) ≡ bit_of ys (i + 2)) × (behind3 xs i ≡ behind3 ys i)
  p2 = peel (bit_of xs (i + 2)) (bit_of ys (i + 2)) (behind3 xs i) (behind3 ys i) (few xs (i + 2)) (few ys (i + 2)) p1.1

  p3 : (bit_of xs (i + 3) ≡ bit_of ys (i + 3)) × (behind4 xs i ≡ behind4 ys i)
  p3 = peel (bit_of xs (i + 3)) (bit_of ys (i + 3)) (behind4 xs i) (behind4 ys i) (few xs (i + 3)) (few ys (i + 3)) p2.1

  p4 : (bit_of xs (i + 4) ≡ bit_of ys (i + 4)) × (behind5 xs i ≡ behind5 ys i)
  p4 = peel (bit_of xs (i + 4)) (bit_of ys (i + 4)) (behind5 xs i) (behind5 ys i) (few xs (i + 4)) (few ys (i + 4)) p3.1

  p5 : (bit_of xs (i + 5) ≡ bit_of ys (i + 5)) × (behind6 xs i ≡ behind6 ys i)
  p5 = peel (bit_of xs (i + 5)) (bit_of ys (i + 5)) (behind6 xs i) (behind6 ys i) (few xs (i + 5)) (few ys (i + 5)) p4.1

  p6 : (bit_of xs (i + 6) ≡ bit_of ys (i + 6)) × (bit_of xs (i + 7) ≡ bit_of ys (i + 7))
  p6 = peel (bit_of xs (i + 6)) (bit_of ys (i + 6)) (bit_of xs (i + 7)) (bit_of ys (i + 7)) (few xs (i + 6)) (few ys (i + 6)) p5.1

  by_place : (r : ℕ) → r < 8 → bit_of xs (i + r) ≡ bit_of ys (i + r)
  by_place zero lt = let same : i ≡ i + 0 = omega arith in subst (λ j. bit_of xs j ≡ bit_of ys j) same p0.0
  by_place (suc zero) lt = p1.0
  by_place (suc (suc zero)) lt = p2.0
  by_place (suc (suc (suc zero))) lt = p3.0
  by_place (suc (suc (suc (suc zero)))) lt = p4.0
  by_place (suc (suc (suc (suc (suc zero))))) lt = p5.0
  by_place (suc (suc (suc (suc (suc (suc zero)))))) lt = p6.0
  by_place (suc (suc (suc (suc (suc (suc (suc zero))))))) lt = p6.1
  by_place (suc (suc (suc (suc (suc (suc (suc (suc r)))))))) lt = absurd (omega (arith, lt))

octet_same : (xs ys : Pins) (n : ℕ) → octets_below xs n ≡ octets_below ys n → (j : ℕ) → j < n → octet_at xs (8 * j) ≡ octet_at ys (8 * j)
octet_same xs ys zero e j lt = absurd (omega (arith, lt))
octet_same xs ys (suc n) e j lt = by_order (j == n) refl (λ t le. octet_same xs ys n t j le) where
  heads : octet_at xs (8 * n) ≡ octet_at ys (8 * n)
  heads = cc

  tails : octets_below xs n ≡ octets_below ys n
  tails = cc

  by_order : (b : Bool) → (j == n) ≡ b → (octets_below xs n ≡ octets_below ys n → j < n → octet_at xs (8 * j) ≡ octet_at ys (8 * j)) → octet_at xs (8 * j) ≡ octet_at ys (8 * j)
  by_order true at more = let same : n ≡ j = grind (arith, nat_tests, at) in subst (λ k. octet_at xs (8 * k) ≡ octet_at ys (8 * k)) same heads
  by_order false at more = more tails (grind (arith, nat_tests, at, lt))

are_bytes : (pins : Pins) (n : ℕ) → IsBytes (octets_below pins n)
are_bytes pins zero i = omega arith
are_bytes pins (suc n) zero = octet_small pins (8 * n)
are_bytes pins (suc n) (suc i) = are_bytes pins n i

pub length_octets : (pins : Pins) (n : ℕ) → length (octets_below pins n) ≡ n
length_octets pins zero = refl
length_octets pins (suc n) = ap suc (length_octets pins n)

pub length_text : (pins : Pins) → length (pin_text pins) ≡ 2 * div_ceil (length pins) 8
length_text pins = length-encode_with lower_digits (octets_below pins (div_ceil (length pins) 8)) ∙ ap (λ n. 2 * n) (length_octets pins (div_ceil (length pins) 8))

-- a text of pins has one reading of each width
pub one_text : (xs ys : Pins) → length xs ≡ length ys → pin_text xs ≡ pin_text ys → xs ≡ ys
one_text xs ys len e = ext_get_or false xs ys len at where
  n : ℕ
  n = div_ceil (length xs) 8

  texts : encode_lower (octets_below xs n) ≡ encode_lower (octets_below ys n)
  texts = e ∙ ap (λ m. encode_lower (octets_below ys (div_ceil m 8))) (sym len)

  octets : octets_below xs n ≡ octets_below ys n
  octets =
      let both : Ok (octets_below xs n) ≡ Ok (octets_below ys n)
      = sym (decode_of-encode_lower (octets_below xs n) (are_bytes xs n)) ∙ ap decode_of texts ∙ decode_of-encode_lower (octets_below ys n) (are_bytes ys n) in
      cc

  at : (k : ℕ) → k < length xs → get_or xs k false ≡ get_or ys k false
  at k lt =
      let within : k / 8 < n = omega (arith, lt) in
      let same = bits_same xs ys (8 * (k / 8)) (octet_same xs ys n octets (k / 8) within) (k % 8) (omega arith) in
      let place : 8 * (k / 8) + k % 8 ≡ k = omega arith in
      same_bit (get_or xs k false) (get_or ys k false) (subst (λ j. bit_of xs j ≡ bit_of ys j) place same)

-- two texts of one length before others
pub cut : (a b s t : List ℕ) → length a ≡ length b → a ++ s ≡ b ++ t → (a ≡ b) × (s ≡ t)
cut [] [] s t len e = (refl, e)
cut [] (y ∷ b) s t len e = absurd (omega (arith, len))
cut (x ∷ a) [] s t len e = absurd (omega (arith, len))
cut (x ∷ a) (y ∷ b) s t len e =
    let heads : x ≡ y = cc in
    let tails : a ++ s ≡ b ++ t = cc in
    let more = cut a b s t (omega (arith, len)) tails in
    (ap (λ z. z ∷ a) heads ∙ ap (λ l. y ∷ l) more.0, more.1)

abbrev pub AreOf : ℕ → List Pins → Type 0
AreOf n rows = All (λ row. length row ≡ n) rows

one_led : (n : ℕ) (xs ys : List Pins) (s t : List ℕ) → AreOf n xs → AreOf n ys → length xs ≡ length ys
    → flat_map (led pin_text) xs ++ s ≡ flat_map (led pin_text) ys ++ t → xs ≡ ys
one_led n [] [] s t a b len e = refl
one_led n [] (y ∷ ys) s t a b len e = absurd (omega (arith, len))
one_led n (x ∷ xs) [] s t a b len e = absurd (omega (arith, len))
one_led n (x ∷ xs) (y ∷ ys) s t a b len e =
    let wide : length x ≡ length y = a 0 [] (omega arith) ∙ sym (b 0 [] (omega arith)) in
    let texts : length (led pin_text x) ≡ length (led pin_text y) = ap suc (length_text x ∙ ap (λ m. 2 * div_ceil m 8) wide ∙ sym (length_text y)) in
    let parts = cut (led pin_text x) (led pin_text y) (flat_map (led pin_text) xs ++ s) (flat_map (led pin_text) ys ++ t) texts
    (sym (append_assoc (led pin_text x) (flat_map (led pin_text) xs) s) ∙ e ∙ append_assoc (led pin_text y) (flat_map (led pin_text) ys) t) in
    let text : pin_text x ≡ pin_text y = let led_same : 32 ∷ pin_text x ≡ 32 ∷ pin_text y = parts.0 in cc in
    ap (λ z. z ∷ xs) (one_text x y wide text)
    ∙ ap (λ l. y ∷ l) (one_led n xs ys s t (λ k d lt. a (suc k) d (omega (arith, lt))) (λ k d lt. b (suc k) d (omega (arith, lt))) (omega (arith, len)) parts.1)

abbrev pub sealed : Check → List ℕ → List ℕ
sealed c body = 42 ∷ [] ++ encode_lower (check_bytes (after c body)) ++ 10 ∷ []

pub at_end : (a b c d : List ℕ) → a ++ b ++ c ++ d ≡ a ++ (b ++ c ++ d)
at_end a b c d = append_assoc (a ++ b) c d ∙ append_assoc a b (c ++ d) ∙ ap (λ l. a ++ l) (sym (append_assoc b c d))

-- a line in the order of its parts
pub sealed_line : (c : Check) (body : List ℕ) → line_of c body ≡ body ++ sealed c body
sealed_line c body = at_end body (42 ∷ []) (encode_lower (check_bytes (after c body))) (10 ∷ [])

-- a line of readings has one reading of each width and number
pub one_reading : (c : Check) (n : ℕ) (xs ys : List Pins) → AreOf n xs → AreOf n ys → length xs ≡ length ys → reading_line c xs ≡ reading_line c ys → xs ≡ ys
one_reading c n [] [] a b len e = refl
one_reading c n [] (y ∷ ys) a b len e = absurd (omega (arith, len))
one_reading c n (x ∷ xs) [] a b len e = absurd (omega (arith, len))
one_reading c n (x ∷ xs) (y ∷ ys) a b len e =
    let whole : reading_body (x ∷ xs) ++ sealed c (reading_body (x ∷ xs)) ≡ reading_body (y ∷ ys) ++ sealed c (reading_body (y ∷ ys))
    = sym (sealed_line c (reading_body (x ∷ xs))) ∙ e ∙ sealed_line c (reading_body (y ∷ ys)) in
    one_led n (x ∷ xs) (y ∷ ys) (sealed c (reading_body (x ∷ xs))) (sealed c (reading_body (y ∷ ys))) a b len (ap (λ l. 32 ∷ drop 1 l) whole)
