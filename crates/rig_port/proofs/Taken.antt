-- What is read of a line of readings.
use Rattle.std.proofs.Common.{◌≡◌, ℕ, zero, suc, ◌+◌, ◌-◌, ◌*◌, ◌/◌, ◌%◌, ◌^◌, ◌<◌, ◌≤◌, Bool, true, false, List, [], ◌∷◌, ◌++◌, map, take, drop, length, get_or, set, refl, sym, ap, ◌∙◌, arith, subst, flat_map, ◌==◌, Result, Ok, MatchResult}
use Rattle.rig_port.proofs.Vocabulary.{nat_tests, get_or-set_at, take-suc, drop-append_seam, drop-nil, div_ceil, encode_lower, encode_with}
use Rattle.rig_port.proofs.Vocabulary.{decode_sized, IsBytes, decode_sized-encode_lower, Pins, KeepLengths, Check}
use Rattle.std.proofs.lemmas.List.{append_assoc, drop_more, get_or-drop, get_or-set_other, length-drop, length-map, length-append, take_more_set, ext_get_or}
use Rattle.hex.specs.declared.error.FromHexError.{FromHexError}
use Rattle.rig_port.specs.Lines.{pin_bit, bit_of, octet_at, octets_below, pin_text, reading_body, reading_line}
use Rattle.rig_port.proofs.Spelled.{led}
use Rattle.rig_port.proofs.Readings.{few, octet_small, length_octets, length_text, sealed, sealed_line}

one_bit : (b : Bool) → (pin_bit b == 1) ≡ b
one_bit true = refl
one_bit false = refl

-- a bit of a byte is a pin
module _ (pins : Pins) (k : ℕ) (a : bit_of pins k ≤ 1) (b : bit_of pins (k + 1) ≤ 1) (c : bit_of pins (k + 2) ≤ 1) (d : bit_of pins (k + 3) ≤ 1)
    (e : bit_of pins (k + 4) ≤ 1) (f : bit_of pins (k + 5) ≤ 1) (g : bit_of pins (k + 6) ≤ 1) (h : bit_of pins (k + 7) ≤ 1) where
  is : (v j : ℕ) → v ≡ bit_of pins j → (v == 1) ≡ get_or pins j false
  is v j same = ap (λ n. n == 1) same ∙ one_bit (get_or pins j false)

  at_place : (r : ℕ) → r < 8 → (octet_at pins k / 2 ^ r % 2 == 1) ≡ get_or pins (k + r) false
  at_place zero lt =
      let same : k ≡ k + 0 = omega arith in
      is (octet_at pins k / 1 % 2) k (omega (arith, a, b, c, d, e, f, g, h)) ∙ ap (λ j. get_or pins j false) same
  at_place (suc zero) lt = is (octet_at pins k / 2 % 2) (k + 1) (omega (arith, a, b, c, d, e, f, g, h))
  at_place (suc (suc zero)) lt = is (octet_at pins k / 4 % 2) (k + 2) (omega (arith, a, b, c, d, e, f, g, h))
  at_place (suc (suc (suc zero))) lt = is (octet_at pins k / 8 % 2) (k + 3) (omega (arith, a, b, c, d, e, f, g, h))
  at_place (suc (suc (suc (suc zero)))) lt = is (octet_at pins k / 16 % 2) (k + 4) (omega (arith, a, b, c, d, e, f, g, h))
  at_place (suc (suc (suc (suc (suc zero))))) lt = is (octet_at pins k / 32 % 2) (k + 5) (omega (arith, a, b, c, d, e, f, g, h))
  at_place (suc (suc (suc (suc (suc (suc zero)))))) lt = is (octet_at pins k / 64 % 2) (k + 6) (omega (arith, a, b, c, d, e, f, g, h))
  at_place (suc (suc (suc (suc (suc (suc (suc zero))))))) lt = is (octet_at pins k / 128 % 2) (k + 7) (omega (arith, a, b, c, d, e, f, g, h))
  at_place (suc (suc (suc (suc (suc (suc (suc (suc r)))))))) lt = absurd (omega (arith, lt))

bit_found : (pins : Pins) (k r : ℕ) → r < 8 → (octet_at pins k / 2 ^ r % 2 == 1) ≡ get_or pins (k + r) false
bit_found pins k = at_place pins k (few pins k) (few pins (k + 1)) (few pins (k + 2)) (few pins (k + 3)) (few pins (k + 4)) (few pins (k + 5)) (few pins (k + 6)) (few pins (k + 7))

-- the bytes come the highest first
octet_get : (pins : Pins) (n j : ℕ) → j < n → get_or (octets_below pins n) j 0 ≡ octet_at pins (8 * (n - 1 - j))
octet_get pins zero j lt = absurd (omega (arith, lt))
octet_get pins (suc n) zero lt = ap (λ m. octet_at pins (8 * m)) (let e : n ≡ suc n - 1 - 0 = omega arith in e)
octet_get pins (suc n) (suc j) lt = octet_get pins n j (omega (arith, lt)) ∙ ap (λ m. octet_at pins (8 * m)) (let e : n - 1 - j ≡ suc n - 1 - suc j = omega arith in e)

-- the two digits of a byte
pair_get : (bytes rest : List ℕ) (j : ℕ) → j < length bytes
    → get_or (encode_lower bytes ++ rest) (2 * j) 48 ∷ get_or (encode_lower bytes ++ rest) (2 * j + 1) 48 ∷ [] ≡ encode_lower (get_or bytes j 0 ∷ [])
unfolding encode_with
pair_get [] rest j lt = absurd (omega (arith, lt))
pair_get (b ∷ bytes) rest zero lt = refl
pair_get (b ∷ bytes) rest (suc j) lt =
    let t = encode_lower (b ∷ bytes) ++ rest in
    let first : 2 * suc j ≡ suc (suc (2 * j)) = omega arith in
    let second : 2 * suc j + 1 ≡ suc (suc (2 * j + 1)) = omega arith in
    ap (λ i. get_or t i 48 ∷ get_or t (2 * suc j + 1) 48 ∷ []) first
    ∙ ap (λ i. get_or t (suc (suc (2 * j))) 48 ∷ get_or t i 48 ∷ []) second
    ∙ pair_get bytes rest j (omega (arith, lt))

-- a pin is read from its byte
pub pin_read : (reply rest : List ℕ) (at k octet count place : ℕ) (pins : Pins) (bit : Bool) → drop at reply ≡ pin_text pins ++ rest → count ≡ div_ceil (length pins) 8 → k < length pins
    → place ≡ at + 2 * (count - 1 - k / 8)
    → ((v : ℕ) → v < 256 → get_or reply place 48 ∷ get_or reply (place + 1) 48 ∷ [] ≡ encode_lower (v ∷ []) → octet ≡ v)
    → bit ≡ (octet / 2 ^ (k % 8) % 2 == 1) → bit ≡ get_or pins k false
pin_read reply rest at k octet count place pins bit text many lt place_is byte is =
    is ∙ ap (λ v. v / 2 ^ (k % 8) % 2 == 1) octet_is ∙ bit_found pins (8 * (k / 8)) (k % 8) (omega arith) ∙ ap (λ i. get_or pins i false) whole where
      n : ℕ
      n = div_ceil (length pins) 8

      j : ℕ
      j = n - 1 - k / 8

      within : k / 8 < n
      within = omega (arith, lt)

      bytes : List ℕ
      bytes = octets_below pins n

      below : j < length bytes
      below = let len : length bytes ≡ n = length_octets pins n in omega (arith, len, within)

      v : ℕ
      v = get_or bytes j 0

      v_is : v ≡ octet_at pins (8 * (k / 8))
      v_is = octet_get pins n j (omega (arith, within)) ∙ ap (λ m. octet_at pins (8 * m)) (let e : n - 1 - j ≡ k / 8 = omega (arith, within) in e)

      small : v < 256
      small = let s = octet_small pins (8 * (k / 8)) in omega (arith, s, v_is)

      at_place : (i : ℕ) → get_or reply (at + i) 48 ≡ get_or (pin_text pins ++ rest) i 48
      at_place i = sym (get_or-drop at reply i 48) ∙ ap (λ l. get_or l i 48) text

      place_too : place ≡ at + 2 * j
      place_too = place_is ∙ ap (λ m. at + 2 * (m - 1 - k / 8)) many

      next_too : place + 1 ≡ at + (2 * j + 1)
      next_too = omega (arith, place_too)

      digits : get_or reply place 48 ∷ get_or reply (place + 1) 48 ∷ [] ≡ encode_lower (v ∷ [])
      digits =
          ap (λ i. get_or reply i 48 ∷ get_or reply (place + 1) 48 ∷ []) place_too
          ∙ ap (λ i. get_or reply (at + 2 * j) 48 ∷ get_or reply i 48 ∷ []) next_too
          ∙ ap (λ x. x ∷ get_or reply (at + (2 * j + 1)) 48 ∷ []) (at_place (2 * j))
          ∙ ap (λ x. get_or (pin_text pins ++ rest) (2 * j) 48 ∷ x ∷ []) (at_place (2 * j + 1))
          ∙ pair_get bytes rest j below

      octet_is : octet ≡ octet_at pins (8 * (k / 8))
      octet_is = byte v small digits ∙ v_is

      whole : 8 * (k / 8) + k % 8 ≡ k
      whole = omega arith

-- one more pin was read
pub pins_more : (read pins : Pins) (k : ℕ) (bit : Bool) → k < length read → bit ≡ get_or pins k false → ((j : ℕ) → j < k → get_or read j false ≡ get_or pins j false)
    → (j : ℕ) → j < k + 1 → get_or (set read k bit) j false ≡ get_or pins j false
pins_more read pins k bit lt is below j le = by_order (j == k) refl where
  by_order : (b : Bool) → (j == k) ≡ b → get_or (set read k bit) j false ≡ get_or pins j false
  by_order true at =
      let same : j ≡ k = grind (arith, nat_tests, at) in
      get_or-set_at read k j bit false same lt ∙ is ∙ ap (λ i. get_or pins i false) (sym same)
  by_order false at =
      let less : j < k = grind (arith, nat_tests, at, le) in
      get_or-set_other read k j bit false (λ same. absurd (let no : ⊥ = omega (arith, less, same) in no)) ∙ below j less

-- all pins were read
pub pins_all : (read pins : Pins) (n : ℕ) → length read ≡ n → length pins ≡ n → ((j : ℕ) → j < n → get_or read j false ≡ get_or pins j false) → read ≡ pins
pins_all read pins n len many all = ext_get_or false read pins (len ∙ sym many) (λ j lt. all j (omega (arith, lt, len)))

-- a line with a space in place of its first byte: each text of pins has a space in front
abbrev as_led : List ℕ → List ℕ
as_led reply = 32 ∷ drop 1 reply

-- what is ahead are the texts that weren't read yet
abbrev pub IsAhead : Check → List Pins → ℕ → ℕ → List ℕ → Type 0
IsAhead c rows k at reply = k < length rows → drop at (as_led reply) ≡ flat_map (led pin_text) (drop k rows) ++ sealed c (reading_body rows)

pub ahead_first : (c : Check) (rows : List Pins) (reply : List ℕ) → reply ≡ reading_line c rows → IsAhead c rows 0 0 reply
ahead_first c [] reply is lt = absurd (omega (arith, lt))
ahead_first c (x ∷ xs) reply is lt = ap as_led is ∙ ap as_led (sealed_line c (reading_body (x ∷ xs)))

drop_one : (n : ℕ) (l : List ℕ) → drop 1 (drop n l) ≡ drop (suc n) l
drop_one zero l = refl
drop_one (suc n) [] = refl
drop_one (suc n) (x ∷ l) = drop_one n l

drop_sum : (n m : ℕ) (l : List ℕ) → drop m (drop n l) ≡ drop (n + m) l
drop_sum zero m l = ap (λ i. drop i l) (let e : m ≡ 0 + m = omega arith in e)
drop_sum (suc n) m [] = drop-nil m ∙ sym (drop-nil (suc n + m))
drop_sum (suc n) m (x ∷ l) = drop_sum n m l ∙ ap (λ i. drop i (x ∷ l)) (let e : suc (n + m) ≡ suc n + m = omega arith in e)

-- what stands behind the space in front of a text
pub record Steps (c : Check) (rows : List Pins) (k at : ℕ) (row : Pins) (reply : List ℕ) : Type 0 where
  pub within : at ≤ length reply
  pub rest : List ℕ
  pub text : drop (at + 1) reply ≡ pin_text row ++ rest
  pub fits : at + 1 + length (pin_text row) ≤ length reply + 1
  pub ahead : IsAhead c rows (k + 1) (at + 1 + length (pin_text row)) reply

pub steps : (c : Check) (rows : List Pins) (k at : ℕ) (row : Pins) (reply : List ℕ) → k < length rows → row ≡ get_or rows k row → IsAhead c rows k at reply → Steps c rows k at row reply
steps c rows k at row reply lt is ahead = record {
  within = near;
  rest = behind;
  text = text_is;
  fits = omega (arith, long, led_long, near_too);
  ahead = λ _. sym (drop_sum (at + 1) (length (pin_text row)) (as_led reply)) ∙ ap (drop (length (pin_text row))) next_is ∙ drop-append_seam (pin_text row) behind;
} where
  behind : List ℕ
  behind = flat_map (led pin_text) (drop (k + 1) rows) ++ sealed c (reading_body rows)

  here : drop at (as_led reply) ≡ 32 ∷ (pin_text row ++ behind)
  here =
      ahead lt
      ∙ ap (λ l. flat_map (led pin_text) l ++ sealed c (reading_body rows)) (drop_more rows k row lt)
      ∙ ap (λ r. flat_map (led pin_text) (r ∷ drop (k + 1) rows) ++ sealed c (reading_body rows)) (sym is)
      ∙ append_assoc (led pin_text row) (flat_map (led pin_text) (drop (k + 1) rows)) (sealed c (reading_body rows))

  led_long : length (drop at (as_led reply)) ≡ length (as_led reply) - at
  led_long = length-drop at (as_led reply)

  long : length (drop at (as_led reply)) ≡ suc (length (pin_text row) + length behind)
  long = ap length here ∙ ap suc (length-append (pin_text row) behind)

  short : (l : List ℕ) → length (as_led l) ≤ length l + 1
  short [] = omega arith
  short (x ∷ l) = omega arith

  near_too : length (as_led reply) ≤ length reply + 1
  near_too = short reply

  near : at ≤ length reply
  near = omega (arith, long, led_long, near_too)

  next_is : drop (at + 1) (as_led reply) ≡ pin_text row ++ behind
  next_is = ap (λ i. drop i (as_led reply)) (let e : at + 1 ≡ suc at = omega arith in e) ∙ sym (drop_one at (as_led reply)) ∙ ap (drop 1) here

  shifted : (l : List ℕ) → drop (suc at) l ≡ drop at (drop 1 l)
  shifted [] = sym (drop-nil at)
  shifted (x ∷ l) = refl

  text_is : drop (at + 1) reply ≡ pin_text row ++ behind
  text_is =
      let e : at + 1 ≡ suc at = omega arith in
      ap (λ i. drop i reply) e ∙ shifted reply ∙ ap (λ i. drop i (as_led reply)) (sym e) ∙ next_is

-- rows of the same lengths
pub row_long : (xs ys : List Pins) (k : ℕ) (d e : Pins) → map length xs ≡ map length ys → k < length xs → length (get_or xs k d) ≡ length (get_or ys k e)
row_long [] ys k d e same lt = absurd (omega (arith, lt))
row_long (x ∷ xs) [] k d e same lt = let no : map length (x ∷ xs) ≡ [] = same in cc
row_long (x ∷ xs) (y ∷ ys) zero d e same lt = let both : length x ∷ map length xs ≡ length y ∷ map length ys = same in cc
row_long (x ∷ xs) (y ∷ ys) (suc k) d e same lt =
    let both : length x ∷ map length xs ≡ length y ∷ map length ys = same in
    let tails : map length xs ≡ map length ys = cc in
    row_long xs ys k d e tails (omega (arith, lt))

pub as_many : (xs ys : List Pins) → map length xs ≡ map length ys → length xs ≡ length ys
as_many xs ys same = sym (length-map xs length) ∙ ap length same ∙ length-map ys length

pub any_default : (l : List Pins) (k : ℕ) (d e : Pins) → k < length l → get_or l k d ≡ get_or l k e
any_default [] k d e lt = absurd (omega (arith, lt))
any_default (x ∷ l) zero d e lt = refl
any_default (x ∷ l) (suc k) d e lt = any_default l k d e (omega (arith, lt))

-- one more row was read
rows_more : (reads rows : List Pins) (k : ℕ) (row : Pins) → k < length reads → k < length rows → row ≡ get_or rows k row → take k reads ≡ take k rows
    → take (k + 1) (set reads k row) ≡ take (k + 1) rows
rows_more reads rows k row lt le is same =
    let next : suc k ≡ k + 1 = omega arith in
    take_more_set reads k row lt ∙ ap (λ l. l ++ row ∷ []) same ∙ ap (λ r. take k rows ++ r ∷ []) is ∙ sym (take-suc rows k row le) ∙ ap (λ n. take n rows) next

abbrev pub AreRead : Check → List Pins → List Pins → ℕ → ℕ → List ℕ → Type 0
AreRead c reads rows k at reply = (take k reads ≡ take k rows) × IsAhead c rows k at reply

pub read_next : (c : Check) (initial reads rows : List Pins) (reply : List ℕ) (k at begin after digits : ℕ) (old row : Pins) → KeepLengths initial reads → KeepLengths initial rows → k < length reads
    → old ≡ get_or reads k old → (at ≤ length reply → begin ≡ at + 1) → digits ≡ 2 * div_ceil (length old) 8 → (begin + digits ≤ length reply + 1 → after ≡ begin + digits)
    → ((pins : Pins) (rest : List ℕ) → length pins ≡ length old → drop begin reply ≡ pin_text pins ++ rest → row ≡ pins)
    → AreRead c reads rows k at reply → AreRead c (set reads k row) rows (k + 1) after reply
read_next c initial reads rows reply k at begin after digits old row keep keep_too lt is begin_is digits_is after_is right inv = (
  rows_more reads rows k row lt le (row_is ∙ first_default row) inv.0,
  subst (λ p. IsAhead c rows (k + 1) p reply) place s.ahead,
) where
  same : map length reads ≡ map length rows
  same = keep ∙ sym keep_too

  le : k < length rows
  le = let many = as_many reads rows same in omega (arith, lt, many)

  due : Pins
  due = get_or rows k old

  first_default : (d : Pins) → due ≡ get_or rows k d
  first_default d = any_default rows k old d le

  s : Steps c rows k at due reply
  s = steps c rows k at due reply le (first_default due) inv.1

  begins : begin ≡ at + 1
  begins = begin_is s.within

  long : length due ≡ length old
  long = sym (row_long reads rows k old old same lt) ∙ ap length (sym is)

  row_is : row ≡ due
  row_is = right due s.rest long (ap (λ i. drop i reply) begins ∙ s.text)

  text_long : digits ≡ length (pin_text due)
  text_long = digits_is ∙ ap (λ m. 2 * div_ceil m 8) (sym long) ∙ sym (length_text due)

  place : at + 1 + length (pin_text due) ≡ after
  place =
      let f = s.fits in
      let a : after ≡ begin + digits = after_is (omega (arith, begins, text_long, f)) in
      omega (arith, a, begins, text_long)

-- all rows were read
pub rows_all : (reads rows : List Pins) (n : ℕ) → length reads ≡ n → length rows ≡ n → take n reads ≡ take n rows → reads ≡ rows
rows_all reads rows n len many same = sym (whole reads n len) ∙ same ∙ whole rows n many where
  whole : (l : List Pins) (n : ℕ) → length l ≡ n → take n l ≡ l
  whole [] zero e = refl
  whole [] (suc n) e = refl
  whole (x ∷ l) zero e = absurd (omega (arith, e))
  whole (x ∷ l) (suc n) e = ap (λ r. x ∷ r) (whole l n (omega (arith, e)))

-- two digits are one byte
pub byte_of : (digits out : List ℕ) (v : ℕ) (Q : Type 0) (R : FromHexError → Type 0) → v < 256 → digits ≡ encode_lower (v ∷ [])
    → MatchResult (decode_sized digits 1) (λ bytes. Q × (out ≡ bytes)) R → get_or out 0 0 ≡ v
byte_of digits out v Q R small text value = ap (λ l. get_or l 0 0) decoded.1 where
  bytes : IsBytes (v ∷ [])
  bytes zero = small
  bytes (suc i) = omega arith

  is : decode_sized digits 1 ≡ Ok (v ∷ [])
  is = ap (λ l. decode_sized l 1) text ∙ decode_sized-encode_lower (v ∷ []) 1 refl bytes

  decoded : Q × (out ≡ v ∷ [])
  decoded = subst (λ (r : Result (List ℕ) FromHexError). MatchResult r (λ bytes. Q × (out ≡ bytes)) R) is value
