-- That lines have room.
use Rattle.std.proofs.Common.{◌≡◌, ℕ, suc, ◌+◌, ◌*◌, ◌/◌, ◌<◌, ◌≤◌, List, [], ◌∷◌, ◌++◌, take, drop, length, get_or, refl, sym, ap, ◌∙◌, arith, flat_map}
use Rattle.std.proofs.Math.Nat.{zero-mul, suc-mul, mul-suc, div-mul-le_self, le-mul_of_pos_right, mul-le-mul_right}
use Rattle.rig_port.proofs.Vocabulary.{take-suc, length-take, length-append, sum_by-cons, sum_by_push, sum_by-take-le, div_ceil, sum_by}
use Rattle.rig_port.proofs.Vocabulary.{encode_with, Pins, Check, line_of, word_room, turn_room, pin_text, reading_body}
use Rattle.rig_port.proofs.Spelled.{led}
use Rattle.rig_port.proofs.Readings.{AreOf, sealed, sealed_line, length_text}

abbrev word : ℕ → ℕ
word n = 2 * div_ceil n 8 + 2

rows_room : (n : ℕ) (xs : List Pins) → AreOf n xs → sum_by word_room xs ≡ length xs * word n
rows_room n [] a = let none : 0 ≡ 0 * word n = sym (zero-mul (word n)) in none
rows_room n (x ∷ xs) a =
    let one : word_room x ≡ word n = ap word (a 0 [] (omega arith)) in
    let more : sum_by word_room xs ≡ length xs * word n = rows_room n xs (λ k d lt. a (suc k) d (omega (arith, lt))) in
    let first : sum_by word_room (x ∷ xs) ≡ word_room x + sum_by word_room xs = sum_by-cons word_room x xs in
    let all : suc (length xs) * word n ≡ length xs * word n + word n = suc-mul (length xs) (word n) in
    first ∙ rest (word_room x) (sum_by word_room xs) (length xs * word n) (word n) (suc (length xs) * word n) one more all where
      rest : (a b c w s : ℕ) → a ≡ w → b ≡ c → s ≡ c + w → a + b ≡ s
      rest a b c w s e f g = omega (arith, e, f, g)

-- rows of one width and number take as much
pub same_room : (n : ℕ) (xs ys : List Pins) → AreOf n xs → AreOf n ys → length xs ≡ length ys → sum_by word_room xs ≡ sum_by word_room ys
same_room n xs ys a b len = rows_room n xs a ∙ ap (λ m. m * word n) len ∙ sym (rows_room n ys b)

-- so many at most fit
pub few_enough : (n most : ℕ) (xs : List Pins) → AreOf n xs → length xs ≤ most → most * (2 * div_ceil n 8 + 2) + 8 ≤ turn_room n → sum_by word_room xs + 8 ≤ turn_room n
few_enough n most xs a le fits =
    let all = rows_room n xs a in
    let mono : length xs * word n ≤ most * word n = mul-le-mul_right (word n) le in
    rest (sum_by word_room xs) (length xs * word n) (most * word n) (turn_room n) all mono fits where
      rest : (a b c r : ℕ) → a ≡ b → b ≤ c → c + 8 ≤ r → a + 8 ≤ r
      rest a b c r e f g = omega (arith, e, f, g)

-- as many as a reply has room for
pub fits_many : (pins q : ℕ) → q ≤ 4096 / (2 * div_ceil pins 8 + 1) → q * (2 * div_ceil pins 8 + 2) + 8 ≤ turn_room pins
fits_many pins q le =
    let d = 2 * div_ceil pins 8 + 1 in
    let whole : 4096 / d * d ≤ 4096 = div-mul-le_self 4096 d in
    let mono : q * d ≤ 4096 / d * d = mul-le-mul_right d le in
    let at_least : q ≤ q * d = le-mul_of_pos_right q (omega arith) in
    let wider : q * suc d ≡ q * d + q = mul-suc q d in
    let same : q * (2 * div_ceil pins 8 + 2) ≡ q * suc d = ap (λ m. q * m) (let e : 2 * div_ceil pins 8 + 2 ≡ suc d = omega arith in e) in
    rest pins q (q * d) (4096 / d * d) (q * suc d) (q * (2 * div_ceil pins 8 + 2)) whole mono at_least wider same where
      rest : (pins q b w s r : ℕ) → w ≤ 4096 → b ≤ w → q ≤ b → s ≡ b + q → r ≡ s → r + 8 ≤ 8208 + pins
      rest pins q b w s r whole mono at_least wider same = omega (arith, whole, mono, at_least, wider, same)

-- one fits always
pub fits_one : (pins : ℕ) → 1 * (2 * div_ceil pins 8 + 2) + 8 ≤ turn_room pins
fits_one pins = omega arith

-- no rows take nothing
pub no_words : (xs : List Pins) → length xs ≡ 0 → sum_by word_room xs ≡ 0
no_words [] e = refl
no_words (x ∷ xs) e = absurd (omega (arith, e))

-- one more word
pub one_word : (xs : List Pins) (k : ℕ) (d : Pins) → k < length xs → sum_by word_room (take (k + 1) xs) ≡ sum_by word_room (take k xs) + word_room (get_or xs k d)
one_word xs k d lt =
    let next : k + 1 ≡ suc k = omega arith in
    ap (λ n. sum_by word_room (take n xs)) next ∙ ap (λ l. sum_by word_room l) (take-suc xs k d lt) ∙ sum_by_push word_room (take k xs) (get_or xs k d)

pub words_within : (xs : List Pins) (k : ℕ) → sum_by word_room (take k xs) ≤ sum_by word_room xs
words_within xs k = sum_by-take-le word_room xs k

-- a piece has no more rows than it is long
pub piece_few : (xs : List Pins) (at n : ℕ) → length (take n (drop at xs)) ≤ n
piece_few xs at n = let len = length-take n (drop at xs) in omega (arith, len)

texts_length : (n : ℕ) (xs : List Pins) → AreOf n xs → length (flat_map (led pin_text) xs) ≡ length xs * (2 * div_ceil n 8 + 1)
texts_length n [] a = sym (zero-mul (2 * div_ceil n 8 + 1))
texts_length n (x ∷ xs) a =
    let one : length (pin_text x) ≡ 2 * div_ceil n 8 = length_text x ∙ ap (λ m. 2 * div_ceil m 8) (a 0 [] (omega arith)) in
    let both : length (led pin_text x ++ flat_map (led pin_text) xs) ≡ suc (length (pin_text x)) + length (flat_map (led pin_text) xs)
    = length-append (led pin_text x) (flat_map (led pin_text) xs) in
    let more = texts_length n xs (λ k d lt. a (suc k) d (omega (arith, lt))) in
    let all : suc (length xs) * (2 * div_ceil n 8 + 1) ≡ length xs * (2 * div_ceil n 8 + 1) + (2 * div_ceil n 8 + 1) = suc-mul (length xs) (2 * div_ceil n 8 + 1) in
    both ∙ rest (length (pin_text x)) (2 * div_ceil n 8) (length (flat_map (led pin_text) xs)) (length xs * (2 * div_ceil n 8 + 1)) (suc (length xs) * (2 * div_ceil n 8 + 1)) one more all where
      rest : (a w b c s : ℕ) → a ≡ w → b ≡ c → s ≡ c + (w + 1) → suc a + b ≡ s
      rest a w b c s e f g = omega (arith, e, f, g)

-- how long a body of readings is
body_length : (n : ℕ) (xs : List Pins) → AreOf n xs → 0 < length xs → length (reading_body xs) ≡ length xs * (2 * div_ceil n 8 + 1)
body_length n [] a some = absurd (omega (arith, some))
body_length n (x ∷ xs) a some = texts_length n (x ∷ xs) a

-- a line for which there was room fits
pub line_fits : (n count room : ℕ) (xs : List Pins) → count * (2 * div_ceil n 8 + 1) + 6 ≤ room → 7 ≤ room → length xs ≡ count → AreOf n xs → length (reading_body xs) + 6 ≤ room
line_fits n count room [] fits least len a = omega (arith, least)
line_fits n count room (x ∷ xs) fits least len a =
    let is = body_length n (x ∷ xs) a (omega arith) in
    let same : length (x ∷ xs) * (2 * div_ceil n 8 + 1) ≡ count * (2 * div_ceil n 8 + 1) = ap (λ k. k * (2 * div_ceil n 8 + 1)) len in
    rest (length (reading_body (x ∷ xs))) (length (x ∷ xs) * (2 * div_ceil n 8 + 1)) (count * (2 * div_ceil n 8 + 1)) is same fits where
      rest : (l a b : ℕ) → l ≡ a → a ≡ b → b + 6 ≤ room → l + 6 ≤ room
      rest l a b e f g = omega (arith, e, f, g)

pub room_is : (b words most whole room : ℕ) → words ≡ b → words ≤ most → whole ≡ most + 6 → whole ≤ room → b + 6 ≤ room
room_is b words most whole room e h f g = omega (arith, e, h, f, g)

pub room_least : (most whole room : ℕ) → 1 ≤ most → whole ≡ most + 6 → whole ≤ room → 7 ≤ room
room_least most whole room h f g = omega (arith, h, f, g)

length_sealed : (c : Check) (body : List ℕ) → length (sealed c body) ≡ 6
unfolding encode_with
length_sealed c body = refl

-- a line is six bytes longer than its body
pub length_line : (c : Check) (body : List ℕ) → length (line_of c body) ≡ length body + 6
length_line c body = ap length (sealed_line c body) ∙ length-append body (sealed c body) ∙ ap (λ n. length body + n) (length_sealed c body)
