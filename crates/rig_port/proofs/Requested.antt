-- A line of a request is that of one request.
use Rattle.std.proofs.Common.{◌≡◌, ℕ, suc, zero, ◌+◌, ◌*◌, ◌^◌, ◌<◌, ◌≤◌, Bool, true, false, List, [], ◌∷◌, ◌++◌, length, map, drop, get_or, All, refl, sym, ap, ◌∙◌, arith, subst, flat_map, decimal, codes, Ok}
use Rattle.rig_port.proofs.Vocabulary.{append_assoc, join_by, byte_at, bytes_high_first, to_be_bytes, from_be_bytes, w64, div_ceil}
use Rattle.rig_port.proofs.Vocabulary.{encode_lower, decode_of, lower_digits, IsBytes, decode_of-encode_lower, length-encode_with, Shape}
use Rattle.rig_port.proofs.Vocabulary.{crosses_of, tables_of, pins_of, levels_of, Pins, Setting, Check, fresh_check, pin_bit, pin_text}
use Rattle.std.proofs.lemmas.{Fmt.decimal_injective, Nat.from_be_bytes-to_be_bytes_8}
use Rattle.machine_shape.proofs.HighLimits.{high_limits}
use Rattle.rig_port.specs.Requests.{Edit, Close, Open, On, Off, Tick, IsEditOf, flag_digit, edit_text, edits_text, drives_text, led_drives, AreWide, AreDrivesOf, start_text, attach_body, load_body, attach_line, load_line, drives_line}
use Rattle.rig_port.proofs.Spelled.{led}
use Rattle.rig_port.proofs.Settings.{same_setting}
use Rattle.rig_port.proofs.OneMachine.{BeginsLow, digits, cut_low}
use Rattle.rig_port.proofs.Readings.{cut, sealed, sealed_line, one_text, length_text, AreOf}

-- one number stands before others
numeral : (m n : ℕ) (r q : List ℕ) → m < 2 ^ 64 → n < 2 ^ 64 → BeginsLow r → BeginsLow q → decimal m ++ r ≡ decimal n ++ q → (m ≡ n) × (r ≡ q)
numeral m n r q small other lr lq e =
    let parts = cut_low (decimal m) (decimal n) r q (digits m small) (digits n other) lr lq e in
    (decimal_injective m n small other parts.0, parts.1)

-- the byte in front, and what is behind it
head_of : (x y : ℕ) (r q : List ℕ) → x ∷ r ≡ y ∷ q → x ≡ y
head_of x y r q e = ap (λ l. get_or l 0 0) e

tail_of : (x y : ℕ) (r q : List ℕ) → x ∷ r ≡ y ∷ q → r ≡ q
tail_of x y r q e = ap (λ l. drop 1 l) e

-- the words of a table
same_flags : (s t : Setting) → flag_digit s ≡ flag_digit t → (s.latched ≡ t.latched) × (s.init ≡ t.init)
same_flags s t e = by_bits s.latched t.latched s.init t.init e where
  by_bits : (a b c d : Bool) → 48 + pin_bit a + 2 * pin_bit c ≡ 48 + pin_bit b + 2 * pin_bit d → (a ≡ b) × (c ≡ d)
  by_bits true true true true e = (refl, refl)
  by_bits true true false false e = (refl, refl)
  by_bits false false true true e = (refl, refl)
  by_bits false false false false e = (refl, refl)
  by_bits true true true false e = absurd (omega (arith, e))
  by_bits true true false true e = absurd (omega (arith, e))
  by_bits false false true false e = absurd (omega (arith, e))
  by_bits false false false true e = absurd (omega (arith, e))
  by_bits true false c d e = by_rest c d e where
    by_rest : (c d : Bool) → 48 + 1 + 2 * pin_bit c ≡ 48 + 0 + 2 * pin_bit d → (true ≡ false) × (c ≡ d)
    by_rest true true e = absurd (omega (arith, e))
    by_rest true false e = absurd (omega (arith, e))
    by_rest false true e = absurd (omega (arith, e))
    by_rest false false e = absurd (omega (arith, e))
  by_bits false true c d e = by_rest c d e where
    by_rest : (c d : Bool) → 48 + 0 + 2 * pin_bit c ≡ 48 + 1 + 2 * pin_bit d → (false ≡ true) × (c ≡ d)
    by_rest true true e = absurd (omega (arith, e))
    by_rest true false e = absurd (omega (arith, e))
    by_rest false true e = absurd (omega (arith, e))
    by_rest false false e = absurd (omega (arith, e))

abbrev cells_text : ℕ → List ℕ
cells_text cells = encode_lower (to_be_bytes w64 cells)

length_cells : (a b : ℕ) → length (cells_text a) ≡ length (cells_text b)
length_cells a b = length-encode_with lower_digits (to_be_bytes w64 a) ∙ sym (length-encode_with lower_digits (to_be_bytes w64 b))

small_byte : (k n : ℕ) → byte_at k n < 256
small_byte zero n = omega arith
small_byte (suc k) n = omega arith

high_bytes : (k n : ℕ) → IsBytes (bytes_high_first k n)
high_bytes zero n i = omega arith
high_bytes (suc k) n zero = small_byte k n
high_bytes (suc k) n (suc i) = high_bytes k n i

cell_bytes : (a : ℕ) → IsBytes (to_be_bytes w64 a)
cell_bytes a = high_bytes 8 a

same_cells : (a b : ℕ) → a < 2 ^ 64 → b < 2 ^ 64 → cells_text a ≡ cells_text b → a ≡ b
same_cells a b small other e =
    let both : Ok (to_be_bytes w64 a) ≡ Ok (to_be_bytes w64 b)
    = sym (decode_of-encode_lower (to_be_bytes w64 a) (cell_bytes a)) ∙ ap decode_of e ∙ decode_of-encode_lower (to_be_bytes w64 b) (cell_bytes b) in
    let bytes : to_be_bytes w64 a ≡ to_be_bytes w64 b = cc in
    sym (from_be_bytes-to_be_bytes_8 a small) ∙ ap (from_be_bytes w64) bytes ∙ from_be_bytes-to_be_bytes_8 b other

-- the numbers of an edit are short
abbrev IsSmall : Edit → Type 0
IsSmall (Close x) = x < 2 ^ 64
IsSmall (Open x) = x < 2 ^ 64
IsSmall (On t s) = (t < 2 ^ 64) × (s.cells < 2 ^ 64)
IsSmall (Off t) = t < 2 ^ 64
IsSmall (Tick n) = n < 2 ^ 64

few_crosses : (m : Shape) (x : ℕ) → x < crosses_of m → x < 2 ^ 64
unfolding crosses_of levels_of
few_crosses m x lt = let few = m.few_crosses in omega (arith, few, lt)

few_tables : (m : Shape) (t : ℕ) → t < tables_of m → t < 2 ^ 64
unfolding tables_of levels_of
few_tables m t lt = let few = m.few_tables in omega (arith, few, lt)

small_edit : (m : Shape) (e : Edit) → IsEditOf m e → IsSmall e
small_edit m (Close x) lt = few_crosses m x lt
small_edit m (Open x) lt = few_crosses m x lt
small_edit m (On t s) r = (few_tables m t r.0, r.1)
small_edit m (Off t) lt = few_tables m t lt
small_edit m (Tick n) r = let most = (high_limits m).ticks.1 in omega (arith, r.1, most)

-- what an edit's word is behind its letter
abbrev letter : Edit → ℕ
letter (Close x) = 99
letter (Open x) = 111
letter (On t s) = 116
letter (Off t) = 120
letter (Tick n) = 107

abbrev setting_text : Setting → List ℕ → List ℕ
setting_text s r = 44 ∷ (cells_text s.cells ++ (44 ∷ flag_digit s ∷ 32 ∷ r))

abbrev behind : Edit → List ℕ → List ℕ
behind (Close x) r = decimal x ++ 32 ∷ r
behind (Open x) r = decimal x ++ 32 ∷ r
behind (On t s) r = decimal t ++ setting_text s r
behind (Off t) r = decimal t ++ 32 ∷ r
behind (Tick n) r = decimal n ++ 32 ∷ r

numeral_word : (c n : ℕ) (r : List ℕ) → c ∷ [] ++ decimal n ++ 32 ∷ [] ++ r ≡ c ∷ (decimal n ++ 32 ∷ r)
numeral_word c n r = ap (λ l. c ∷ l) (append_assoc (decimal n) (32 ∷ []) r)

setting_word : (d c : List ℕ) (f : ℕ) (r : List ℕ) → d ++ 44 ∷ [] ++ c ++ 44 ∷ [] ++ f ∷ [] ++ 32 ∷ [] ++ r ≡ d ++ (44 ∷ (c ++ (44 ∷ f ∷ 32 ∷ r)))
setting_word d c f r =
    append_assoc (d ++ 44 ∷ [] ++ c ++ 44 ∷ [] ++ f ∷ []) (32 ∷ []) r
    ∙ append_assoc (d ++ 44 ∷ [] ++ c ++ 44 ∷ []) (f ∷ []) (32 ∷ r)
    ∙ append_assoc (d ++ 44 ∷ [] ++ c) (44 ∷ []) (f ∷ 32 ∷ r)
    ∙ append_assoc (d ++ 44 ∷ []) c (44 ∷ f ∷ 32 ∷ r)
    ∙ append_assoc d (44 ∷ []) (c ++ (44 ∷ f ∷ 32 ∷ r))

word : (e : Edit) (r : List ℕ) → edit_text e ++ 32 ∷ [] ++ r ≡ letter e ∷ behind e r
word (Close x) r = numeral_word 99 x r
word (Open x) r = numeral_word 111 x r
word (On t s) r = ap (λ l. 116 ∷ l) (setting_word (decimal t) (cells_text s.cells) (flag_digit s) r)
word (Off t) r = numeral_word 120 t r
word (Tick n) r = numeral_word 107 n r

same_word : (n k : ℕ) (r q : List ℕ) → n < 2 ^ 64 → k < 2 ^ 64 → decimal n ++ 32 ∷ r ≡ decimal k ++ 32 ∷ q → (n ≡ k) × (r ≡ q)
same_word n k r q small other e =
    let parts = numeral n k (32 ∷ r) (32 ∷ q) small other (omega arith) (omega arith) e in
    (parts.0, tail_of 32 32 r q parts.1)

same_on : (t u : ℕ) (s v : Setting) (r q : List ℕ) → t < 2 ^ 64 → u < 2 ^ 64 → s.cells < 2 ^ 64 → v.cells < 2 ^ 64
    → decimal t ++ setting_text s r ≡ decimal u ++ setting_text v q → (On t s ≡ On u v) × (r ≡ q)
same_on t u s v r q st su sc vc e =
    let parts = numeral t u (setting_text s r) (setting_text v q) st su (omega arith) (omega arith) e in
    let cells = cut (cells_text s.cells) (cells_text v.cells) (44 ∷ flag_digit s ∷ 32 ∷ r) (44 ∷ flag_digit v ∷ 32 ∷ q) (length_cells s.cells v.cells)
    (ap (λ l. drop 1 l) parts.1) in
    let flags = same_flags s v (ap (λ l. get_or l 1 0) cells.1) in
    let same : s ≡ v = same_setting s v (same_cells s.cells v.cells sc vc cells.0) flags.0 flags.1 in
    (ap (λ n. On n s) parts.0 ∙ ap (λ z. On u z) same, ap (λ l. drop 3 l) cells.1)

same_edit : (e f : Edit) (r q : List ℕ) → IsSmall e → IsSmall f → letter e ∷ behind e r ≡ letter f ∷ behind f q → (e ≡ f) × (r ≡ q)
same_edit (Close x) (Close y) r q a b e = let p = same_word x y r q a b (ap (λ l. drop 1 l) e) in (ap Close p.0, p.1)
same_edit (Open x) (Open y) r q a b e = let p = same_word x y r q a b (ap (λ l. drop 1 l) e) in (ap Open p.0, p.1)
same_edit (On t s) (On u v) r q a b e = same_on t u s v r q a.0 b.0 a.1 b.1 (ap (λ l. drop 1 l) e)
same_edit (Off x) (Off y) r q a b e = let p = same_word x y r q a b (ap (λ l. drop 1 l) e) in (ap Off p.0, p.1)
same_edit (Tick x) (Tick y) r q a b e = let p = same_word x y r q a b (ap (λ l. drop 1 l) e) in (ap Tick p.0, p.1)
same_edit (Close x) (Open y) r q a b e = absurd (let no : 99 ≡ 111 = ap (λ l. get_or l 0 0) e in omega (arith, no))
same_edit (Close x) (On u v) r q a b e = absurd (let no : 99 ≡ 116 = ap (λ l. get_or l 0 0) e in omega (arith, no))
same_edit (Close x) (Off y) r q a b e = absurd (let no : 99 ≡ 120 = ap (λ l. get_or l 0 0) e in omega (arith, no))
same_edit (Close x) (Tick y) r q a b e = absurd (let no : 99 ≡ 107 = ap (λ l. get_or l 0 0) e in omega (arith, no))
same_edit (Open x) (Close y) r q a b e = absurd (let no : 111 ≡ 99 = ap (λ l. get_or l 0 0) e in omega (arith, no))
same_edit (Open x) (On u v) r q a b e = absurd (let no : 111 ≡ 116 = ap (λ l. get_or l 0 0) e in omega (arith, no))
same_edit (Open x) (Off y) r q a b e = absurd (let no : 111 ≡ 120 = ap (λ l. get_or l 0 0) e in omega (arith, no))
same_edit (Open x) (Tick y) r q a b e = absurd (let no : 111 ≡ 107 = ap (λ l. get_or l 0 0) e in omega (arith, no))
same_edit (On t s) (Close y) r q a b e = absurd (let no : 116 ≡ 99 = ap (λ l. get_or l 0 0) e in omega (arith, no))
same_edit (On t s) (Open y) r q a b e = absurd (let no : 116 ≡ 111 = ap (λ l. get_or l 0 0) e in omega (arith, no))
same_edit (On t s) (Off y) r q a b e = absurd (let no : 116 ≡ 120 = ap (λ l. get_or l 0 0) e in omega (arith, no))
same_edit (On t s) (Tick y) r q a b e = absurd (let no : 116 ≡ 107 = ap (λ l. get_or l 0 0) e in omega (arith, no))
same_edit (Off x) (Close y) r q a b e = absurd (let no : 120 ≡ 99 = ap (λ l. get_or l 0 0) e in omega (arith, no))
same_edit (Off x) (Open y) r q a b e = absurd (let no : 120 ≡ 111 = ap (λ l. get_or l 0 0) e in omega (arith, no))
same_edit (Off x) (On u v) r q a b e = absurd (let no : 120 ≡ 116 = ap (λ l. get_or l 0 0) e in omega (arith, no))
same_edit (Off x) (Tick y) r q a b e = absurd (let no : 120 ≡ 107 = ap (λ l. get_or l 0 0) e in omega (arith, no))
same_edit (Tick x) (Close y) r q a b e = absurd (let no : 107 ≡ 99 = ap (λ l. get_or l 0 0) e in omega (arith, no))
same_edit (Tick x) (Open y) r q a b e = absurd (let no : 107 ≡ 111 = ap (λ l. get_or l 0 0) e in omega (arith, no))
same_edit (Tick x) (On u v) r q a b e = absurd (let no : 107 ≡ 116 = ap (λ l. get_or l 0 0) e in omega (arith, no))
same_edit (Tick x) (Off y) r q a b e = absurd (let no : 107 ≡ 120 = ap (λ l. get_or l 0 0) e in omega (arith, no))

-- an edit's letter is none of a load's `l`, of a drive's `d`, of `a` and of `z`
abbrev IsEditLetter : ℕ → Type 0
IsEditLetter c = (c ≡ 108 → ⊥) × (c ≡ 100 → ⊥) × (c ≡ 97 → ⊥) × (c ≡ 122 → ⊥)

edit_letter : (e : Edit) → IsEditLetter (letter e)
edit_letter (Close x) = (λ no. omega (arith, no), λ no. omega (arith, no), λ no. omega (arith, no), λ no. omega (arith, no))
edit_letter (Open x) = (λ no. omega (arith, no), λ no. omega (arith, no), λ no. omega (arith, no), λ no. omega (arith, no))
edit_letter (On t s) = (λ no. omega (arith, no), λ no. omega (arith, no), λ no. omega (arith, no), λ no. omega (arith, no))
edit_letter (Off t) = (λ no. omega (arith, no), λ no. omega (arith, no), λ no. omega (arith, no), λ no. omega (arith, no))
edit_letter (Tick n) = (λ no. omega (arith, no), λ no. omega (arith, no), λ no. omega (arith, no), λ no. omega (arith, no))

first_word : (e : Edit) (es : List Edit) (s : List ℕ) → edits_text (e ∷ es) ++ s ≡ letter e ∷ behind e (edits_text es ++ s)
first_word e es s = append_assoc (edit_text e ++ 32 ∷ []) (edits_text es) s ∙ word e (edits_text es ++ s)

abbrev pub AreEditsOf : Shape → List Edit → Type 0
AreEditsOf m es = All (IsEditOf m) es

pub one_edits : (m : Shape) (es fs : List Edit) (s t : List ℕ) → AreEditsOf m es → AreEditsOf m fs → edits_text es ++ 108 ∷ s ≡ edits_text fs ++ 108 ∷ t → (es ≡ fs) × (s ≡ t)
one_edits m [] [] s t a b e = (refl, ap (λ l. drop 1 l) e)
one_edits m [] (f ∷ fs) s t a b e = absurd ((edit_letter f).0 (sym (ap (λ l. get_or l 0 0) (e ∙ first_word f fs (108 ∷ t)))))
one_edits m (x ∷ es) [] s t a b e = absurd ((edit_letter x).0 (ap (λ l. get_or l 0 0) (sym (first_word x es (108 ∷ s)) ∙ e)))
one_edits m (x ∷ es) (f ∷ fs) s t a b e =
    let firsts = same_edit x f (edits_text es ++ 108 ∷ s) (edits_text fs ++ 108 ∷ t) (small_edit m x (a 0 x (omega arith))) (small_edit m f (b 0 f (omega arith)))
    (sym (first_word x es (108 ∷ s)) ∙ e ∙ first_word f fs (108 ∷ t)) in
    let more = one_edits m es fs s t (λ k d lt. a (suc k) d (omega (arith, lt))) (λ k d lt. b (suc k) d (omega (arith, lt))) firsts.1 in
    (ap (λ z. z ∷ es) firsts.0 ∙ ap (λ l. f ∷ l) more.0, more.1)

-- drives, each a word as long as the others
abbrev drive_text : Pins → List ℕ
drive_text pins = 100 ∷ [] ++ pin_text pins

rest_drives : (n : ℕ) (xs ys : List Pins) (s t : List ℕ) → AreOf n xs → AreOf n ys
    → flat_map (led drive_text) xs ++ 42 ∷ s ≡ flat_map (led drive_text) ys ++ 42 ∷ t → xs ≡ ys
rest_drives n [] [] s t a b e = refl
rest_drives n [] (y ∷ ys) s t a b e = absurd (let no : 42 ≡ 32 = ap (λ l. get_or l 0 0) e in omega (arith, no))
rest_drives n (x ∷ xs) [] s t a b e = absurd (let no : 32 ≡ 42 = ap (λ l. get_or l 0 0) e in omega (arith, no))
rest_drives n (x ∷ xs) (y ∷ ys) s t a b e =
    let wide : length x ≡ length y = a 0 [] (omega arith) ∙ sym (b 0 [] (omega arith)) in
    let texts : length (led drive_text x) ≡ length (led drive_text y)
    = ap (λ k. suc (suc k)) (length_text x ∙ ap (λ m. 2 * div_ceil m 8) wide ∙ sym (length_text y)) in
    let parts = cut (led drive_text x) (led drive_text y) (flat_map (led drive_text) xs ++ 42 ∷ s) (flat_map (led drive_text) ys ++ 42 ∷ t) texts
    (sym (append_assoc (led drive_text x) (flat_map (led drive_text) xs) (42 ∷ s)) ∙ e ∙ append_assoc (led drive_text y) (flat_map (led drive_text) ys) (42 ∷ t)) in
    let text : pin_text x ≡ pin_text y = ap (λ l. drop 2 l) parts.0 in
    ap (λ z. z ∷ xs) (one_text x y wide text)
    ∙ ap (λ l. y ∷ l) (rest_drives n xs ys s t (λ k d lt. a (suc k) d (omega (arith, lt))) (λ k d lt. b (suc k) d (omega (arith, lt))) parts.1)

-- the drives of a load, each behind a space
led_all : (xs : List Pins) → led_drives xs ≡ flat_map (led drive_text) xs
led_all [] = refl
led_all (x ∷ xs) = refl

one_drives : (m : Shape) (xs ys : List Pins) (s t : List ℕ) → AreDrivesOf m xs → AreDrivesOf m ys → drives_text xs ++ 42 ∷ s ≡ drives_text ys ++ 42 ∷ t → xs ≡ ys
one_drives m [] ys s t a b e = absurd (let some = a.0 in omega (arith, some))
one_drives m (x ∷ xs) [] s t a b e = absurd (let some = b.0 in omega (arith, some))
one_drives m (x ∷ xs) (y ∷ ys) s t a b e = rest_drives (pins_of m) (x ∷ xs) (y ∷ ys) s t a.1 b.1 (ap (λ l. 32 ∷ l) e)

abbrev load_rest : Check → Bool → List Edit → List Pins → List ℕ
load_rest c anew es ds = led_drives ds ++ sealed c (load_body anew es ds)

load_parts : (c : Check) (anew : Bool) (es : List Edit) (ds : List Pins) → load_line c anew es ds ≡ start_text anew ++ (edits_text es ++ 108 ∷ load_rest c anew es ds)
load_parts c anew es ds =
    let end = sealed c (load_body anew es ds) in
    sealed_line c (load_body anew es ds)
    ∙ append_assoc (start_text anew ++ edits_text es ++ 108 ∷ []) (led_drives ds) end
    ∙ append_assoc (start_text anew ++ edits_text es) (108 ∷ []) (led_drives ds ++ end)
    ∙ append_assoc (start_text anew) (edits_text es) (108 ∷ (led_drives ds ++ end))

-- how a load's line begins
load_head : (anew : Bool) (es : List Edit) (t : List ℕ)
    → (get_or (start_text anew ++ (edits_text es ++ 108 ∷ t)) 0 0 ≡ 97 → ⊥) × (get_or (start_text anew ++ (edits_text es ++ 108 ∷ t)) 0 0 ≡ 100 → ⊥)
load_head true es t = (λ no. omega (arith, no), λ no. omega (arith, no))
load_head false [] t = (λ no. omega (arith, no), λ no. omega (arith, no))
load_head false (x ∷ es) t =
    let first = ap (λ l. get_or l 0 0) (first_word x es (108 ∷ t)) in
    (λ no. (edit_letter x).2 (sym first ∙ no), λ no. (edit_letter x).1 (sym first ∙ no))

kept_head : (es : List Edit) (t : List ℕ) → get_or (edits_text es ++ 108 ∷ t) 0 0 ≡ 122 → ⊥
kept_head [] t e = omega (arith, e)
kept_head (x ∷ es) t e = (edit_letter x).3 (sym (ap (λ l. get_or l 0 0) (first_word x es (108 ∷ t))) ∙ e)

drives_head : (m : Shape) (c : Check) (ds : List Pins) → AreDrivesOf m ds → get_or (drives_line c ds) 0 0 ≡ 100
drives_head m c [] a = absurd (let some = a.0 in omega (arith, some))
drives_head m c (x ∷ ds) a = refl

-- the three forms are apart
pub attach_no_load : (c : Check) (n : ℕ) (anew : Bool) (es : List Edit) (ds : List Pins) → attach_line n ≡ load_line c anew es ds → ⊥
attach_no_load c n anew es ds e = (load_head anew es (load_rest c anew es ds)).0 (sym (ap (λ l. get_or l 0 0) (e ∙ load_parts c anew es ds)))

pub attach_no_drives : (m : Shape) (c : Check) (n : ℕ) (ds : List Pins) → AreDrivesOf m ds → attach_line n ≡ drives_line c ds → ⊥
attach_no_drives m c n ds a e = let no : 97 ≡ 100 = ap (λ l. get_or l 0 0) e ∙ drives_head m c ds a in omega (arith, no)

pub load_no_drives : (m : Shape) (c : Check) (anew : Bool) (es : List Edit) (ds gs : List Pins) → AreDrivesOf m gs → load_line c anew es ds ≡ drives_line c gs → ⊥
load_no_drives m c anew es ds gs a e =
    (load_head anew es (load_rest c anew es ds)).1 (ap (λ l. get_or l 0 0) (sym (load_parts c anew es ds) ∙ e) ∙ drives_head m c gs a)

-- a line that attaches has one number
pub one_number : (n k : ℕ) → n < 2 ^ 32 → k < 2 ^ 32 → attach_line n ≡ attach_line k → n ≡ k
one_number n k few other e =
    let s = sealed fresh_check (attach_body n) in
    let t = sealed fresh_check (attach_body k) in
    let whole : codes "a " ++ (decimal n ++ s) ≡ codes "a " ++ (decimal k ++ t)
    = sym (append_assoc (codes "a ") (decimal n) s) ∙ sym (sealed_line fresh_check (attach_body n)) ∙ e ∙ sealed_line fresh_check (attach_body k)
    ∙ append_assoc (codes "a ") (decimal k) t in
    (numeral n k s t (omega (arith, few)) (omega (arith, other)) (omega arith) (omega arith) (ap (λ l. drop 2 l) whole)).0

-- a line of drives has one reading
pub one_drives_line : (m : Shape) (c : Check) (xs ys : List Pins) → AreDrivesOf m xs → AreDrivesOf m ys → drives_line c xs ≡ drives_line c ys → xs ≡ ys
one_drives_line m c xs ys a b e =
    one_drives m xs ys (drop 1 (sealed c (drives_text xs))) (drop 1 (sealed c (drives_text ys))) a b (sym (sealed_line c (drives_text xs)) ∙ e ∙ sealed_line c (drives_text ys))

-- what a line of a load says
pub record IsSameLoad (anew other : Bool) (es fs : List Edit) (ds gs : List Pins) : Type 0 where
  pub start : anew ≡ other
  pub edits : es ≡ fs
  pub drives : ds ≡ gs

rest_load : (m : Shape) (es fs : List Edit) (ds gs : List Pins) (s t : List ℕ) → AreEditsOf m es → AreEditsOf m fs → AreWide m ds → AreWide m gs
    → edits_text es ++ 108 ∷ (led_drives ds ++ 42 ∷ s) ≡ edits_text fs ++ 108 ∷ (led_drives gs ++ 42 ∷ t) → (es ≡ fs) × (ds ≡ gs)
rest_load m es fs ds gs s t a b c d e =
    let parts = one_edits m es fs (led_drives ds ++ 42 ∷ s) (led_drives gs ++ 42 ∷ t) a b e in
    (parts.0, rest_drives (pins_of m) ds gs s t c d (ap (λ l. l ++ 42 ∷ s) (sym (led_all ds)) ∙ parts.1 ∙ ap (λ l. l ++ 42 ∷ t) (led_all gs)))

-- a line of a load has one reading
pub one_load : (m : Shape) (k : Check) (anew other : Bool) (es fs : List Edit) (ds gs : List Pins) → AreEditsOf m es → AreEditsOf m fs → AreWide m ds → AreWide m gs
    → load_line k anew es ds ≡ load_line k other fs gs → IsSameLoad anew other es fs ds gs
one_load m k anew other es fs ds gs a b c d e = by_start anew other (sym (load_parts k anew es ds) ∙ e ∙ load_parts k other fs gs) where
  s : List ℕ
  s = drop 1 (sealed k (load_body anew es ds))

  t : List ℕ
  t = drop 1 (sealed k (load_body other fs gs))

  by_start : (v w : Bool) → start_text v ++ (edits_text es ++ 108 ∷ (led_drives ds ++ 42 ∷ s)) ≡ start_text w ++ (edits_text fs ++ 108 ∷ (led_drives gs ++ 42 ∷ t))
      → IsSameLoad v w es fs ds gs
  by_start true true e = let same = rest_load m es fs ds gs s t a b c d (ap (λ l. drop 2 l) e) in record { start = refl; edits = same.0; drives = same.1 }
  by_start false false e = let same = rest_load m es fs ds gs s t a b c d e in record { start = refl; edits = same.0; drives = same.1 }
  by_start true false e = absurd (kept_head fs (led_drives gs ++ 42 ∷ t) (sym (ap (λ l. get_or l 0 0) e)))
  by_start false true e = absurd (kept_head es (led_drives ds ++ 42 ∷ s) (ap (λ l. get_or l 0 0) e))
