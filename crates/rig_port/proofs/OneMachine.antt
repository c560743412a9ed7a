-- A line of counts is that of one machine.
use Rattle.std.proofs.Common.{◌≡◌, ℕ, suc, zero, ◌+◌, ◌^◌, ◌<◌, ◌≤◌, List, [], ◌∷◌, ◌++◌, drop, map, length, get_or, All, Option, None, Some, refl, sym, ap, ◌∙◌, arith, subst, flat_map, decimal, codes, IfSome, IsSome, is_some}
use Rattle.rig_port.proofs.Vocabulary.{false≢true, append_assoc, ext_get_or, join_by, Shape, cleared, Device, WhereTold, Answers, Check}
use Rattle.rig_port.proofs.Vocabulary.{fresh_check, after, attach_body, attach_line, numbers_of, AreCounts, counts_body, counts_line}
use Rattle.std.proofs.lemmas.Fmt.{decimal_injective, decimal_digit, decimal-digits_of}
use Rattle.std.specs.Int.Digits.{digits_of}
use Rattle.machine_shape.specs.declared.Counts.{Counts}
use Rattle.machine_shape.proofs.OneShape.{same-shape}
use Rattle.rig_port.proofs.Spelled.{led}
use Rattle.rig_port.proofs.Readings.{cut, sealed, sealed_line}

-- a numeral ends where what isn't a digit begins
abbrev pub AreDigits : List ℕ → Type 0
AreDigits [] = Unit {0}
AreDigits (c ∷ cs) = (48 ≤ c) × AreDigits cs

abbrev pub BeginsLow : List ℕ → Type 0
BeginsLow [] = ⊥
BeginsLow (c ∷ cs) = c < 48

mapped : (ds : List ℕ) → AreDigits (map (λ d. 48 + d) ds)
mapped [] = tt
mapped (d ∷ ds) = (let h : 48 ≤ 48 + d = omega arith in h, mapped ds)

pub digits : (n : ℕ) → n < 2 ^ 64 → AreDigits (decimal n)
digits zero h = subst AreDigits (sym (decimal_digit zero (omega arith))) (omega arith, tt)
digits (suc n) h = subst AreDigits (sym (decimal-digits_of (suc n) (omega arith) h)) (mapped (digits_of 10 (suc n)))

pub cut_low : (a b r q : List ℕ) → AreDigits a → AreDigits b → BeginsLow r → BeginsLow q → a ++ r ≡ b ++ q → (a ≡ b) × (r ≡ q)
cut_low [] [] r q da db lr lq e = (refl, e)
cut_low [] (y ∷ b) r q da db lr lq e = absurd (let low : BeginsLow (y ∷ b ++ q) = subst BeginsLow e lr in let high = db.0 in omega (arith, low, high))
cut_low (x ∷ a) [] r q da db lr lq e = absurd (let low : BeginsLow (x ∷ a ++ r) = subst BeginsLow (sym e) lq in let high = da.0 in omega (arith, low, high))
cut_low (x ∷ a) (y ∷ b) r q da db lr lq e =
    let heads : x ≡ y = cc in
    let tails : a ++ r ≡ b ++ q = cc in
    let more = cut_low a b r q da.1 db.1 lr lq tails in
    (ap (λ z. z ∷ a) heads ∙ ap (λ l. y ∷ l) more.0, more.1)

low : (xs s : List ℕ) → BeginsLow (flat_map (led decimal) xs ++ 42 ∷ s)
low [] s = omega arith
low (x ∷ xs) s = omega arith

abbrev AreSmall : List ℕ → Type 0
AreSmall xs = All (λ n. n < 2 ^ 16) xs

same_numbers : (xs ys s t : List ℕ) → AreSmall xs → AreSmall ys → length xs ≡ length ys → flat_map (led decimal) xs ++ 42 ∷ s ≡ flat_map (led decimal) ys ++ 42 ∷ t → xs ≡ ys
same_numbers [] [] s t a b len e = refl
same_numbers [] (y ∷ ys) s t a b len e = absurd (omega (arith, len))
same_numbers (x ∷ xs) [] s t a b len e = absurd (omega (arith, len))
same_numbers (x ∷ xs) (y ∷ ys) s t a b len e =
    let small : x < 2 ^ 64 = (let h : x < 2 ^ 16 = a 0 0 (omega arith) in omega (arith, h)) in
    let small_too : y < 2 ^ 64 = (let h : y < 2 ^ 16 = b 0 0 (omega arith) in omega (arith, h)) in
    let r = flat_map (led decimal) xs ++ 42 ∷ s in
    let q = flat_map (led decimal) ys ++ 42 ∷ t in
    let whole : decimal x ++ r ≡ decimal y ++ q
    = ap (λ l. drop 1 l) (sym (append_assoc (led decimal x) (flat_map (led decimal) xs) (42 ∷ s)) ∙ e ∙ append_assoc (led decimal y) (flat_map (led decimal) ys) (42 ∷ t)) in
    let parts = cut_low (decimal x) (decimal y) r q (digits x small) (digits y small_too) (low xs s) (low ys t) whole in
    ap (λ z. z ∷ xs) (decimal_injective x y small small_too parts.0)
    ∙ ap (λ l. y ∷ l) (same_numbers xs ys s t (λ k d lt. a (suc k) d (omega (arith, lt))) (λ k d lt. b (suc k) d (omega (arith, lt))) (omega (arith, len)) parts.1)

-- lists of three and of four
three_items : (xs ys : List ℕ) → length xs ≡ 3 → length ys ≡ 3 → get_or xs 0 0 ≡ get_or ys 0 0 → get_or xs 1 0 ≡ get_or ys 1 0 → get_or xs 2 0 ≡ get_or ys 2 0 → xs ≡ ys
three_items xs ys m n a b c = ext_get_or 0 xs ys (m ∙ sym n) at where
  at : (k : ℕ) → k < length xs → get_or xs k 0 ≡ get_or ys k 0
  at zero lt = a
  at (suc zero) lt = b
  at (suc (suc zero)) lt = c
  at (suc (suc (suc k))) lt = absurd (omega (arith, lt, m))

four_items : (xs ys : List ℕ) → length xs ≡ 4 → length ys ≡ 4 → get_or xs 0 0 ≡ get_or ys 0 0 → get_or xs 1 0 ≡ get_or ys 1 0 → get_or xs 2 0 ≡ get_or ys 2 0 → get_or xs 3 0 ≡ get_or ys 3 0 → xs ≡ ys
four_items xs ys m n a b c d = ext_get_or 0 xs ys (m ∙ sym n) at where
  at : (k : ℕ) → k < length xs → get_or xs k 0 ≡ get_or ys k 0
  at zero lt = a
  at (suc zero) lt = b
  at (suc (suc zero)) lt = c
  at (suc (suc (suc zero))) lt = d
  at (suc (suc (suc (suc k)))) lt = absurd (omega (arith, lt, m))

same_counts : (a b : Counts) → AreCounts a → AreCounts b → numbers_of a ≡ numbers_of b → a ≡ b
same_counts a b h g e =
    let nth : (k : ℕ) → get_or (numbers_of a) k 0 ≡ get_or (numbers_of b) k 0 = λ k. ap (λ l. get_or l k 0) e in
    let ports = three_items a.ports b.ports h.ports g.ports (nth 4) (nth 5) (nth 6) in
    let lines = four_items a.lines b.lines h.lines g.lines (nth 7) (nth 8) (nth 9) (nth 10) in
    λ i. record { modules = nth 0 i; chips = nth 1 i; hextants = nth 2 i; tables = nth 3 i; ports = ports i; lines = lines i; pins = nth 11 i }

-- a line of counts is that of one machine
abbrev counts_text : Counts → List ℕ
counts_text c = join_by decimal (32 ∷ []) (numbers_of c)

-- what stands in front of the counts
abbrev counts_head : ℕ → List ℕ
counts_head n = codes "=2 " ++ decimal n ++ 32 ∷ []

pub one_machine : (c : Check) (n : ℕ) (a b : Counts) → AreCounts a → AreCounts b → counts_line c n a ≡ counts_line c n b → a ≡ b
one_machine c n a b h g e =
    let s = sealed c (counts_body n a) in
    let t = sealed c (counts_body n b) in
    let whole : counts_head n ++ (counts_text a ++ s) ≡ counts_head n ++ (counts_text b ++ t)
    = sym (append_assoc (counts_head n) (counts_text a) s) ∙ sym (sealed_line c (counts_body n a)) ∙ e ∙ sealed_line c (counts_body n b)
    ∙ append_assoc (counts_head n) (counts_text b) t in
    let parts = cut (counts_head n) (counts_head n) (counts_text a ++ s) (counts_text b ++ t) refl whole in
    same_counts a b h g (same_numbers (numbers_of a) (numbers_of b) (drop 1 s) (drop 1 t) h.small g.small refl (ap (λ l. 32 ∷ l) parts.1))

-- the check behind a request under a number, and behind what a machine says of itself
abbrev pub asked_check : ℕ → Check
asked_check n = after fresh_check (attach_body n)

abbrev pub counted_check : ℕ → Shape → Check
counted_check n m = after (asked_check n) (counts_body n m.counts)

-- the machine that answered an attach with these counts has this shape, and nothing set
pub attached : (old new : Option Device) (c now : Check) (n : ℕ) (request reply expected : List ℕ) (m : Shape) → WhereTold (λ d e. Answers d c request reply e now) old new
    → n < 2 ^ 32 → request ≡ attach_line n → reply ≡ expected → expected ≡ counts_line (asked_check n) n m.counts → AreCounts m.counts → IfSome old (λ d. AreCounts d.shape.counts)
    → IfSome new (λ d. (d.shape ≡ m) × (d.set ≡ cleared m))
attached None new c now n request reply expected m w few asked same right counts told = rw w tt
attached (Some d) None c now n request reply expected m w few asked same right counts told = absurd w
attached (Some d) (Some e) c now n request reply expected m w few asked same right counts told =
    let fresh = w.attaches n few asked in
    let one : d.shape ≡ m = same-shape d.shape m (one_machine (asked_check n) n d.shape.counts m.counts told counts (sym fresh.reply_is ∙ same ∙ right)) in
    (w.shape ∙ one, fresh.cleared ∙ ap cleared one)

-- and both have one check
pub attached_check : (old new : Option Device) (c now own : Check) (n : ℕ) (request reply expected : List ℕ) (m : Shape) → WhereTold (λ d e. Answers d c request reply e now) old new
    → n < 2 ^ 32 → request ≡ attach_line n → reply ≡ expected → expected ≡ counts_line (asked_check n) n m.counts → AreCounts m.counts → IfSome old (λ d. AreCounts d.shape.counts)
    → own ≡ counted_check n m → IsSome new → now ≡ own
attached_check None new c now own n request reply expected m w few asked same right counts told is some = absurd (let no : None ≡ new = sym w in false≢true (ap is_some no ∙ some))
attached_check (Some d) None c now own n request reply expected m w few asked same right counts told is some = absurd w
attached_check (Some d) (Some e) c now own n request reply expected m w few asked same right counts told is some =
    let fresh = w.attaches n few asked in
    let one : d.shape ≡ m = same-shape d.shape m (one_machine (asked_check n) n d.shape.counts m.counts told counts (sym fresh.reply_is ∙ same ∙ right)) in
    fresh.check ∙ ap (λ (s : Shape). counted_check n s) one ∙ sym is
