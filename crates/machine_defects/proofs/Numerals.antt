-- Numerals, each behind a space.
use Rattle.std.proofs.Common.{◌≡◌, ◌≢◌, inl, inr, ℕ, zero, suc, ◌+◌, ◌<◌, ◌≤◌, true, false, Option, Some, None, drop, List, [], ◌∷◌, ◌++◌, length, take, set, refl, sym, ap, ◌∙◌, subst, arith, append_assoc, append-nil, length-append, eqb-true, ◌==◌, MatchOption, take_all}
use Rattle.machine_defects.proofs.Vocabulary.{decimal, AllByRecursion, length-take-le, length-set, flat_map-map, spaced}
use Rattle.std.proofs.lemmas.Fmt.{decimal_injective}
use Rattle.machine_defects.specs.Vocabulary.{shape_row, AreCounts, without, numerals}
use Rattle.machine_defects.proofs.Splits.{one_run, Starts}
use Rattle.machine_defects.proofs.Rows.{IsClean, clean_word}
use Rattle.machine_defects.proofs.Plain.{decimal_inner}

pub clean_decimal : (n : ℕ) → n ≤ 65535 → IsClean (decimal n)
clean_decimal n h = clean_word (decimal n) (decimal_inner n (omega (arith, h)))

pub starts_numerals : (ns : List ℕ) → Starts 32 (numerals ns)
starts_numerals [] = inl refl
starts_numerals (n ∷ ns) = inr (decimal n ++ numerals ns, refl)

-- the digits up to the first space are those of the first number
pub one_numeral : (text digits numeral rest : List ℕ) (n : ℕ) (ns : List ℕ) → n ≤ 65535 → text ≡ 32 ∷ digits → digits ≡ numeral ++ rest → without 32 numeral ≡ true → Starts 32 rest → text ≡ 32 ∷ decimal n ++ numerals ns → (numeral ≡ decimal n) × (rest ≡ numerals ns)
one_numeral text digits numeral rest n ns small e f p q g =
    let h : 32 ∷ digits ≡ 32 ∷ decimal n ++ numerals ns = sym e ∙ g in
    let tail : digits ≡ decimal n ++ numerals ns = cc in
    one_run 32 numeral (decimal n) rest (numerals ns) p (clean_decimal n small).spaceless q (starts_numerals ns) (sym f ∙ tail)

pub one_number : (n k : ℕ) → n ≤ 65535 → k ≤ 65535 → decimal n ≡ decimal k → n ≡ k
one_number n k p q e = decimal_injective n k (omega (arith, p)) (omega (arith, q)) e

-- ---- twelve of them

pub record AreReadTo (text : List ℕ) (numbers : List ℕ) (i : ℕ) (left : List ℕ) : Type 0 where
  pub twelve : length numbers ≡ 12
  pub small : AllByRecursion (λ n. n ≤ 65535) numbers
  pub spelled : text ≡ numerals (take i numbers) ++ left
  pub one : (ns : List ℕ) → AreCounts ns → numerals ns ≡ text → (more : List ℕ) × (ns ≡ take i numbers ++ more) × (numerals more ≡ left)

pub none_read : (text numbers : List ℕ) → length numbers ≡ 12 → AllByRecursion (λ n. n ≤ 65535) numbers → AreReadTo text numbers 0 text
none_read text numbers twelve small = record { twelve = twelve; small = small; spelled = refl; one = λ ns are e. (ns, refl, e) }

numerals-append : (a b : List ℕ) → numerals (a ++ b) ≡ numerals a ++ numerals b
numerals-append [] b = refl
numerals-append (n ∷ a) b = ap (λ t. 32 ∷ decimal n ++ t) (numerals-append a b) ∙ sym (append_assoc (32 ∷ decimal n) (numerals a) (numerals b))

take_set : (xs : List ℕ) (i y : ℕ) → i < length xs → take (i + 1) (set xs i y) ≡ take i xs ++ y ∷ []
take_set [] i y lt = absurd (let no : ⊥ = omega (arith, lt) in no)
take_set (x ∷ xs) zero y lt = refl
take_set (x ∷ xs) (suc i) y lt = subst (λ k. take k (set (x ∷ xs) (suc i) y) ≡ take (suc i) (x ∷ xs) ++ y ∷ []) (let g : suc (i + 1) ≡ suc i + 1 = omega arith in g) (ap (λ t. x ∷ t) (take_set xs i y (omega (arith, lt))))

small_part : (a : List ℕ) (m : ℕ) (r : List ℕ) → AllByRecursion (λ n. n ≤ 65535) (a ++ m ∷ r) → m ≤ 65535
small_part [] m r h = h.0
small_part (x ∷ a) m r h = small_part a m r h.1

small_set : (xs : List ℕ) (i y : ℕ) → y ≤ 65535 → AllByRecursion (λ n. n ≤ 65535) xs → AllByRecursion (λ n. n ≤ 65535) (set xs i y)
small_set [] i y le h = tt
small_set (x ∷ xs) zero y le h = (le, h.1)
small_set (x ∷ xs) (suc i) y le h = (h.0, small_set xs i y le h.1)

pub empty_is : (bs : List ℕ) → (length bs == 0) ≡ true → bs ≡ []
empty_is [] e = refl
empty_is (b ∷ bs) e = absurd (let h = eqb-true (length (b ∷ bs)) 0 e in let no : ⊥ = omega (arith, h) in no)

pub not_empty : (bs : List ℕ) → (length bs == 0) ≡ false → bs ≢ []
not_empty bs e f = let h : true ≡ false = sym (ap (λ t. length t == 0) f) ∙ e in cc

module _ (text numbers left : List ℕ) (i : ℕ) (k : AreReadTo text numbers i left) where
  head_of : (ns : List ℕ) → AreCounts ns → (m : ℕ) (r : List ℕ) → ns ≡ take i numbers ++ m ∷ r → m ≤ 65535
  head_of ns are m r e = small_part (take i numbers) m r (subst (AllByRecursion (λ n. n ≤ 65535)) e are.small)

  pub one_read : (number : ℕ) (rest : List ℕ) → i < 12 → number ≤ 65535 → left ≡ 32 ∷ decimal number ++ rest → ((n : ℕ) (ns : List ℕ) → n ≤ 65535 → left ≡ 32 ∷ decimal n ++ numerals ns → (n ≡ number) × (rest ≡ numerals ns)) → AreReadTo text (set numbers i number) (i + 1) rest
  one_read number rest below le e only = record {
    twelve = length-set numbers i number ∙ k.twelve;
    small = small_set numbers i number le k.small;
    spelled = k.spelled ∙ (λ j. numerals (take i numbers) ++ e j) ∙ sym (append_assoc (numerals (take i numbers)) (32 ∷ decimal number) rest) ∙ ap (λ t. t ++ rest) (ap (λ t. numerals (take i numbers) ++ t) (sym (append-nil (32 ∷ decimal number))) ∙ sym (numerals-append (take i numbers) (number ∷ [])) ∙ ap numerals (sym (take_set numbers i number lt)));
    one = λ ns are f. by_more ns are (k.one ns are f).0 (k.one ns are f).1 (k.one ns are f).2;
  }
    where
      lt : i < length numbers
      lt = subst (λ n. i < n) (sym k.twelve) below

      by_more : (ns : List ℕ) → AreCounts ns → (more : List ℕ) → ns ≡ take i numbers ++ more → numerals more ≡ left → (r : List ℕ) × (ns ≡ take (i + 1) (set numbers i number) ++ r) × (numerals r ≡ rest)
      by_more ns are [] p q = absurd (let h : ◌≡◌ {A = List ℕ} [] (32 ∷ decimal number ++ rest) = q ∙ e in cc)
      by_more ns are (m ∷ r) p q =
          let h = only m r (head_of ns are m r p) (sym q) in
          (r, p ∙ ap (λ n. take i numbers ++ n ∷ r) h.0 ∙ sym (append_assoc (take i numbers) (number ∷ []) r) ∙ ap (λ t. t ++ r) (sym (take_set numbers i number lt)), sym h.1)

  pub none_more : i < 12 → ((n : ℕ) (ns : List ℕ) → n ≤ 65535 → left ≢ 32 ∷ decimal n ++ numerals ns) → (ns : List ℕ) → AreCounts ns → numerals ns ≢ text
  none_more lt none ns are f = by_more (k.one ns are f).0 (k.one ns are f).1 (k.one ns are f).2
    where
      by_more : (more : List ℕ) → ns ≡ take i numbers ++ more → numerals more ≡ left → ⊥
      by_more [] p q = let l = ap length p ∙ length-append (take i numbers) [] in let t = length-take-le i numbers (let w = k.twelve in omega (arith, lt, w)) in let w = are.twelve in let no : ⊥ = omega (arith, l, t, w, lt) in no
      by_more (m ∷ r) p q = none m r (head_of ns are m r p) (sym q)

pub all_read : (text numbers left : List ℕ) (i : ℕ) → 12 ≤ i → AreReadTo text numbers i left → left ≡ [] → AreCounts numbers × (numerals numbers ≡ text)
all_read text numbers left i le k none = (
  record { twelve = k.twelve; small = k.small },
  sym (k.spelled ∙ ap (λ t. numerals (take i numbers) ++ t) none ∙ append-nil (numerals (take i numbers)) ∙ ap numerals (take_all i numbers (let w = k.twelve in omega (arith, le, w)))),
)

pub too_long : (text numbers left : List ℕ) (i : ℕ) → 12 ≤ i → AreReadTo text numbers i left → left ≢ [] → (ns : List ℕ) → AreCounts ns → numerals ns ≢ text
too_long text numbers left i le k some ns are f = by_more (k.one ns are f).0 (k.one ns are f).1 (k.one ns are f).2
  where
    by_more : (more : List ℕ) → ns ≡ take i numbers ++ more → numerals more ≡ left → ⊥
    by_more [] p q = some (sym q)
    by_more (m ∷ r) p q = let t = k.twelve in let l = ap length p ∙ length-append (take i numbers) (m ∷ r) ∙ ap (λ t. length t + length (m ∷ r)) (take_all i numbers (omega (arith, le, t))) in let w = are.twelve in let no : ⊥ = omega (arith, l, w, t) in no

-- ---- the line of the shape

pub shape_spaced : (ns : List ℕ) → spaced (shape_row ns) ≡ 115 ∷ 104 ∷ 97 ∷ 112 ∷ 101 ∷ numerals ns
shape_spaced ns = ap (λ t. 115 ∷ 104 ∷ 97 ∷ 112 ∷ 101 ∷ t) (flat_map-map (λ v. 32 ∷ v) decimal ns)

pub shape_found : (line body : List ℕ) (r : Option (List ℕ)) → line ≡ 115 ∷ 104 ∷ 97 ∷ 112 ∷ 101 ∷ body → MatchOption r ((ns : List ℕ) → AreCounts ns → numerals ns ≢ body) (λ ns. AreCounts ns × (numerals ns ≡ body))
    → MatchOption r ((ns : List ℕ) → AreCounts ns → spaced (shape_row ns) ≢ line) (λ ns. AreCounts ns × (spaced (shape_row ns) ≡ line))
shape_found line body None e none = λ ns are f. none ns are (ap (drop 5) (sym (shape_spaced ns) ∙ f ∙ e))
shape_found line body (Some ns) e found = (found.0, shape_spaced ns ∙ ap (λ t. 115 ∷ 104 ∷ 97 ∷ 112 ∷ 101 ∷ t) found.1 ∙ sym e)

pub some_length : (bs : List ℕ) → (length bs == 0) ≡ false → 0 < length bs
some_length [] e = absurd cc
some_length (b ∷ bs) e = omega arith
