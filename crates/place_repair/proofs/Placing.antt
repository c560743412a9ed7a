-- Places are given to what goes, one after the other.
use Rattle.std.proofs.Common.{◌≡◌, ◌≢◌, ◌⊎◌, ℕ, ◌+◌, ◌<◌, Bool, true, false, cond, All, AllPairs, List, [], ◌∷◌, ◌++◌, length, get_or, set, take, map, refl, sym, ap, ◌∙◌, inl, inr, arith, if◌then◌else◌}
use Rattle.place_repair.proofs.Vocabulary.{filter, range_with_len, cases_eq, nth_of, Moves, IsPut, ArePlaces}
use Rattle.std.proofs.lemmas.List.{get_or-set_same, get_or-set_other, length-set, take_more, append_assoc, append-nil, map-append}
use Rattle.std.proofs.lemmas.List.FromFn.{length-range_with_len, get_or-range_with_len}

pub put_none : (gone spare places : List ℕ) → IsPut gone spare 0 places places
put_none gone spare places = record { sized = refl; put = λ k l. absurd (none k l); others = λ t ne. refl }
  where
    none : (k : ℕ) → k < 0 → ⊥
    none k l = omega arith

pub put_more : (gone spare : List ℕ) (n : ℕ) (old mid : List ℕ) → n < length gone → AllPairs (λ t u. t ≢ u) gone → All (λ t. t < length mid) gone → IsPut gone spare n old mid → IsPut gone spare (n + 1) old (set mid (nth_of gone n) (nth_of spare n))
put_more gone spare n old mid l apart within so_far = record {
  sized = length-set mid (nth_of gone n) (nth_of spare n) ∙ so_far.sized;
  put = λ k h. by k h (cases_eq k n);
  others = λ t ne. get_or-set_other mid (nth_of gone n) t (nth_of spare n) 0 (λ e. ne n (omega arith) (sym e)) ∙ so_far.others t (λ k h. ne k (omega (arith, h)));
}
  where
    by : (k : ℕ) → k < n + 1 → (k ≡ n) ⊎ (k ≢ n) → nth_of (set mid (nth_of gone n) (nth_of spare n)) (nth_of gone k) ≡ nth_of spare k
    by k h (inl e) = ap (λ z. nth_of (set mid (nth_of gone n) (nth_of spare n)) (nth_of gone z)) e ∙ get_or-set_same mid (nth_of gone n) (nth_of spare n) 0 (within n 0 l) ∙ ap (nth_of spare) (sym e)
    by k h (inr ne) = let before : k < n = omega (arith, h, ne) in get_or-set_other mid (nth_of gone n) (nth_of gone k) (nth_of spare n) 0 (apart k n 0 before l) ∙ so_far.put k before

pub places_are : (count : ℕ) (moves : Moves) (old new : List ℕ) → old ≡ range_with_len 0 count → IsPut moves.gone moves.spare (length moves.gone) old new → ArePlaces count moves new
places_are count moves old new e put = record {
  sized = put.sized ∙ ap length e ∙ length-range_with_len 0 count;
  put = put.put;
  others = λ t l ne. put.others t ne ∙ ap (λ xs. nth_of xs t) e ∙ get_or-range_with_len 0 count t 0 l ∙ (let z : 0 + t ≡ t = omega arith in z);
}

-- what passes a test, one after the other
filter_append : (test : ℕ → Bool) (xs ys : List ℕ) → filter test (xs ++ ys) ≡ filter test xs ++ filter test ys
filter_append test [] ys = refl
filter_append test (x ∷ xs) ys = by (test x) (filter_append test xs ys)
  where
    by : (b : Bool) → filter test (xs ++ ys) ≡ filter test xs ++ filter test ys → cond b (x ∷ filter test (xs ++ ys)) (filter test (xs ++ ys)) ≡ cond b (x ∷ filter test xs) (filter test xs) ++ filter test ys
    by true e = ap (λ zs. x ∷ zs) e
    by false e = e

pub filter_both : (test : ℕ → Bool) (xs ys : List ℕ) → filter test xs ++ filter test ys ≡ filter test (xs ++ ys)
filter_both test xs ys = sym (filter_append test xs ys)

pub filter_more : (test : ℕ → Bool) (xs old now : List ℕ) (i : ℕ) (b : Bool) → i < length xs → b ≡ test (get_or xs i 0) → now ≡ old ++ filter test (take i xs) → (if b then now ++ get_or xs i 0 ∷ [] else now) ≡ old ++ filter test (take (i + 1) xs)
filter_more test xs old now i b l e so_far = by b e ∙ ap (λ zs. old ++ zs) (sym (filter_append test (take i xs) (get_or xs i 0 ∷ []))) ∙ ap (λ zs. old ++ filter test zs) (sym (take_more xs i 0 l))
  where
    by : (b : Bool) → b ≡ test (get_or xs i 0) → (if b then now ++ get_or xs i 0 ∷ [] else now) ≡ old ++ (filter test (take i xs) ++ filter test (get_or xs i 0 ∷ []))
    by true q = ap (λ zs. zs ++ get_or xs i 0 ∷ []) so_far ∙ append_assoc old (filter test (take i xs)) (get_or xs i 0 ∷ []) ∙ ap (λ c. old ++ (filter test (take i xs) ++ cond c (get_or xs i 0 ∷ []) [])) q
    by false q = so_far ∙ ap (λ zs. old ++ zs) (sym (append-nil (filter test (take i xs)))) ∙ ap (λ c. old ++ (filter test (take i xs) ++ cond c (get_or xs i 0 ∷ []) [])) q

-- so with a function
pub map_more : (f : ℕ → ℕ) (xs now : List ℕ) (i y : ℕ) → i < length xs → y ≡ f (get_or xs i 0) → now ≡ map f (take i xs) → now ++ y ∷ [] ≡ map f (take (i + 1) xs)
map_more f xs now i y l e so_far = (λ k. so_far k ++ e k ∷ []) ∙ sym (map-append f (take i xs) (get_or xs i 0 ∷ [])) ∙ ap (map f) (sym (take_more xs i 0 l))
