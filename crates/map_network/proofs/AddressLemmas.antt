-- Numbers from their bits, the highest first, and the different sources of two lists.
use Rattle.std.proofs.Common.{◌≡◌, Bool, ℕ, suc, ◌+◌, ◌*◌, ◌-◌, ◌^◌, ◌<◌, ◌≤◌, List, [], ◌∷◌, ◌++◌, Option, None, Some, true, false, length, map, get_or, take, drop, sym, ap, subst, ◌∙◌, arith, if◌then◌else◌, not, ◌==◌, MatchOption}
use Rattle.map_network.proofs.Vocabulary.{range_with_len, pow-le-pow_right, filter-append, number_of, cell_at, six_bits, distinct, is_among}
use Rattle.std.proofs.lemmas.List.{append-nil, take_more, take-append-drop, length_push}
use Rattle.std.proofs.lemmas.List.FromFn.{get_or-map-range_with_len, length-map-range_with_len}
use Rattle.map_network.proofs.CellLemmas.{number_fits}
use Rattle.map_network.proofs.NameLemmas.{after, distinct_le, without, without_same, without_other}

pub six_bit : (a k : ℕ) → k < 6 → cell_at a k ≡ get_or (six_bits a) k true
unfolding six_bits
six_bit a k lk = sym (get_or-map-range_with_len (cell_at a) 0 6 k k true lk (omega arith))

pub one_bit : (b : Bool) → (if b then 1 else 0) ≤ 1
one_bit true = omega arith
one_bit false = omega arith

pub number_below : (g : ℕ → Bool) (a k m : ℕ) → k ≤ m → number_of (map g (range_with_len a k)) < 2 ^ m
number_below g a k m le =
    let h : number_of (map g (range_with_len a k)) < 2 ^ k = subst (λ n. number_of (map g (range_with_len a k)) < 2 ^ n) (length-map-range_with_len g a k) (number_fits (map g (range_with_len a k))) in
    let some : 0 < 2 = omega arith in
    let p : 2 ^ k ≤ 2 ^ m = pow-le-pow_right some le in
    omega arith

-- one bit more in front
pub horner : (g : ℕ → Bool) (n k : ℕ) → k < n → number_of (map g (range_with_len (n - (k + 1)) (k + 1))) ≡ (if g (n - (k + 1)) then 1 else 0) + 2 * number_of (map g (range_with_len (n - k) k))
horner g n k l =
    let e : k + 1 ≡ suc k = omega arith in
    let f : n - (k + 1) + 1 ≡ n - k = omega arith in
    ap (λ c. number_of (map g (range_with_len (n - (k + 1)) c))) e
    ∙ ap (λ a. (if g (n - (k + 1)) then 1 else 0) + 2 * number_of (map g (range_with_len a k))) f

module _ (t : ℕ) (all : List ℕ) (k : ℕ) (lk : k < length all) where
  cut : without t (take (k + 1) all) ≡ without t (take k all) ++ without t (get_or all k 0 ∷ [])
  cut = ap (without t) (take_more all k 0 lk) ∙ filter-append (λ x. not (x == t)) (take k all) (get_or all k 0 ∷ [])

  skipped : get_or all k 0 ≡ t → without t (take (k + 1) all) ≡ without t (take k all)
  skipped e = cut ∙ ap (λ xs. without t (take k all) ++ xs) (without_same t (get_or all k 0) [] e) ∙ append-nil (without t (take k all))

  added : (get_or all k 0 ≡ t → ⊥) → without t (take (k + 1) all) ≡ without t (take k all) ++ get_or all k 0 ∷ []
  added d = cut ∙ ap (λ xs. without t (take k all) ++ xs) (without_other t (get_or all k 0) [] d)

  module _ (names : List ℕ) (old : names ≡ distinct (without t (take k all))) where
    pub table_skipped : get_or all k 0 ≡ t → names ≡ distinct (without t (take (k + 1) all))
    table_skipped e = old ∙ ap distinct (sym (skipped e))

    pub name_kept : (get_or all k 0 ≡ t → ⊥) → true ≡ is_among names (get_or all k 0) → names ≡ distinct (without t (take (k + 1) all))
    name_kept d h = old ∙ sym ((after (without t (take k all)) (get_or all k 0)).0 (ap (λ ns. is_among ns (get_or all k 0)) (sym old) ∙ sym h)) ∙ ap distinct (sym (added d))

    pub name_added : (get_or all k 0 ≡ t → ⊥) → false ≡ is_among names (get_or all k 0) → names ++ get_or all k 0 ∷ [] ≡ distinct (without t (take (k + 1) all))
    name_added d h = ap (λ ns. ns ++ get_or all k 0 ∷ []) old ∙ sym ((after (without t (take k all)) (get_or all k 0)).1 (ap (λ ns. is_among ns (get_or all k 0)) (sym old) ∙ sym h)) ∙ ap distinct (sym (added d))

    pub too_many_names : (get_or all k 0 ≡ t → ⊥) → false ≡ is_among names (get_or all k 0) → length names ≡ 6 → 6 < length (distinct (without t all))
    too_many_names d h six =
        let e = ap length (name_added d h) in
        let l = distinct_le (without t (take (k + 1) all)) (without t (drop (k + 1) all)) in
        let f = ap (λ xs. length (distinct xs)) (sym (filter-append (λ x. not (x == t)) (take (k + 1) all) (drop (k + 1) all)) ∙ ap (without t) (take-append-drop (k + 1) all)) in
        omega (arith, length_push names (get_or all k 0))

pub match_map : {X : Type 0} (A B : Type 0) (P Q : X → Type 0) (o : Option X) → (A → B) → ((x : X) → P x → Q x) → MatchOption o A P → MatchOption o B Q
match_map A B P Q None f g m = f m
match_map A B P Q (Some x) f g m = g x m
