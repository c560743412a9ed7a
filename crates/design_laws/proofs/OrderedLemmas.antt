-- What is put in order by line numbers stands as the statements do.
use Rattle.std.proofs.Common.{◌≡◌, ℕ, ◌+◌, ◌≤◌, Bool, true, false, cond, nat_lt, List, [], ◌∷◌, ◌++◌, refl, sym, ap, ◌∙◌, arith, append_assoc, zero-add}
use Rattle.design_laws.proofs.Vocabulary.{flat_map, sum_by, sum_by-append, lt-ltb, le-ltb, put_in_order, in_order}
use Rattle.design_laws.proofs.AscendingLemmas.{Ascend}

-- each element is so
abbrev pub Each : {X : Type 0} (P : X → Type 0) → List X → Type 0
Each P [] = Unit {0}
Each P (x ∷ xs) = P x × Each P xs

pub each-append : {X : Type 0} (P : X → Type 0) (xs ys : List X) → Each P xs → Each P ys → Each P (xs ++ ys)
each-append P [] ys a b = b
each-append P (x ∷ xs) ys a b = (a.0, each-append P xs ys a.1 b)

pub each-map : {X : Type 0} (P Q : X → Type 0) → ((x : X) → P x → Q x) → (xs : List X) → Each P xs → Each Q xs
each-map P Q f [] a = tt
each-map P Q f (x ∷ xs) a = (f x a.0, each-map P Q f xs a.1)

-- the first, and those behind it
pub sum-cons : {X : Type 0} (f : X → ℕ) (x : X) (xs : List X) → sum_by f (x ∷ xs) ≡ f x + sum_by f xs
sum-cons f x xs = sum_by-append f (x ∷ []) xs ∙ ap (λ n. n + sum_by f xs) (zero-add (f x))

module _ {X : Type 0} (number : X → ℕ) where
  abbrev pub Is : ℕ → X → Type 0
  Is n x = number x ≡ n

  abbrev pub IsFrom : ℕ → X → Type 0
  IsFrom n x = n ≤ number x

  each_put : (n : ℕ) (x : X) (ys : List X) → IsFrom n x → Each (IsFrom n) ys → Each (IsFrom n) (put_in_order number x ys)
  each_put n x [] first all = (first, tt)
  each_put n x (y ∷ ys) first all = by (nat_lt (number y) (number x)) (each_put n x ys first all.1)
    where
      by : (b : Bool) → Each (IsFrom n) (put_in_order number x ys) → Each (IsFrom n) (cond b (y ∷ put_in_order number x ys) (x ∷ y ∷ ys))
      by true later = (all.0, later)
      by false later = (first, all)

  each_in_order : (n : ℕ) (xs : List X) → Each (IsFrom n) xs → Each (IsFrom n) (in_order number xs)
  each_in_order n [] all = tt
  each_in_order n (x ∷ xs) all = each_put n x (in_order number xs) all.0 (each_in_order n xs all.1)

  -- in front of those from its number on
  put_first : (n : ℕ) (x : X) (ys : List X) → Is n x → Each (IsFrom n) ys → put_in_order number x ys ≡ x ∷ ys
  put_first n x [] is all = refl
  put_first n x (y ∷ ys) is all =
      let no : nat_lt (number y) (number x) ≡ false = le-ltb (number y) (number x) (omega (arith, is, all.0)) in
      rw no refl

  -- behind those below its number
  put_behind : (n : ℕ) (x : X) (ys zs : List X) → Each (Is n) ys → IsFrom (n + 1) x → put_in_order number x (ys ++ zs) ≡ ys ++ put_in_order number x zs
  put_behind n x [] zs is above = refl
  put_behind n x (y ∷ ys) zs is above =
      let past : nat_lt (number y) (number x) ≡ true = lt-ltb (number y) (number x) (omega (arith, is.0, above)) in
      rw past (ap (λ ws. y ∷ ws) (put_behind n x ys zs is.1 above))

  is_from : (n : ℕ) (x : X) → Is n x → IsFrom n x
  is_from n x is = omega (arith, is)

  -- those of one number, then those from it on
  front_first : (n : ℕ) (ys zs : List X) → Each (Is n) ys → Each (IsFrom n) zs → in_order number (ys ++ zs) ≡ ys ++ in_order number zs
  front_first n [] zs is all = refl
  front_first n (y ∷ ys) zs is all =
      ap (put_in_order number y) (front_first n ys zs is.1 all)
      ∙ put_first n y (ys ++ in_order number zs) is.0 (each-append (IsFrom n) ys (in_order number zs) (each-map (Is n) (IsFrom n) (is_from n) ys is.1) (each_in_order n zs all))

  -- wherever they stand among those above
  pub middle_first : (n : ℕ) (xs ys zs : List X) → Each (IsFrom (n + 1)) xs → Each (Is n) ys → Each (IsFrom n) zs → in_order number (xs ++ (ys ++ zs)) ≡ ys ++ in_order number (xs ++ zs)
  middle_first n [] ys zs above is all = front_first n ys zs is all
  middle_first n (x ∷ xs) ys zs above is all = ap (put_in_order number x) (middle_first n xs ys zs above.1 is all) ∙ put_behind n x ys (in_order number (xs ++ zs)) is above.0

  -- ---- three lists from one that ascends

  module _ {S : Type 0} (at : S → ℕ) (f g h : S → List X) (fs : (s : S) → Each (Is (at s)) (f s)) (gs : (s : S) → Each (Is (at s)) (g s)) (hs : (s : S) → Each (Is (at s)) (h s)) where
    from_is : (n m : ℕ) → n ≤ m → (x : X) → Is m x → IsFrom n x
    from_is n m le x is = omega (arith, le, is)

    all_from : (k : S → List X) (ks : (s : S) → Each (Is (at s)) (k s)) (n : ℕ) (ss : List S) → Ascend at n ss → Each (IsFrom n) (flat_map k ss)
    all_from k ks n [] a = tt
    all_from k ks n (s ∷ ss) a =
        each-append (IsFrom n) (k s) (flat_map k ss) (each-map (Is (at s)) (IsFrom n) (from_is n (at s) a.0) (k s) (ks s))
        (each-map (IsFrom (at s + 1)) (IsFrom n) (λ x le. omega (arith, le, a.0)) (flat_map k ss) (all_from k ks (at s + 1) ss a.1))

    from_lower : (n : ℕ) (xs : List X) → Each (IsFrom (n + 1)) xs → Each (IsFrom n) xs
    from_lower n xs all = each-map (IsFrom (n + 1)) (IsFrom n) (λ x le. omega (arith, le)) xs all

    from_one : (n : ℕ) (xs : List X) → Each (Is n) xs → Each (IsFrom n) xs
    from_one n xs all = each-map (Is n) (IsFrom n) (is_from n) xs all

    regrouped : (a b c d e i : List X) → ((a ++ b) ++ (c ++ d)) ++ (e ++ i) ≡ a ++ (b ++ (c ++ (d ++ (e ++ i))))
    regrouped a b c d e i = append_assoc (a ++ b) (c ++ d) (e ++ i) ∙ append_assoc a b ((c ++ d) ++ (e ++ i)) ∙ ap (λ x. a ++ (b ++ x)) (append_assoc c d (e ++ i))

    pub in_turn : (n : ℕ) (ss : List S) → Ascend at n ss → in_order number ((flat_map f ss ++ flat_map g ss) ++ flat_map h ss) ≡ flat_map (λ s. (f s ++ g s) ++ h s) ss
    in_turn n [] a = refl
    in_turn n (s ∷ ss) a =
        let m = at s in
        let fr = flat_map f ss in
        let gr = flat_map g ss in
        let hr = flat_map h ss in
        let fa = all_from f fs (m + 1) ss a.1 in
        let ga = all_from g gs (m + 1) ss a.1 in
        let ha = all_from h hs (m + 1) ss a.1 in
        let last : Each (IsFrom m) (h s ++ hr) = each-append (IsFrom m) (h s) hr (from_one m (h s) (hs s)) (from_lower m hr ha) in
        let second : Each (IsFrom m) (gr ++ (h s ++ hr)) = each-append (IsFrom m) gr (h s ++ hr) (from_lower m gr ga) last in
        let third : Each (IsFrom m) (g s ++ (gr ++ (h s ++ hr))) = each-append (IsFrom m) (g s) (gr ++ (h s ++ hr)) (from_one m (g s) (gs s)) second in
        let fourth : Each (IsFrom m) (fr ++ (g s ++ (gr ++ (h s ++ hr)))) = each-append (IsFrom m) fr (g s ++ (gr ++ (h s ++ hr))) (from_lower m fr fa) third in
        ap (in_order number) (regrouped (f s) fr (g s) gr (h s) hr)
        ∙ front_first m (f s) (fr ++ (g s ++ (gr ++ (h s ++ hr)))) (fs s) fourth
        ∙ ap (λ x. f s ++ x) (middle_first m fr (g s) (gr ++ (h s ++ hr)) fa (gs s) second)
        ∙ ap (λ x. f s ++ (g s ++ in_order number x)) (sym (append_assoc fr gr (h s ++ hr)))
        ∙ ap (λ x. f s ++ (g s ++ x)) (middle_first m (fr ++ gr) (h s) hr (each-append (IsFrom (m + 1)) fr gr fa ga) (hs s) (from_lower m hr ha))
        ∙ ap (λ x. f s ++ (g s ++ (h s ++ x))) (in_turn (m + 1) ss a.1)
        ∙ sym (append_assoc (f s ++ g s) (h s) (flat_map (λ s. (f s ++ g s) ++ h s) ss) ∙ append_assoc (f s) (g s) (h s ++ flat_map (λ s. (f s ++ g s) ++ h s) ss))
