-- A stable sort by number puts a list in order.
use Rattle.std.proofs.Common.{◌≡◌, ℕ, zero, suc, ◌<◌, ◌≤◌, Bool, true, false, cond, List, [], ◌∷◌, length, get_or, filter, map, nat_cmp, is_lt, nat_lt, refl, sym, ap, ◌∙◌, arith, inl, inr, suc-le-suc, zero-le}
use Rattle.std.proofs.lemmas.Bool.{cond-true, cond-false, cases_Bool, ltb-true, ltb-false, Decides.nat_tests}
use Rattle.std.specs.List.Sorted.{ties, IsNonDecreasingBy, IsStableByKey}
use Rattle.design_flatten.specs.InOrder.{put_in_order, in_order}

-- each element is so
abbrev pub Each : {X : Type 0} (P : X → Type 0) → List X → Type 0
Each P [] = Unit {0}
Each P (x ∷ xs) = P x × Each P xs

module _ {X : Type 0} (P : X → Type 0) (n : X → ℕ) where
  each_put : (x : X) (ys : List X) → P x → Each P ys → Each P (put_in_order n x ys)
  each_put x [] first all = (first, tt)
  each_put x (y ∷ ys) first all = by (nat_lt (n y) (n x)) (each_put x ys first all.1)
    where
      by : (b : Bool) → Each P (put_in_order n x ys) → Each P (cond b (y ∷ put_in_order n x ys) (x ∷ y ∷ ys))
      by true later = (all.0, later)
      by false later = (first, all)

  pub each_in_order : (xs : List X) → Each P xs → Each P (in_order n xs)
  each_in_order [] all = tt
  each_in_order (x ∷ xs) all = each_put x (in_order n xs) all.0 (each_in_order xs all.1)

ties_at : (m n : ℕ) → (ties (λ x y. is_lt (nat_cmp x y)) m n ≡ true → m ≡ n) × (m ≡ n → ties (λ x y. is_lt (nat_cmp x y)) m n ≡ true)
ties_at m n = (λ h. grind (arith, nat_tests), λ h. grind (arith, nat_tests))

module _ {X : Type 0} (n : X → ℕ) where
  abbrev same : X → X → Bool
  same = ties (λ x y. is_lt (nat_cmp (n x) (n y)))

  same-true : (x y : X) → same x y ≡ true → n x ≡ n y
  same-true x y = (ties_at (n x) (n y)).0

  same_from : (x y : X) → n x ≡ n y → same x y ≡ true
  same_from x y = (ties_at (n x) (n y)).1

  filter-kept : (p : X → Bool) (y : X) (ys : List X) → p y ≡ true → filter p (y ∷ ys) ≡ y ∷ filter p ys
  filter-kept p y ys h = cond-true _ _ _ h

  filter-dropped : (p : X → Bool) (y : X) (ys : List X) → p y ≡ false → filter p (y ∷ ys) ≡ filter p ys
  filter-dropped p y ys h = cond-false _ _ _ h

  put-past : (x y : X) (ys : List X) → nat_lt (n y) (n x) ≡ true → put_in_order n x (y ∷ ys) ≡ y ∷ put_in_order n x ys
  put-past x y ys h = cond-true _ _ _ h

  put-stays : (x y : X) (ys : List X) → nat_lt (n y) (n x) ≡ false → put_in_order n x (y ∷ ys) ≡ x ∷ y ∷ ys
  put-stays x y ys h = cond-false _ _ _ h

  filter-put : (x c : X) (ds : List X) → filter (same x) (put_in_order n c ds) ≡ filter (same x) (c ∷ ds)
  filter-put x c [] = refl
  filter-put x c (d ∷ ds) =
      let p = same x in
      elim (cases_Bool (nat_lt (n d) (n c))) [
        | inr stays ↦ ap (filter p) (put-stays c d ds stays)
        | inl past ↦
            let lt = ltb-true _ _ past in
            ap (filter p) (put-past c d ds past)
            ∙ elim (cases_Bool (p d)) [
              | inr without ↦
                  filter-dropped p d (put_in_order n c ds) without ∙ filter-put x c ds
                  ∙ ap (λ l. cond (p c) (c ∷ l) l) (sym (filter-dropped p d ds without))
              | inl with ↦
                  elim (cases_Bool (p c)) [
                    | inl both ↦ absurd (omega (arith, lt, same-true x c both, same-true x d with))
                    | inr only ↦
                        filter-kept p d (put_in_order n c ds) with ∙ ap (λ l. d ∷ l) (filter-put x c ds ∙ filter-dropped p c ds only)
                        ∙ sym (filter-dropped p c (d ∷ ds) only ∙ filter-kept p d ds with)
                  ]
            ]
      ]

  filter-in_order : (x : X) (cs : List X) → filter (same x) (in_order n cs) ≡ filter (same x) cs
  filter-in_order x [] = refl
  filter-in_order x (c ∷ cs) = filter-put x c (in_order n cs) ∙ ap (λ l. cond (same x c) (c ∷ l) l) (filter-in_order x cs)

  abbrev pub AreAtLeast : ℕ → List X → Type 0
  AreAtLeast k [] = Unit {0}
  AreAtLeast k (y ∷ ys) = (k ≤ n y) × AreAtLeast k ys

  abbrev pub Rises : List X → Type 0
  Rises [] = Unit {0}
  Rises (y ∷ ys) = AreAtLeast (n y) ys × Rises ys

  AreAtLeast-le : (k m : ℕ) (ys : List X) → k ≤ m → AreAtLeast m ys → AreAtLeast k ys
  AreAtLeast-le k m [] le h = tt
  AreAtLeast-le k m (y ∷ ys) le h = let first = h.0 in (omega arith, AreAtLeast-le k m ys le h.1)

  AreAtLeast-at : (k : ℕ) (ys : List X) → ((j : ℕ) (d : X) → j < length ys → k ≤ n (get_or ys j d)) → AreAtLeast k ys
  AreAtLeast-at k [] h = tt
  AreAtLeast-at k (y ∷ ys) h = (h zero y (suc-le-suc zero-le), AreAtLeast-at k ys (λ j d lt. h (suc j) d (suc-le-suc lt)))

  Rises-from_sort : (ys : List X) → IsNonDecreasingBy n ys → Rises ys
  Rises-from_sort [] h = tt
  Rises-from_sort (y ∷ ys) h = (
    AreAtLeast-at (n y) ys (λ j d lt. h zero (suc j) d zero-le (suc-le-suc lt)),
    Rises-from_sort ys (λ i j d le lt. h (suc i) (suc j) d (suc-le-suc le) (suc-le-suc lt)),
  )

  AreAtLeast-put : (k : ℕ) (x : X) (ys : List X) → k ≤ n x → AreAtLeast k ys → AreAtLeast k (put_in_order n x ys)
  AreAtLeast-put k x [] le h = (le, tt)
  AreAtLeast-put k x (y ∷ ys) le h = by (nat_lt (n y) (n x)) (AreAtLeast-put k x ys le h.1)
    where
      by : (b : Bool) → AreAtLeast k (put_in_order n x ys) → AreAtLeast k (cond b (y ∷ put_in_order n x ys) (x ∷ y ∷ ys))
      by true later = (h.0, later)
      by false later = (le, h)

  Rises-put : (x : X) (ys : List X) → Rises ys → Rises (put_in_order n x ys)
  Rises-put x [] h = (tt, tt)
  Rises-put x (y ∷ ys) h = by (nat_lt (n y) (n x)) refl (Rises-put x ys h.1)
    where
      by : (b : Bool) → nat_lt (n y) (n x) ≡ b → Rises (put_in_order n x ys) → Rises (cond b (y ∷ put_in_order n x ys) (x ∷ y ∷ ys))
      by true e later = let lt = ltb-true _ _ e in (AreAtLeast-put (n y) x ys (omega arith) h.0, later)
      by false e later = let le = ltb-false _ _ e in ((omega arith, AreAtLeast-le (n x) (n y) ys (omega arith) h.0), h)

  pub Rises-in_order : (xs : List X) → Rises (in_order n xs)
  Rises-in_order [] = tt
  Rises-in_order (x ∷ xs) = Rises-put x (in_order n xs) (Rises-in_order xs)

  -- the number of x occurs among them
  AreAtLeast-found : (k : ℕ) (x : X) (ys : List X) (w : X) (ws : List X) → AreAtLeast k ys → filter (same x) ys ≡ w ∷ ws → k ≤ n x
  AreAtLeast-found k x [] w ws h e = cc
  AreAtLeast-found k x (y ∷ ys) w ws h e =
      elim (cases_Bool (same x y)) [
        | inl with ↦ omega (arith, h.0, same-true x y with)
        | inr without ↦ AreAtLeast-found k x ys w ws h.1 (sym (filter-dropped (same x) y ys without) ∙ e)
      ]

  same_from_numbers : (ys zs : List X) → Rises ys → Rises zs → ((x : X) → filter (same x) ys ≡ filter (same x) zs) → ys ≡ zs
  same_from_numbers [] [] left right h = refl
  same_from_numbers [] (z ∷ zs) left right h = let clash = h z ∙ filter-kept (same z) z zs (same_from z z refl) in cc
  same_from_numbers (y ∷ ys) [] left right h = let clash = sym (h y) ∙ filter-kept (same y) y ys (same_from y y refl) in cc
  same_from_numbers (y ∷ ys) (z ∷ zs) left right h =
      let at_y = filter-kept (same y) y ys (same_from y y refl) in
      let at_z = filter-kept (same z) z zs (same_from z z refl) in
      let up = AreAtLeast-found (n z) y (z ∷ zs) y _ (omega arith, right.0) (sym (h y) ∙ at_y) in
      let down = AreAtLeast-found (n y) z (y ∷ ys) z _ (omega arith, left.0) (h z ∙ at_z) in
      let heads = sym at_y ∙ h y ∙ filter-kept (same y) z zs (same_from y z (omega arith)) in
      let head : y ≡ z = cc in
      let tails : (x : X) → filter (same x) ys ≡ filter (same x) zs =
      λ x. elim (cases_Bool (same x y)) [
        | inl with ↦
            let both = sym (filter-kept (same x) y ys with) ∙ h x ∙ filter-kept (same x) z zs (ap (same x) (sym head) ∙ with) in cc
        | inr without ↦
            sym (filter-dropped (same x) y ys without) ∙ h x ∙ filter-dropped (same x) z zs (ap (same x) (sym head) ∙ without)
      ] in
      ap (λ w. w ∷ ys) head ∙ ap (λ l. z ∷ l) (same_from_numbers ys zs left.1 right.1 tails)

  pub in_order-from_sort : (xs ys : List X) → IsNonDecreasingBy n ys → IsStableByKey n nat_cmp xs ys → ys ≡ in_order n xs
  in_order-from_sort xs ys sorted stable =
      same_from_numbers ys (in_order n xs) (Rises-from_sort ys sorted) (Rises-in_order xs) (λ x. stable x ∙ sym (filter-in_order x xs))

-- the same of what the elements stand for
module _ {X Y : Type 0} (f : X → Y) (n : X → ℕ) (m : Y → ℕ) (same_number : (x : X) → n x ≡ m (f x)) where
  put-map : (x : X) (ys : List X) → map f (put_in_order n x ys) ≡ put_in_order m (f x) (map f ys)
  put-map x [] = refl
  put-map x (y ∷ ys) = rw (← same_number x, ← same_number y) (by (nat_lt (n y) (n x)) (put-map x ys))
    where
      by : (b : Bool) → map f (put_in_order n x ys) ≡ put_in_order m (f x) (map f ys) → map f (cond b (y ∷ put_in_order n x ys) (x ∷ y ∷ ys)) ≡ cond b (f y ∷ put_in_order m (f x) (map f ys)) (f x ∷ f y ∷ map f ys)
      by true e = ap (λ l. f y ∷ l) e
      by false e = refl

  pub in_order-map : (xs : List X) → map f (in_order n xs) ≡ in_order m (map f xs)
  in_order-map [] = refl
  in_order-map (x ∷ xs) = put-map x (in_order n xs) ∙ ap (put_in_order m (f x)) (in_order-map xs)
