-- Parts of lists.
use Rattle.std.proofs.Common.{◌≡◌, ◌≢◌, ◌⊎◌, ℕ, ◌+◌, ◌-◌, ◌<◌, ◌≤◌, List, [], ◌∷◌, ◌++◌, length, get_or, map, take, drop, refl, sym, ap, ◌∙◌, subst, inl, inr, arith}
use Rattle.place_pair.proofs.Vocabulary.{All, AllPairs, Contains, cases_lt, part}
use Rattle.std.proofs.lemmas.List.{get_or-take, get_or-drop, get_or-map, get_or_append_left, get_or-append_right, get_or-append-add, length-take-le, length-drop, length-append, length-map, take-map, drop-map, take_all, take-append-drop, get_or_default}

pub nth_part : {A : Type 0} (a b : ℕ) (xs : List A) (k : ℕ) (d : A) → k < b → get_or (part a b xs) k d ≡ get_or xs (a + k) d
nth_part a b xs k d h = get_or-take b (drop a xs) k d h ∙ get_or-drop a xs k d

pub length_part : {A : Type 0} (a b : ℕ) (xs : List A) → a + b ≤ length xs → length (part a b xs) ≡ b
length_part a b xs h = length-take-le b (drop a xs) (let e = length-drop a xs in omega (arith, e, h))

pub map_part : {A B : Type 0} (f : A → B) (a b : ℕ) (xs : List A) → part a b (map f xs) ≡ map f (part a b xs)
map_part f a b xs = ap (take b) (drop-map f a xs) ∙ take-map f b (drop a xs)

-- a list is its first part and then the rest
pub both_parts : {A : Type 0} (a b : ℕ) (xs : List A) → length xs ≡ a + b → part 0 a xs ++ part a b xs ≡ xs
both_parts a b xs h = ap (λ ys. take a xs ++ ys) (take_all b (drop a xs) (let e = length-drop a xs in omega (arith, e, h))) ∙ take-append-drop a xs

pub all_part : {A : Type 0} (P : A → Type 0) (a b : ℕ) (xs : List A) → a + b ≤ length xs → All P xs → All P (part a b xs)
all_part P a b xs h all k d l =
    let e = length_part a b xs h in
    let lt : k < b = omega (arith, l, e) in
    subst P (sym (nth_part a b xs k d lt)) (all (a + k) d (omega (arith, lt, h)))

pub pairs_part : {A : Type 0} (P : A → A → Type 0) (a b : ℕ) (xs : List A) → a + b ≤ length xs → AllPairs P xs → AllPairs P (part a b xs)
pairs_part P a b xs h all i j d lt l =
    let e = length_part a b xs h in
    let lj : j < b = omega (arith, l, e) in
    let li : i < b = omega (arith, lt, lj) in
    subst (λ z. P z (get_or (part a b xs) j d)) (sym (nth_part a b xs i d li)) (subst (P (get_or xs (a + i) d)) (sym (nth_part a b xs j d lj)) (all (a + i) (a + j) d (omega (arith, lt)) (omega (arith, lj, h))))

pub all_append : {A : Type 0} (P : A → Type 0) (xs ys : List A) → All P xs → All P ys → All P (xs ++ ys)
all_append P xs ys p q k d l = by (cases_lt k (length xs))
  where
    by : (k < length xs) ⊎ (length xs ≤ k) → P (get_or (xs ++ ys) k d)
    by (inl h) = subst P (sym (get_or_append_left xs ys d k h)) (p k d h)
    by (inr h) = let e = length-append xs ys in subst P (sym (get_or-append_right xs ys (length xs) k d refl h)) (q (k - length xs) d (omega (arith, l, h, e)))

pub all_map : {A B : Type 0} (f : A → B) (P : A → Type 0) (Q : B → Type 0) → ((x : A) → P x → Q (f x)) → (xs : List A) → All P xs → All Q (map f xs)
all_map f P Q to [] all k d l = absurd (let no : ⊥ = omega (arith, l) in no)
all_map f P Q to (x ∷ xs) all k d l =
    let h : k < length (x ∷ xs) = let e = length-map (x ∷ xs) f in omega (arith, l, e) in
    subst Q (sym (get_or-map f (x ∷ xs) k x d h)) (to (get_or (x ∷ xs) k x) (all k x h))

pub contains_map : {A B : Type 0} (f : A → B) (xs : List A) (x : A) → Contains xs x → Contains (map f xs) (f x)
contains_map f xs x has = (has.0, (let e = length-map xs f in omega (arith, has.1, e)), get_or-map f xs has.0 x (f x) has.1 ∙ ap f has.2)

pub contains_unmap : {A B : Type 0} (f : A → B) (xs : List A) (y : B) → Contains (map f xs) y → (x : A) × Contains xs x × (f x ≡ y)
contains_unmap {A = A} f [] y has = absurd (let l = has.1 in let no : ⊥ = omega (arith, l) in no)
contains_unmap {A = A} f (x ∷ xs) y has =
    let h : has.0 < length (x ∷ xs) = let e = length-map (x ∷ xs) f in omega (arith, has.1, e) in
    (get_or (x ∷ xs) has.0 x, (has.0, h, same x xs has.0 h), sym (get_or-map f (x ∷ xs) has.0 x y h) ∙ has.2)
  where
    same : (x : A) (xs : List A) (k : ℕ) → k < length (x ∷ xs) → get_or (x ∷ xs) k (get_or (x ∷ xs) k x) ≡ get_or (x ∷ xs) k x
    same x xs k h = get_or_default (x ∷ xs) k (get_or (x ∷ xs) k x) x h

pub all_has : {A : Type 0} (P : A → Type 0) (xs : List A) (x : A) → All P xs → Contains xs x → P x
all_has P xs x all has = subst P has.2 (all has.0 x has.1)

-- Parts of two lists, one behind the other, are of the two lists so.
module _ (a b c e : ℕ) (xs ys : List ℕ) (left : a + b ≤ length xs) (right : c + e ≤ length ys) where
  abbrev Stands : ℕ → ℕ → Type 0
  Stands k q = ((k < b) × (q ≡ a + k)) ⊎ ((b ≤ k) × (q + b ≡ length xs + c + k))

  long : length (part a b xs ++ part c e ys) ≡ b + e
  long = let l = length-append (part a b xs) (part c e ys) in let p = length_part a b xs left in let q = length_part c e ys right in omega (arith, l, p, q)

  found_at : (k d : ℕ) → k < b + e → (q : ℕ) × (q < length (xs ++ ys)) × (get_or (part a b xs ++ part c e ys) k d ≡ get_or (xs ++ ys) q d) × Stands k q
  found_at k d h = by (cases_lt k b)
    where
      by : (k < b) ⊎ (b ≤ k) → (q : ℕ) × (q < length (xs ++ ys)) × (get_or (part a b xs ++ part c e ys) k d ≡ get_or (xs ++ ys) q d) × Stands k q
      by (inl l) =
          let p = length_part a b xs left in
          let n = length-append xs ys in
          (a + k, omega (arith, l, left, n), get_or_append_left (part a b xs) (part c e ys) d k (omega (arith, l, p)) ∙ nth_part a b xs k d l ∙ sym (get_or_append_left xs ys d (a + k) (omega (arith, l, left))), inl (l, refl))
      by (inr g) =
          let p = length_part a b xs left in
          let n = length-append xs ys in
          (length xs + (c + (k - b)), omega (arith, g, h, right, n), get_or-append_right (part a b xs) (part c e ys) b k d p g ∙ nth_part c e ys (k - b) d (omega (arith, g, h)) ∙ sym (get_or-append-add xs ys (c + (k - b)) d), inr (g, omega (arith, g)))

  pub all_pins : (P : ℕ → Type 0) → All P (xs ++ ys) → All P (part a b xs ++ part c e ys)
  all_pins P all k d l = let r = found_at k d (let n = long in omega (arith, l, n)) in subst P (sym r.2) (all r.0 d r.1)

  pub pairs_pins : AllPairs (λ k l. k ≢ l) (xs ++ ys) → AllPairs (λ k l. k ≢ l) (part a b xs ++ part c e ys)
  pairs_pins all i j d lt l same =
      let n = long in
      let p = found_at i d (omega (arith, lt, l, n)) in
      let q = found_at j d (omega (arith, l, n)) in
      all p.0 q.0 d (before i j p.0 q.0 lt p.1 p.3 q.3) q.1 (sym p.2 ∙ same ∙ q.2)
    where
      before : (i j p q : ℕ) → i < j → p < length (xs ++ ys) → Stands i p → Stands j q → p < q
      before i j p q lt l (inl s) (inl t) = omega (arith, lt, s.1, t.1)
      before i j p q lt l (inl s) (inr t) = omega (arith, lt, s.0, s.1, t.0, t.1, left)
      before i j p q lt l (inr s) (inl t) = absurd (let no : ⊥ = omega (arith, lt, s.0, t.0) in no)
      before i j p q lt l (inr s) (inr t) = omega (arith, lt, s.1, t.1)
