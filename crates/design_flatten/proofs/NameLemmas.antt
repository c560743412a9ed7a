-- Sets of names.
use Rattle.std.proofs.Common.{◌≡◌, ℕ, ◌+◌, ◌<◌, Bool, true, false, not, cond, List, [], ◌∷◌, ◌++◌, Some, None, position, length, map, refl, sym, ap, ◌∙◌, ◌||◌, nat_lt, arith, inl, inr, ◌⊎◌}
use Rattle.design_flatten.proofs.Vocabulary.{Bor, list_any, position_or_len, bytes_eq, ltb-false, or_cases, or-true, or-false, or_assoc}
use Rattle.design_flatten.proofs.Vocabulary.{map_push, list_any-append, bytes_eq-Decides, is_among, with_name, with_names, number_in}

abbrev pub now : Bor (List ℕ) → List ℕ
now k = k.now

abbrev pub same : List ℕ → Bor (List ℕ) → Bool
same w k = bytes_eq w k.now

pub any_keys : (w : List ℕ) (ks : List (Bor (List ℕ))) → list_any (same w) ks ≡ is_among (map now ks) w
any_keys w [] = refl
any_keys w (k ∷ ks) = ap (λ b. bytes_eq w k.now || b) (any_keys w ks)

pub any_view : (w : List ℕ) (ks : List (Bor (List ℕ))) (names : List (List ℕ)) → map now ks ≡ names → list_any (same w) ks ≡ is_among names w
any_view w ks names view = any_keys w ks ∙ ap (λ ns. is_among ns w) view

pub place_keys : (w : List ℕ) (ks : List (Bor (List ℕ))) → position_or_len (same w) ks ≡ number_in (map now ks) w
place_keys w [] = refl
place_keys w (k ∷ ks) = ap (λ n. cond (not (bytes_eq w k.now)) (1 + n) 0) (place_keys w ks)

pub some_is : (b : Bool) (n i : ℕ) → cond b (Some n) None ≡ Some i → n ≡ i
some_is true n i e = cc
some_is false n i e = absurd cc

pub known_number : (w : List ℕ) (ks : List (Bor (List ℕ))) (names : List (List ℕ)) → map now ks ≡ names → (i : ℕ) → Some i ≡ position (same w) ks → i ≡ number_in names w
known_number w ks names view i e = sym (some_is (nat_lt (position_or_len (same w) ks) (length ks)) _ i (sym e)) ∙ place_keys w ks ∙ ap (λ ns. number_in ns w) view

place-le : {X : Type 0} (p : X → Bool) (xs : List X) → position_or_len p xs < length xs + 1
place-le p [] = omega arith
place-le p (x ∷ xs) = by (p x) (place-le p xs)
  where
    by : (b : Bool) → position_or_len p xs < length xs + 1 → cond (not b) (1 + position_or_len p xs) 0 < length (x ∷ xs) + 1
    by true le = omega arith
    by false le = omega arith

none_is : (n m : ℕ) → n < m + 1 → cond (nat_lt n m) (Some n) None ≡ None → m ≡ n
none_is n m le e = by (nat_lt n m) refl e
  where
    by : (b : Bool) → nat_lt n m ≡ b → cond b (Some n) None ≡ None → m ≡ n
    by true t h = absurd cc
    by false t h = omega (arith, ltb-false _ _ t)

pub absent_number : (w : List ℕ) (ks : List (Bor (List ℕ))) (names : List (List ℕ)) → map now ks ≡ names → None ≡ position (same w) ks → length ks ≡ number_in names w
absent_number w ks names view e =
    none_is (position_or_len (same w) ks) (length ks) (place-le (same w) ks) (sym e) ∙ place_keys w ks ∙ ap (λ ns. number_in ns w) view

pub inserted_key : (key : Bor (List ℕ)) (ks new : List (Bor (List ℕ))) (names : List (List ℕ)) → map now ks ≡ names → new ≡ cond (list_any (same key.now) ks) ks (ks ++ key ∷ []) → map now new ≡ with_name names key.now
inserted_key key ks new names view e =
    ap (map now) e ∙ by_test (list_any (same key.now) ks) (any_view key.now ks names view)
  where
    by_test : (b : Bool) → b ≡ is_among names key.now → map now (cond b ks (ks ++ key ∷ [])) ≡ with_name names key.now
    by_test true h = rw (← h) view
    by_test false h = rw (← h) (map_push now ks key ∙ ap (λ ns. ns ++ key.now ∷ []) view)

-- ---- what is among them

pub same_name : (w : List ℕ) → bytes_eq w w ≡ true
same_name w = (bytes_eq-Decides w w).1 refl

pub name_is : (v w : List ℕ) → bytes_eq v w ≡ true → v ≡ w
name_is v w e = (bytes_eq-Decides v w).0 e

-- a name that is among them changes nothing
or_same : (names : List (List ℕ)) (n w : List ℕ) → is_among names n ≡ true → (is_among names w || bytes_eq w n) ≡ is_among names w
or_same names n w h = by (bytes_eq w n) refl
  where
    true_or : (b : Bool) → b ≡ true → (b || true) ≡ b
    true_or true e = refl
    true_or false e = absurd cc

    by : (b : Bool) → bytes_eq w n ≡ b → (is_among names w || b) ≡ is_among names w
    by true e = true_or (is_among names w) (ap (is_among names) (name_is w n e) ∙ h)
    by false e = or-false (is_among names w)

pub among-push : (names : List (List ℕ)) (n w : List ℕ) → is_among (names ++ n ∷ []) w ≡ (is_among names w || bytes_eq w n)
among-push names n w = list_any-append (bytes_eq w) names (n ∷ []) ∙ ap (λ b. is_among names w || b) (or-false (bytes_eq w n))

among-with : (names : List (List ℕ)) (n w : List ℕ) → is_among (with_name names n) w ≡ (is_among names w || bytes_eq w n)
among-with names n w = by (is_among names n) refl
  where
    by : (b : Bool) → is_among names n ≡ b → is_among (cond b names (names ++ n ∷ [])) w ≡ (is_among names w || bytes_eq w n)
    by true e = sym (or_same names n w e)
    by false e = among-push names n w

among-with_names : (words names : List (List ℕ)) (w : List ℕ) → is_among (with_names names words) w ≡ (is_among names w || is_among words w)
among-with_names [] names w = sym (or-false (is_among names w))
among-with_names (n ∷ words) names w =
    among-with_names words (with_name names n) w ∙ ap (λ b. b || is_among words w) (among-with names n w)
    ∙ or_assoc (is_among names w) (bytes_eq w n) (is_among words w)

pub among_set : (words : List (List ℕ)) (w : List ℕ) → is_among (with_names [] words) w ≡ is_among words w
among_set words w = among-with_names words [] w

pub with_names-append : (more rest names : List (List ℕ)) → with_names names (more ++ rest) ≡ with_names (with_names names more) rest
with_names-append [] rest names = refl
with_names-append (n ∷ more) rest names = with_names-append more rest (with_name names n)

-- ---- with one name more

pub among_cases : (names : List (List ℕ)) (n w : List ℕ) → is_among (with_name names n) w ≡ true → (is_among names w ≡ true) ⊎ (w ≡ n)
among_cases names n w h = elim (or_cases (is_among names w) (bytes_eq w n) (sym (among-with names n w) ∙ h)) [ inl old ↦ inl old | inr new ↦ inr (name_is w n new) ]

pub only_name : (n w : List ℕ) → is_among (with_name [] n) w ≡ true → w ≡ n
only_name n w h = name_is w n (sym (among-with [] n w) ∙ h)

pub still_among : (names : List (List ℕ)) (n w : List ℕ) → is_among names w ≡ true → is_among (with_name names n) w ≡ true
still_among names n w h = among-with names n w ∙ ap (λ b. b || bytes_eq w n) h

pub now_among : (names : List (List ℕ)) (n : List ℕ) → is_among (with_name names n) n ≡ true
now_among names n = among-with names n n ∙ ap (λ b. is_among names n || b) (same_name n) ∙ or-true (is_among names n)
