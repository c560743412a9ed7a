-- The names of a set of borrowed words.
use Rattle.std.proofs.Common.{◌≡◌, ℕ, ◌+◌, ◌<◌, ◌≤◌, Bool, true, false, not, cond, List, [], ◌∷◌, ◌++◌, Some, None, position, length, map, refl, sym, ap, ◌∙◌, arith, ◌||◌, nat_lt, append_assoc, length-append, drop, get_or, take, add-one, add-zero, eqb, inl, inr, ◌⊎◌}
use Rattle.std.specs.Borrow.{Bor}
use Rattle.design_blif.proofs.Vocabulary.{list_any, list_all, position_or_len, bytes_eq, lt-ltb, ltb-true, le-ltb, eqb-true, length-map}
use Rattle.design_blif.proofs.Vocabulary.{append-nil, take-append-drop, take_more, map-append, DesignKind, Limit, Refusal, Memory, Kind}
use Rattle.design_blif.proofs.Vocabulary.{IsRefusedAs, with_name, names_after, name_number, numbers, is_long, limit_at}
use Rattle.std.proofs.Math.Seq.{drop-cons}
use Rattle.std.proofs.{Math.Bool.or-true, Math.Bool.or-false, Math.Bool.and-false, lemmas.List.Folds.position_or_len_push}
use Rattle.design_flatten.proofs.NameLemmas.{now, same, any_keys, place_keys, some_is, same_name, inserted_key}

module _ (w : List ℕ) (ks : List (Bor (List ℕ))) (names : List (List ℕ)) (view : map now ks ≡ names) where
  pub known_number : (i : ℕ) → Some i ≡ position (same w) ks → i ≡ name_number names w
  known_number i e = sym (some_is (nat_lt (position_or_len (same w) ks) (length ks)) _ i (sym e)) ∙ place_keys w ks ∙ ap (position_or_len (bytes_eq w)) view

  pub known_name : true ≡ list_any (same w) ks → names ≡ with_name names w
  known_name e = let known : list_any (bytes_eq w) names ≡ true = ap (list_any (bytes_eq w)) (sym view) ∙ sym (any_keys w ks) ∙ sym e in rw known refl

  pub new_number : (i : ℕ) → i ≡ position_or_len (same w) ks → i ≡ name_number names w
  new_number i e = e ∙ place_keys w ks ∙ ap (position_or_len (bytes_eq w)) view

  by_long : (b : Bool) → cond ((b || false) || true) (Some Limit) None ≡ Some Limit
  by_long true = refl
  by_long false = refl

  pub full_name : false ≡ list_any (same w) ks → 65535 ≤ length ks → limit_at names (w ∷ []) ≡ Some Limit
  full_name e full =
      let new : list_any (bytes_eq w) names ≡ false = ap (list_any (bytes_eq w)) (sym view) ∙ sym (any_keys w ks) ∙ sym e in
      let long : nat_lt 65535 (length (names ++ w ∷ [])) ≡ true = lt-ltb _ _ (omega (arith, length-append names (w ∷ []), ap length view, length-map ks now)) in
      rw (new, long) (by_long (is_long w))

-- one word more
pub words_left : (ks : List (Bor (List ℕ))) (i : ℕ) (d : Bor (List ℕ)) → i < length ks → map now (drop i ks) ≡ (get_or ks i d).now ∷ map now (drop (i + 1) ks)
words_left ks i d lt = rw (add-one, drop-cons ks i d) refl

pub words_split : (ks : List (Bor (List ℕ))) (i : ℕ) (d : Bor (List ℕ)) → i < length ks → map now ks ≡ map now (take i ks) ++ (get_or ks i d).now ∷ map now (drop (i + 1) ks)
words_split ks i d lt = ap (map now) (sym (take-append-drop i ks)) ∙ map-append now (take i ks) (drop i ks) ∙ ap (λ ws. map now (take i ks) ++ ws) (words_left ks i d lt)

pub words_taken : (ks : List (Bor (List ℕ))) (i : ℕ) (d : Bor (List ℕ)) → i < length ks → map now (take (i + 1) ks) ≡ map now (take i ks) ++ (get_or ks i d).now ∷ []
words_taken ks i d lt = ap (map now) (take_more ks i d lt) ∙ map-append now (take i ks) (get_or ks i d ∷ [])

with_name-longer : (names : List (List ℕ)) (w : List ℕ) → length names ≤ length (with_name names w)
with_name-longer names w = by_test (list_any (bytes_eq w) names)
  where
    by_test : (b : Bool) → length names ≤ length (cond b names (names ++ w ∷ []))
    by_test true = omega arith
    by_test false = omega (arith, length-append names (w ∷ []))

names_after-longer : (words names : List (List ℕ)) → length names ≤ length (names_after names words)
names_after-longer [] names = omega arith
names_after-longer (w ∷ words) names = omega (arith, with_name-longer names w, names_after-longer words (with_name names w))

limit_cases : (long full : Bool) (k : DesignKind) → cond (long || full) (Some Limit) None ≡ Some k → (Limit ≡ k) × ((long ≡ true) ⊎ (full ≡ true))
limit_cases true full k e = (cc, inl refl)
limit_cases false true k e = (cc, inr refl)
limit_cases false false k e = absurd cc

any_later : (w : List ℕ) (front words : List (List ℕ)) → is_long w ≡ true → list_any is_long (front ++ w ∷ words) ≡ true
any_later w [] words h = rw h refl
any_later w (v ∷ front) words h = rw (any_later w front words h) (or-true (is_long v))

-- a limit that is passed at a word is passed at the end
pub full_after : (e : Refusal) (start names : List (List ℕ)) (w : List ℕ) (front words : List (List ℕ)) → names_after names (w ∷ words) ≡ names_after start (front ++ w ∷ words) → IsRefusedAs (limit_at names (w ∷ [])) e → IsRefusedAs (limit_at start (front ++ w ∷ words)) e
full_after Memory start names w front words e h = tt
full_after (Kind k) start names w front words e h =
    let p = limit_cases (is_long w || false) (nat_lt 65535 (length (with_name names w))) k h in
    rw (← p.0) (elim p.1 [
      | inl long ↦ rw (any_later w front words (sym (or-false (is_long w)) ∙ long)) refl
      | inr full ↦
          let past : nat_lt 65535 (length (names_after start (front ++ w ∷ words))) ≡ true = lt-ltb _ _ (omega (arith, ltb-true _ _ full, ap length e, names_after-longer words (with_name names w))) in
          rw past (by_test (list_any is_long (front ++ w ∷ words)))
    ])
  where
    by_test : (b : Bool) → cond (b || true) (Some Limit) None ≡ Some Limit
    by_test true = refl
    by_test false = refl

pub not_full : (names words : List (List ℕ)) → list_any is_long words ≡ false → length (names_after names words) ≤ 65535 → limit_at names words ≡ None
not_full names words short h = rw (short, le-ltb 65535 (length (names_after names words)) h) refl

pub short_more : (front : List (List ℕ)) (w : List ℕ) → list_any is_long front ≡ false → is_long w ≡ false → list_any is_long (front ++ w ∷ []) ≡ false
short_more [] w h short = rw short refl
short_more (v ∷ front) w h short = by (is_long v) h (short_more front w)
  where
    by : (b : Bool) → (b || list_any is_long front) ≡ false → (list_any is_long front ≡ false → is_long w ≡ false → list_any is_long (front ++ w ∷ []) ≡ false) → (b || list_any is_long (front ++ w ∷ [])) ≡ false
    by true h rest = absurd cc
    by false h rest = rest h short

-- a number in front of the others
pub numbers_more : (ns : List ℕ) (names : List (List ℕ)) (w : List ℕ) (words : List (List ℕ)) (total : List ℕ) → ns ++ numbers names (w ∷ words) ≡ total → (ns ++ name_number names w ∷ []) ++ numbers (with_name names w) words ≡ total
numbers_more ns names w words total h = append_assoc ns (name_number names w ∷ []) (numbers (with_name names w) words) ∙ h

-- ---- numbers stay as names are added

any-push : (w x : List ℕ) (names : List (List ℕ)) → bytes_eq w x ≡ true → list_any (bytes_eq w) (names ++ x ∷ []) ≡ true
any-push w x [] h = rw h refl
any-push w x (n ∷ names) h = rw (any-push w x names h) (or-true (bytes_eq w n))

known-with : (names : List (List ℕ)) (w : List ℕ) → list_any (bytes_eq w) (with_name names w) ≡ true
known-with names w = by (list_any (bytes_eq w) names) refl
  where
    by : (b : Bool) → list_any (bytes_eq w) names ≡ b → list_any (bytes_eq w) (cond b names (names ++ w ∷ [])) ≡ true
    by true e = e
    by false e = any-push w w names (same_name w)

number_of-append : (names more : List (List ℕ)) (w : List ℕ) → list_any (bytes_eq w) names ≡ true → name_number (names ++ more) w ≡ name_number names w
number_of-append [] more w h = absurd cc
number_of-append (n ∷ names) more w h = by (bytes_eq w n) h (number_of-append names more w)
  where
    by : (b : Bool) → (b || list_any (bytes_eq w) names) ≡ true → (list_any (bytes_eq w) names ≡ true → name_number (names ++ more) w ≡ name_number names w) → cond (not b) (1 + name_number (names ++ more) w) 0 ≡ cond (not b) (1 + name_number names w) 0
    by true h rest = refl
    by false h rest = ap (λ n. 1 + n) (rest h)

number_of-push : (names : List (List ℕ)) (w : List ℕ) → name_number (names ++ w ∷ []) w ≡ name_number names w
number_of-push names w = position_or_len_push (bytes_eq w) names w ∙ rw (same_name w) (by (eqb (name_number names w) (length names)) refl)
  where
    by : (b : Bool) → eqb (name_number names w) (length names) ≡ b → cond b (length names + 0) (name_number names w) ≡ name_number names w
    by true e = rw add-zero (sym (eqb-true _ _ e))
    by false e = refl

number_of-with : (names : List (List ℕ)) (w : List ℕ) → name_number (with_name names w) w ≡ name_number names w
number_of-with names w = by (list_any (bytes_eq w) names)
  where
    by : (b : Bool) → name_number (cond b names (names ++ w ∷ [])) w ≡ name_number names w
    by true = refl
    by false = number_of-push names w

-- the names after some words begin with those before
pub names_after-extends : (words names : List (List ℕ)) → (new : List (List ℕ)) × (names_after names words ≡ names ++ new)
names_after-extends [] names = ([], sym (append-nil names))
names_after-extends (w ∷ words) names =
    let rest = names_after-extends words (with_name names w) in
    let one = by (list_any (bytes_eq w) names) in
    (one.0 ++ rest.0, rest.1 ∙ ap (λ ns. ns ++ rest.0) one.1 ∙ append_assoc names one.0 rest.0)
  where
    by : (b : Bool) → (new : List (List ℕ)) × (cond b names (names ++ w ∷ []) ≡ names ++ new)
    by true = ([], sym (append-nil names))
    by false = (w ∷ [], refl)

-- a number given as a word stands is its number in the end
pub numbers_are : (words names more : List (List ℕ)) → numbers names words ≡ map (name_number (names_after names words ++ more)) words
numbers_are [] names more = refl
numbers_are (w ∷ words) names more =
    let x = names_after-extends words (with_name names w) in
    let all : names_after (with_name names w) words ++ more ≡ with_name names w ++ (x.0 ++ more) = ap (λ ns. ns ++ more) x.1 ∙ append_assoc (with_name names w) x.0 more in
    let first : name_number names w ≡ name_number (names_after (with_name names w) words ++ more) w = sym (ap (λ ns. name_number ns w) all ∙ number_of-append (with_name names w) (x.0 ++ more) w (known-with names w) ∙ number_of-with names w) in
    λ i. first i ∷ numbers_are words (with_name names w) more i

-- one that fails
pub some_wrong : (p : List ℕ → Bool) (front : List (List ℕ)) (w : List ℕ) (rest : List (List ℕ)) → p w ≡ false → list_all p (front ++ w ∷ rest) ≡ false
some_wrong p [] w rest h = rw h refl
some_wrong p (v ∷ front) w rest h = rw (some_wrong p front w rest h) (and-false (p v))

-- ---- names of models

pub pushed_key : (key : Bor (List ℕ)) (ks new : List (Bor (List ℕ))) (names : List (List ℕ)) → map now ks ≡ names → new ≡ cond (list_any (same key.now) ks) ks (ks ++ key ∷ []) → list_any (bytes_eq key.now) names ≡ false → map now new ≡ names ++ key.now ∷ []
pushed_key key ks new names view e none = inserted_key key ks new names view e ∙ rw none refl
