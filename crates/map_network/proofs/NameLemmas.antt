-- Distinct names, and how many tables a cover has.
use Rattle.std.proofs.Common.{◌≡◌, ◌⊎◌, Bool, ℕ, zero, suc, ◌+◌, ◌<◌, ◌≤◌, ◌||◌, List, [], ◌∷◌, ◌++◌, true, false, length, drop, take, get_or, refl, sym, ap, ◌∙◌, inl, inr, arith, cond, nat_lt, not, ◌==◌}
use Rattle.map_network.proofs.Vocabulary.{filter, cases_eq, lt-ltb, filter-append, sum_by-cons, length-filter, count_by-le-length, Lit}
use Rattle.map_network.proofs.Vocabulary.{Zero, One, Any, row_characters, distinct, is_among, is_wanted, wants_in, row_size}
use Rattle.std.proofs.lemmas.List.{append_assoc, append-nil, drop_more, drop_all, take_more, take-append-drop, length_push}
use Rattle.map_network.proofs.TreeLemmas.{tree_size_few}
use Rattle.map_network.proofs.CellLemmas.{eqb_true, eqb_false}

pub among_more : (names : List ℕ) (x k : ℕ) → k < length names → is_among (drop k names) x ≡ ((get_or names k 0 == x) || is_among (drop (k + 1) names) x)
among_more names x k lk = ap (λ ns. is_among ns x) (drop_more names k 0 lk)

pub among_skip : (names : List ℕ) (x k : ℕ) → k < length names → (get_or names k 0 ≡ x → ⊥) → is_among (drop k names) x ≡ is_among names x → is_among (drop (k + 1) names) x ≡ is_among names x
among_skip names x k lk d old = sym (ap (λ b. b || is_among (drop (k + 1) names) x) (eqb_false (get_or names k 0) x d)) ∙ sym (among_more names x k lk) ∙ old

pub among_here : (names : List ℕ) (x k : ℕ) → k < length names → get_or names k 0 ≡ x → is_among (drop k names) x ≡ is_among names x → true ≡ is_among names x
among_here names x k lk e old = sym (ap (λ b. b || is_among (drop (k + 1) names) x) (eqb_true (get_or names k 0) x e)) ∙ sym (among_more names x k lk) ∙ old

pub among_ends : (names : List ℕ) (x k : ℕ) → length names ≤ k → is_among (drop k names) x ≡ is_among names x → false ≡ is_among names x
among_ends names x k le old = ap (λ ns. is_among ns x) (sym (drop_all k names le)) ∙ old

-- all but one name
abbrev pub without : ℕ → List ℕ → List ℕ
without s xs = filter (λ x. not (x == s)) xs

pub without_same : (s y : ℕ) (ys : List ℕ) → y ≡ s → without s (y ∷ ys) ≡ without s ys
without_same s y ys e = ap (λ b. cond (not b) (y ∷ without s ys) (without s ys)) (eqb_true y s e)

pub without_other : (s y : ℕ) (ys : List ℕ) → (y ≡ s → ⊥) → without s (y ∷ ys) ≡ y ∷ without s ys
without_other s y ys d = ap (λ b. cond (not b) (y ∷ without s ys) (without s ys)) (eqb_false y s d)

pub among_other : (y x : ℕ) (ys : List ℕ) → (y ≡ x → ⊥) → is_among (y ∷ ys) x ≡ is_among ys x
among_other y x ys d = ap (λ b. b || is_among ys x) (eqb_false y x d)

pub among_same : (y x : ℕ) (ys : List ℕ) → y ≡ x → is_among (y ∷ ys) x ≡ true
among_same y x ys e = ap (λ b. b || is_among ys x) (eqb_true y x e)

pub among_without : (s x : ℕ) (ys : List ℕ) → (s ≡ x → ⊥) → is_among (without s ys) x ≡ is_among ys x
among_without s x [] d = refl
among_without s x (y ∷ ys) d = by (cases_eq y s) (among_without s x ys d)
  where
    by : (y ≡ s) ⊎ (y ≡ s → ⊥) → is_among (without s ys) x ≡ is_among ys x → is_among (without s (y ∷ ys)) x ≡ is_among (y ∷ ys) x
    by (inl e) rest = ap (λ xs. is_among xs x) (without_same s y ys e) ∙ rest ∙ sym (among_other y x ys (λ f. d (sym e ∙ f)))
    by (inr n) rest = ap (λ xs. is_among xs x) (without_other s y ys n) ∙ ap (λ b. (y == x) || b) rest

pub true_or : (b : Bool) → (b ≡ true) ⊎ (b ≡ false)
true_or true = inl refl
true_or false = inr refl

pub no_both : true ≡ false → ⊥
no_both e = cc

-- a name that comes after others
pub after : (xs : List ℕ) (x : ℕ) → (is_among (distinct xs) x ≡ true → distinct (xs ++ x ∷ []) ≡ distinct xs) × (is_among (distinct xs) x ≡ false → distinct (xs ++ x ∷ []) ≡ distinct xs ++ x ∷ [])
after [] x = (λ e. absurd (no_both (sym e)), λ e. refl)
after (s ∷ ss) x = (λ e. old e (cases_eq s x) (true_or (is_among (distinct ss) x)) (after ss x), λ e. new e (cases_eq s x) (after ss x))
  where
    old : is_among (distinct (s ∷ ss)) x ≡ true → (s ≡ x) ⊎ (s ≡ x → ⊥) → (is_among (distinct ss) x ≡ true) ⊎ (is_among (distinct ss) x ≡ false) → (is_among (distinct ss) x ≡ true → distinct (ss ++ x ∷ []) ≡ distinct ss) × (is_among (distinct ss) x ≡ false → distinct (ss ++ x ∷ []) ≡ distinct ss ++ x ∷ []) → distinct (s ∷ ss ++ x ∷ []) ≡ distinct (s ∷ ss)
    old e same (inl h) rest = ap (λ xs. s ∷ without s xs) (rest.0 h)
    old e (inl same) (inr h) rest = ap (λ xs. s ∷ without s xs) (rest.1 h) ∙ ap (λ xs. s ∷ xs) (filter-append (λ y. not (y == s)) (distinct ss) (x ∷ []) ∙ ap (λ xs. without s (distinct ss) ++ xs) (without_same s x [] (sym same)) ∙ append-nil (without s (distinct ss)))
    old e (inr d) (inr h) rest = absurd (no_both (sym e ∙ among_other s x (without s (distinct ss)) d ∙ among_without s x (distinct ss) d ∙ h))

    new : is_among (distinct (s ∷ ss)) x ≡ false → (s ≡ x) ⊎ (s ≡ x → ⊥) → (is_among (distinct ss) x ≡ true → distinct (ss ++ x ∷ []) ≡ distinct ss) × (is_among (distinct ss) x ≡ false → distinct (ss ++ x ∷ []) ≡ distinct ss ++ x ∷ []) → distinct (s ∷ ss ++ x ∷ []) ≡ distinct (s ∷ ss) ++ x ∷ []
    new e (inl same) rest = absurd (no_both (sym (among_same s x (without s (distinct ss)) same) ∙ e))
    new e (inr d) rest =
        let h : is_among (distinct ss) x ≡ false = sym (among_other s x (without s (distinct ss)) d ∙ among_without s x (distinct ss) d) ∙ e in
        ap (λ xs. s ∷ without s xs) (rest.1 h) ∙ ap (λ xs. s ∷ xs) (filter-append (λ y. not (y == s)) (distinct ss) (x ∷ []) ∙ ap (λ xs. without s (distinct ss) ++ xs) (without_other s x [] (λ f. d (sym f))))

pub one_le : (xs : List ℕ) (x : ℕ) → length (distinct xs) ≤ length (distinct (xs ++ x ∷ []))
one_le xs x = by (true_or (is_among (distinct xs) x))
  where
    by : (is_among (distinct xs) x ≡ true) ⊎ (is_among (distinct xs) x ≡ false) → length (distinct xs) ≤ length (distinct (xs ++ x ∷ []))
    by (inl e) = let h = ap length ((after xs x).0 e) in omega arith
    by (inr e) = let h = ap length ((after xs x).1 e) in omega (arith, length_push (distinct xs) x)

pub distinct_le : (xs ys : List ℕ) → length (distinct xs) ≤ length (distinct (xs ++ ys))
distinct_le xs [] = rw append-nil (omega arith)
distinct_le xs (y ∷ ys) = let h = distinct_le (xs ++ y ∷ []) ys in let e : (xs ++ y ∷ []) ++ ys ≡ xs ++ y ∷ ys = append_assoc xs (y ∷ []) ys in let f = ap (λ zs. length (distinct zs)) e in let g = one_le xs y in omega arith

module _ (ins names : List ℕ) (k : ℕ) (lk : k < length ins) (old : names ≡ distinct (take k ins)) where
  pub names_kept : true ≡ is_among names (get_or ins k 0) → names ≡ distinct (take (k + 1) ins)
  names_kept h = old ∙ sym ((after (take k ins) (get_or ins k 0)).0 (ap (λ ns. is_among ns (get_or ins k 0)) (sym old) ∙ sym h)) ∙ ap distinct (sym (take_more ins k 0 lk))

  pub names_more : false ≡ is_among names (get_or ins k 0) → (others : List ℕ) → others ≡ names ++ get_or ins k 0 ∷ [] → others ≡ distinct (take (k + 1) ins)
  names_more h others e = e ∙ ap (λ ns. ns ++ get_or ins k 0 ∷ []) old ∙ sym ((after (take k ins) (get_or ins k 0)).1 (ap (λ ns. is_among ns (get_or ins k 0)) (sym old) ∙ sym h)) ∙ ap distinct (sym (take_more ins k 0 lk))

  pub too_many : false ≡ is_among names (get_or ins k 0) → length names ≡ 6 → 6 < length (distinct ins)
  too_many h six =
      let e = ap length (names_more h (names ++ get_or ins k 0 ∷ []) refl) in
      let l = distinct_le (take (k + 1) ins) (drop (k + 1) ins) in
      let f = ap (λ xs. length (distinct xs)) (take-append-drop (k + 1) ins) in
      omega (arith, length_push names (get_or ins k 0))

-- sizes

wanted_le : (l : Lit) → is_wanted l ≤ 1
wanted_le Zero = omega arith
wanted_le One = omega arith
wanted_le Any = omega arith

pub wants_few : (row : List Lit) → wants_in row ≤ length row
wants_few [] = omega arith
wants_few (l ∷ ls) = let h = wants_few ls in let e = sum_by-cons is_wanted l ls in let w = wanted_le l in omega arith

pub row_size_few : (row : List Lit) → row_size row ≤ row_characters row
row_size_few row = let h = tree_size_few (wants_in row) in let w = wants_few row in omega arith

pub distinct_few : (xs : List ℕ) → length (distinct xs) ≤ length xs
distinct_few [] = omega arith
distinct_few (s ∷ ss) = omega (arith, distinct_few ss, length-filter (λ x. not (x == s)) (distinct ss), count_by-le-length (λ x. not (x == s)) (distinct ss))

-- of at most six names at most six differ
pub narrow_few : (xs : List ℕ) → length xs ≤ 6 → nat_lt (length (distinct xs)) 7 ≡ true
narrow_few xs h = lt-ltb _ _ (omega (arith, distinct_few xs, h))

-- each name is among the distinct ones
pub among_distinct : (xs : List ℕ) (k : ℕ) → k < length xs → is_among (distinct xs) (get_or xs k 0) ≡ true
among_distinct [] k lk = absurd (omega arith)
among_distinct (s ∷ ss) zero lk = among_same s s (without s (distinct ss)) refl
among_distinct (s ∷ ss) (suc k) lk = by (cases_eq s (get_or ss k 0)) (among_distinct ss k (omega arith))
  where
    by : (s ≡ get_or ss k 0) ⊎ (s ≡ get_or ss k 0 → ⊥) → is_among (distinct ss) (get_or ss k 0) ≡ true → is_among (distinct (s ∷ ss)) (get_or ss k 0) ≡ true
    by (inl e) rest = among_same s (get_or ss k 0) (without s (distinct ss)) e
    by (inr d) rest = among_other s (get_or ss k 0) (without s (distinct ss)) d ∙ among_without s (get_or ss k 0) (distinct ss) d ∙ rest
