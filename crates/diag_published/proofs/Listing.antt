-- Lists of wires, as they are made.
use Rattle.std.proofs.Common.{◌≡◌, ◌≢◌, ◌⊎◌, ℕ, zero, suc, ◌+◌, ◌<◌, ◌≤◌, true, false, List, All, [], ◌∷◌, ◌++◌, length, take, get_or, refl, sym, ap, ◌∙◌, subst, inl, inr, arith, ◌==◌}
use Rattle.diag_published.proofs.Vocabulary.{false≢true, or_left, or_right, Wire, among, IsListOf, IsAtOneOf, wire_numbers}
use Rattle.std.proofs.lemmas.{Bool.Decides.nat_tests, List.take_more, List.take_all, List.map-append, List.length-append}
use Rattle.std.proofs.lemmas.List.Elements.{All-push}
use Rattle.diag_tests.proofs.Longer.{among-push, among_both}
use Rattle.diag_known.proofs.Getting.{below_or}

-- ---- what is among a list with one more

pub among_from : (xs : List ℕ) (x w : ℕ) → among (xs ++ x ∷ []) w ≡ true → (among xs w ≡ true) ⊎ (w ≡ x)
among_from xs x w is = among_both (λ v. (among xs v ≡ true) ⊎ (v ≡ x)) xs x (λ v h. inl h) (inr refl) w is

pub among_before : (xs : List ℕ) (x w : ℕ) → among xs w ≡ true → among (xs ++ x ∷ []) w ≡ true
among_before xs x w is = among-push xs x w ∙ or_left (among xs w) (x == w) is

pub among_last : (xs : List ℕ) (x : ℕ) → among (xs ++ x ∷ []) x ≡ true
among_last xs x = among-push xs x x ∙ or_right (among xs x) (x == x) (let same : (x == x) ≡ true = grind (arith, nat_tests) in same)

pub numbers_push : (ws : List Wire) (w : Wire) → wire_numbers (ws ++ w ∷ []) ≡ wire_numbers ws ++ w.0 ∷ []
numbers_push ws w = map-append (λ (x : Wire). x.0) ws (w ∷ [])

-- .. of the first of a list
pub numbers_take : (ws : List Wire) (i : ℕ) (d : Wire) → i < length ws → wire_numbers (take (i + 1) ws) ≡ wire_numbers (take i ws) ++ (get_or ws i d).0 ∷ []
numbers_take ws i d h = ap wire_numbers (take_more ws i d h) ∙ numbers_push (take i ws) (get_or ws i d)

module _ (ws : List Wire) (i : ℕ) (d : Wire) (h : i < length ws) where
  pub taken_from : (v : ℕ) → among (wire_numbers (take (i + 1) ws)) v ≡ true → (among (wire_numbers (take i ws)) v ≡ true) ⊎ (v ≡ (get_or ws i d).0)
  taken_from v is = among_from (wire_numbers (take i ws)) (get_or ws i d).0 v (subst (λ (xs : List ℕ). among xs v ≡ true) (numbers_take ws i d h) is)

  pub taken_before : (v : ℕ) → among (wire_numbers (take i ws)) v ≡ true → among (wire_numbers (take (i + 1) ws)) v ≡ true
  taken_before v is = subst (λ (xs : List ℕ). among xs v ≡ true) (sym (numbers_take ws i d h)) (among_before (wire_numbers (take i ws)) (get_or ws i d).0 v is)

  pub taken_last : among (wire_numbers (take (i + 1) ws)) (get_or ws i d).0 ≡ true
  taken_last = subst (λ (xs : List ℕ). among xs (get_or ws i d).0 ≡ true) (sym (numbers_take ws i d h)) (among_last (wire_numbers (take i ws)) (get_or ws i d).0)

pub numbers_all : (ws : List Wire) (i : ℕ) → length ws ≤ i → wire_numbers (take i ws) ≡ wire_numbers ws
numbers_all ws i h = ap wire_numbers (take_all i ws h)

pub wire_at : (ws : List Wire) (i : ℕ) (d : Wire) → i < length ws → among (wire_numbers ws) (get_or ws i d).0 ≡ true
wire_at [] i d h = absurd (let no : ⊥ = omega (arith, h) in no)
wire_at (w ∷ ws) zero d h = or_left (w.0 == w.0) (among (wire_numbers ws) w.0) (let same : (w.0 == w.0) ≡ true = grind (arith, nat_tests) in same)
wire_at (w ∷ ws) (suc i) d h = or_right (w.0 == (get_or ws i d).0) (among (wire_numbers ws) (get_or ws i d).0) (wire_at ws i d (omega (arith, h)))

pub none_among : (ws : List Wire) (v : ℕ) → length ws ≡ 0 → among (wire_numbers ws) v ≡ true → ⊥
none_among [] v e is = false≢true is
none_among (w ∷ ws) v e is = let no : ⊥ = omega (arith, e) in no

-- wires of the machine
pub none_within : (m : ℕ) → All (λ (w : Wire). w.0 < m) []
none_within m = λ i d below. absurd (let no : ⊥ = omega (arith, below) in no)

pub pushed_within : (m : ℕ) (ws : List Wire) {vs : List Wire} {w : Wire} → vs ≡ ws ++ w ∷ [] → All (λ (w : Wire). w.0 < m) ws → w.0 < m → All (λ (w : Wire). w.0 < m) vs
pushed_within m ws {vs} {w} e all h = subst (All (λ (w : Wire). w.0 < m)) (sym e) (All-push (λ (w : Wire). w.0 < m) ws w all h)

pub pushed_count : {n : ℕ} (ws : List Wire) {vs : List Wire} (w : Wire) → vs ≡ ws ++ w ∷ [] → length ws ≡ n → length vs ≡ n + 1
pushed_count {n} ws {vs} w e count = let l = ap (λ (us : List Wire). length us) e ∙ length-append ws (w ∷ []) in omega (arith, l, count)

-- ---- lists of the wires with a property

pub list_same : (P Q : ℕ → Type 0) (ws : List ℕ) → IsListOf P ws → ((v : ℕ) → P v → Q v) → ((v : ℕ) → Q v → P v) → IsListOf Q ws
list_same P Q ws list to from = record { each = λ v is. to v (list.each v is); all = λ v q. list.all v (from v q) }

pub list_none : (P : ℕ → Type 0) → ((v : ℕ) → P v → ⊥) → IsListOf P []
list_none P never = record { each = λ v is. absurd (false≢true is); all = λ v p. absurd (never v p) }

pub list_more : (P Q : ℕ → Type 0) (ws : List Wire) (w : Wire) → IsListOf P (wire_numbers ws) → ((v : ℕ) → P v → Q v) → Q w.0 → ((v : ℕ) → Q v → P v ⊎ (v ≡ w.0)) → IsListOf Q (wire_numbers (ws ++ w ∷ []))
list_more P Q ws w list more here from = subst (IsListOf Q) (sym (numbers_push ws w)) (record {
  each = λ v is. by_each v (among_from (wire_numbers ws) w.0 v is);
  all = λ v q. by_all v (from v q);
})
  where
    by_each : (v : ℕ) → (among (wire_numbers ws) v ≡ true) ⊎ (v ≡ w.0) → Q v
    by_each v (inl is) = more v (list.each v is)
    by_each v (inr e) = subst Q (sym e) here

    by_all : (v : ℕ) → P v ⊎ (v ≡ w.0) → among (wire_numbers ws ++ w.0 ∷ []) v ≡ true
    by_all v (inl p) = among_before (wire_numbers ws) w.0 v (list.all v p)
    by_all v (inr e) = ap (among (wire_numbers ws ++ w.0 ∷ [])) e ∙ among_last (wire_numbers ws) w.0

-- .. of those at the first positions
pub at_none : (at : ℕ → ℕ) → IsListOf (IsAtOneOf at 0) []
at_none at = list_none (IsAtOneOf at 0) (λ v p. let early = p.early in let no : ⊥ = omega (arith, early) in no)

pub at_next : (at : ℕ → ℕ) (n : ℕ) (ws : List Wire) (w : Wire) → IsListOf (IsAtOneOf at n) (wire_numbers ws) → w.0 ≡ at n → IsListOf (IsAtOneOf at (n + 1)) (wire_numbers (ws ++ w ∷ []))
at_next at n ws w list e = list_more (IsAtOneOf at n) (IsAtOneOf at (n + 1)) ws w list
    (λ v p. record { position = p.position; early = (let early = p.early in omega (arith, early)); is = p.is })
    (record { position = n; early = omega arith; is = e }) (λ v p. by v p (below_or n p.position p.early))
  where
    by : (v : ℕ) (p : IsAtOneOf at (n + 1) v) → (p.position < n) ⊎ (p.position ≡ n) → IsAtOneOf at n v ⊎ (v ≡ w.0)
    by v p (inl l) = inl (record { position = p.position; early = l; is = p.is })
    by v p (inr s) = inr (p.is ∙ ap at s ∙ sym e)

pub at_pushed : (at : ℕ → ℕ) (n : ℕ) (ws : List Wire) {vs : List Wire} {w : Wire} → vs ≡ ws ++ w ∷ [] → IsListOf (IsAtOneOf at n) (wire_numbers ws) → w.0 ≡ at n → IsListOf (IsAtOneOf at (n + 1)) (wire_numbers vs)
at_pushed at n ws {vs} {w} is list e = subst (λ (us : List Wire). IsListOf (IsAtOneOf at (n + 1)) (wire_numbers us)) (sym is) (at_next at n ws w list e)

pub at_end : (at : ℕ → ℕ) (n i : ℕ) (ws : List ℕ) → n ≡ i → IsListOf (IsAtOneOf at i) ws → IsListOf (IsAtOneOf at n) ws
at_end at n i ws e list = subst (λ j. IsListOf (IsAtOneOf at j) ws) (sym e) list

-- .. and they are so many, and of the machine
pub record AreFirstOf (at : ℕ → ℕ) (m n : ℕ) (ws : List Wire) : Type 0 where
  pub list : IsListOf (IsAtOneOf at n) (wire_numbers ws)
  pub count : length ws ≡ n
  pub within : All (λ (w : Wire). w.0 < m) ws

pub first_none : (at : ℕ → ℕ) (m : ℕ) {ws : List Wire} → ws ≡ [] → AreFirstOf at m 0 ws
first_none at m none = rw none (record { list = at_none at; count = refl; within = none_within m })

pub first_pushed : {at : ℕ → ℕ} {m n : ℕ} (ws : List Wire) {vs : List Wire} {w : Wire} → vs ≡ ws ++ w ∷ [] → AreFirstOf at m n ws → w.0 ≡ at n → w.0 < m → AreFirstOf at m (n + 1) vs
first_pushed {at} {m} {n} ws {vs} {w} is old here within = record {
  list = at_pushed at n ws is old.list here;
  count = pushed_count ws w is old.count;
  within = pushed_within m ws is old.within within;
}

-- .. of those of the first of a list that have one more property
abbrev pub IsSome : (ℕ → Type 0) → List ℕ → ℕ → Type 0
IsSome R ws v = (among ws v ≡ true) × R v

module _ (R : ℕ → Type 0) (ws : List Wire) (i : ℕ) (d : Wire) (h : i < length ws) (those : List Wire) (list : IsListOf (IsSome R (wire_numbers (take i ws))) (wire_numbers those)) where
  earlier : (v : ℕ) → IsSome R (wire_numbers (take i ws)) v → IsSome R (wire_numbers (take (i + 1) ws)) v
  earlier v p = (taken_before ws i d h v p.0, p.1)

  pub some_more : (w : Wire) → w.0 ≡ (get_or ws i d).0 → R w.0 → IsListOf (IsSome R (wire_numbers (take (i + 1) ws))) (wire_numbers (those ++ w ∷ []))
  some_more w e r = list_more (IsSome R (wire_numbers (take i ws))) (IsSome R (wire_numbers (take (i + 1) ws))) those w list earlier
      (subst (λ v. among (wire_numbers (take (i + 1) ws)) v ≡ true) (sym e) (taken_last ws i d h), r) (λ v p. by v p.1 (taken_from ws i d h v p.0))
    where
      by : (v : ℕ) → R v → (among (wire_numbers (take i ws)) v ≡ true) ⊎ (v ≡ (get_or ws i d).0) → IsSome R (wire_numbers (take i ws)) v ⊎ (v ≡ w.0)
      by v p (inl is) = inl (is, p)
      by v p (inr s) = inr (s ∙ sym e)

  pub some_same : (R (get_or ws i d).0 → ⊥) → IsListOf (IsSome R (wire_numbers (take (i + 1) ws))) (wire_numbers those)
  some_same never = list_same (IsSome R (wire_numbers (take i ws))) (IsSome R (wire_numbers (take (i + 1) ws))) (wire_numbers those) list earlier (λ v p. by v p.1 (taken_from ws i d h v p.0))
    where
      by : (v : ℕ) → R v → (among (wire_numbers (take i ws)) v ≡ true) ⊎ (v ≡ (get_or ws i d).0) → IsSome R (wire_numbers (take i ws)) v
      by v p (inl is) = (is, p)
      by v p (inr s) = absurd (never (subst R s p))

pub some_pushed : (R : ℕ → Type 0) (ws : List Wire) (i : ℕ) (d : Wire) → i < length ws → (those : List Wire) {vs : List Wire} {w : Wire} → vs ≡ those ++ w ∷ [] → IsListOf (IsSome R (wire_numbers (take i ws))) (wire_numbers those) → w.0 ≡ (get_or ws i d).0 → R w.0 →
    IsListOf (IsSome R (wire_numbers (take (i + 1) ws))) (wire_numbers vs)
some_pushed R ws i d h those {vs} {w} is list e r = subst (λ (us : List Wire). IsListOf (IsSome R (wire_numbers (take (i + 1) ws))) (wire_numbers us)) (sym is) (some_more R ws i d h those list w e r)

pub some_end : (R : ℕ → Type 0) (ws : List Wire) (i : ℕ) (those : List ℕ) → length ws ≤ i → IsListOf (IsSome R (wire_numbers (take i ws))) those → IsListOf (IsSome R (wire_numbers ws)) those
some_end R ws i those past list = subst (λ (us : List ℕ). IsListOf (IsSome R us) those) (numbers_all ws i past) list

pub some_none : (R : ℕ → Type 0) → IsListOf (IsSome R []) []
some_none R = list_none (IsSome R []) (λ v p. false≢true p.0)
