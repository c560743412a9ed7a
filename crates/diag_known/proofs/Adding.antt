-- Crosspoints put behind others, item by item.
use Rattle.std.proofs.Common.{◌≡◌, ◌⊎◌, ℕ, zero, suc, ◌+◌, ◌<◌, ◌≤◌, Bool, true, false, Some, List, [], ◌∷◌, ◌++◌, All, get_or, length, refl, sym, ap, ◌∙◌, subst, inl, inr, arith, slice_get, ◌==◌, ◌||◌}
use Rattle.diag_known.proofs.Vocabulary.{false≢true, nat_tests, Cross, among, Walk, cross_numbers, among_both, InSome, Adds}
use Rattle.std.proofs.lemmas.Option.{slice_get_within, slice_get-get_or}
use native.Mathlib.Decide.{ℕ_discrete}
use Rattle.diag_known.proofs.Passing.{among_last, among_before}
use Rattle.diag_known.proofs.Places.{some_same}

-- it is so of one of the first of these
pub record InFirst {X : Type 0} (items : List X) (n : ℕ) (is_so : X → ℕ → Type 0) (x : ℕ) : Type 0 where
  pub place : ℕ
  pub early : place < n
  pub item : X
  pub here : slice_get items place ≡ Some item
  pub so : is_so item x

pub numbers_push : (cs : List Cross) (c : Cross) → cross_numbers (cs ++ c ∷ []) ≡ cross_numbers cs ++ c.0 ∷ []
numbers_push [] c = refl
numbers_push (d ∷ cs) c = ap (λ xs. d.0 ∷ xs) (numbers_push cs c)

pub adds_one : (xs : List ℕ) (c : ℕ) → Adds (λ x. c ≡ x) xs (xs ++ c ∷ [])
adds_one xs c = record {
  stays = λ x on. among_before xs c x on;
  has = λ x e. subst (λ y. among (xs ++ c ∷ []) y ≡ true) e (among_last xs c);
  only = λ x on. among_both (λ x. (among xs x ≡ true) ⊎ (c ≡ x)) xs c (λ x h. inl h) (inr refl) x on;
}

pub adds_nothing : {P : ℕ → Type 0} (xs : List ℕ) → ((x : ℕ) → P x → ⊥) → Adds P xs xs
adds_nothing xs none = record { stays = λ x on. on; has = λ x p. absurd (none x p); only = λ x on. inl on }

pub adds_by : {P Q : ℕ → Type 0} {old new : List ℕ} → ((x : ℕ) → P x → Q x) → ((x : ℕ) → Q x → P x) → Adds P old new → Adds Q old new
adds_by {P} {Q} {old} {new} to back a = record { stays = a.stays; has = λ x q. a.has x (back x q); only = λ x on. mend x (a.only x on) }
  where
    mend : (x : ℕ) → (among old x ≡ true) ⊎ P x → (among old x ≡ true) ⊎ Q x
    mend x (inl h) = inl h
    mend x (inr p) = inr (to x p)

pub adds_then : {P Q : ℕ → Type 0} {old mid new : List ℕ} → Adds P old mid → Adds Q mid new → Adds (λ x. P x ⊎ Q x) old new
adds_then {P} {Q} {old} {mid} {new} a b = record { stays = λ x on. b.stays x (a.stays x on); has = has_either; only = λ x on. from_mid x (b.only x on) }
  where
    has_either : (x : ℕ) → P x ⊎ Q x → among new x ≡ true
    has_either x (inl p) = b.stays x (a.has x p)
    has_either x (inr q) = b.has x q

    from_old : (x : ℕ) → (among old x ≡ true) ⊎ P x → (among old x ≡ true) ⊎ (P x ⊎ Q x)
    from_old x (inl h) = inl h
    from_old x (inr p) = inr (inl p)

    from_mid : (x : ℕ) → (among mid x ≡ true) ⊎ Q x → (among old x ≡ true) ⊎ (P x ⊎ Q x)
    from_mid x (inl h) = from_old x (a.only x h)
    from_mid x (inr q) = inr (inr q)

module _ {X : Type 0} (items : List X) (Q : X → ℕ → Type 0) where
  pub adds_none : (xs : List ℕ) → Adds (InFirst items 0 Q) xs xs
  adds_none xs = adds_nothing xs (λ x p. let e = p.early in let no : ⊥ = omega (arith, e) in no)

  pub adds_next : (k : ℕ) {old mid new : List ℕ} {item : X} → slice_get items k ≡ Some item → Adds (InFirst items k Q) old mid → Adds (Q item) mid new → Adds (InFirst items (k + 1) Q) old new
  adds_next k {item = item} here a b = adds_by to back (adds_then a b)
    where
      to : (x : ℕ) → InFirst items k Q x ⊎ Q item x → InFirst items (k + 1) Q x
      to x (inl p) = record { place = p.place; early = (let e = p.early in omega (arith, e)); item = p.item; here = p.here; so = p.so }
      to x (inr q) = record { place = k; early = omega arith; item = item; here = here; so = q }

      by_place : (x : ℕ) (p : InFirst items (k + 1) Q x) → Dec (p.place ≡ k) → InFirst items k Q x ⊎ Q item x
      by_place x p (yes e) = inr (subst (λ i. Q i x) (some_same (sym p.here ∙ ap (slice_get items) e ∙ here)) p.so)
      by_place x p (no n) = inl (record { place = p.place; early = (let e = p.early in omega (arith, e, n)); item = p.item; here = p.here; so = p.so })

      back : (x : ℕ) → InFirst items (k + 1) Q x → InFirst items k Q x ⊎ Q item x
      back x p = by_place x p (ℕ_discrete p.place k)

  pub adds_all : (n : ℕ) {old new : List ℕ} → length items ≤ n → Adds (InFirst items n Q) old new → Adds (InSome items Q) old new
  adds_all n le a = adds_by (λ x p. record { place = p.place; item = p.item; here = p.here; so = p.so })
      (λ x p. record { place = p.place; early = (let h = slice_get_within items p.place p.item p.here in omega (arith, h, le)); item = p.item; here = p.here; so = p.so }) a

pub later_one : (b t : Bool) → b ≡ false → (b || t) ≡ true → t ≡ true
later_one true t e on = cc
later_one false t e on = on

-- what is among numbers
pub among_some : (xs : List ℕ) (x : ℕ) → among xs x ≡ true → InSome xs (λ c x. c ≡ x) x
among_some [] x on = absurd (false≢true on)
among_some (c ∷ xs) x on = by_test (c == x) refl (λ later. among_some xs x later)
  where
    by_test : (b : Bool) → (c == x) ≡ b → (among xs x ≡ true → InSome xs (λ c x. c ≡ x) x) → InSome (c ∷ xs) (λ c x. c ≡ x) x
    by_test true e rest = record { place = 0; item = c; here = refl; so = grind (arith, nat_tests, e) }
    by_test false e rest = let p = rest (later_one (c == x) (among xs x) e on) in record { place = suc p.place; item = p.item; here = p.here; so = p.so }

pub some_among : (xs : List ℕ) (k c : ℕ) → slice_get xs k ≡ Some c → among xs c ≡ true
some_among [] k c e = cc
some_among (d ∷ xs) zero c e = let same : d ≡ c = some_same e in or_one (d == c) (among xs c) (grind (arith, nat_tests, same))
  where
    or_one : (a b : Bool) → a ≡ true → (a || b) ≡ true
    or_one a b e = rw e refl
some_among (d ∷ xs) (suc k) c e = or_other (d == c) (among xs c) (some_among xs k c e)
  where
    or_other : (a b : Bool) → b ≡ true → (a || b) ≡ true
    or_other true b e = refl
    or_other false b e = e

-- crosspoints by their numbers
pub number_at : (cs : List Cross) (j : ℕ) (c : Cross) → slice_get cs j ≡ Some c → among (cross_numbers cs) c.0 ≡ true
number_at cs j c e = some_among (cross_numbers cs) j c.0 (at_number cs j e)
  where
    at_number : (cs : List Cross) (j : ℕ) → slice_get cs j ≡ Some c → slice_get (cross_numbers cs) j ≡ Some c.0
    at_number [] j e = cc
    at_number (d ∷ cs) zero e = ap (λ (x : Cross). Some x.0) (some_same e)
    at_number (d ∷ cs) (suc j) e = at_number cs j e

pub all_numbers : (P : ℕ → Type 0) (cs : List Cross) → ((x : ℕ) → among (cross_numbers cs) x ≡ true → P x) → All (λ c. P c.0) cs
all_numbers P cs h k d within = h (get_or cs k d).0 (number_at cs k (get_or cs k d) (slice_get-get_or cs k d within))

pub adds_push : {new : List Cross} (cs : List Cross) (c : Cross) → new ≡ cs ++ c ∷ [] → Adds (λ x. c.0 ≡ x) (cross_numbers cs) (cross_numbers new)
adds_push cs c e = subst (λ xs. Adds (λ x. c.0 ≡ x) (cross_numbers cs) xs) (sym (ap cross_numbers e ∙ numbers_push cs c)) (adds_one (cross_numbers cs) c.0)

pub adds_steps : (r : Walk) {old new : List ℕ} → Adds (InSome r.crosses (λ c x. c ≡ x)) old new → Adds (λ x. among r.crosses x ≡ true) old new
adds_steps r a = adds_by (λ x p. subst (λ y. among r.crosses y ≡ true) p.so (some_among r.crosses p.place p.item p.here)) (λ x on. among_some r.crosses x on) a
