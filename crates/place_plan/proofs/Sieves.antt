-- Of ascending numbers those that have a property, one after the other.
use Rattle.std.proofs.Common.{◌≡◌, ℕ, ◌+◌, ◌<◌, ◌≤◌, Bool, true, false, List, [], ◌∷◌, ◌++◌, length, get_or, if◌then◌else◌, inl, inr, refl, sym, ap, ◌∙◌, subst, arith, ◌↔◌}
use Rattle.place_plan.proofs.Vocabulary.{AllPairs, cases_eq, Defects, IsFreeWire, AreThose, AreLists, IsAmongFirst, nth_of, same_number}
use Rattle.std.proofs.lemmas.List.{length_push, get_or_push, get_or_append_left, get_or_default}
use Rattle.place_plan.proofs.Those.{those_same, those_none, those_push}

none_below : (k : ℕ) → k < 0 → ⊥
none_below k lt = omega arith

pub sieve_none : (f : ℕ → ℕ) (P : ℕ → Type 0) → AreThose (IsAmongFirst f 0 P) []
sieve_none f P = those_none (IsAmongFirst f 0 P) (λ k p. none_below p.0.0 p.0.1)

pub sieve_step : (f : ℕ → ℕ) (P : ℕ → Type 0) (k : ℕ) (b : Bool) (ys : List ℕ) → ((j : ℕ) → j < k → f j < f k) → (b ≡ true → P (f k)) → (b ≡ false → P (f k) → ⊥) → AreThose (IsAmongFirst f k P) ys → AreThose (IsAmongFirst f (k + 1) P) (if b then ys ++ f k ∷ [] else ys)
sieve_step f P k true ys up so not_so are = those_push (IsAmongFirst f k P) (IsAmongFirst f (k + 1) P) ys (f k) are
    (λ w p. subst (λ z. z < f k) (sym p.0.2) (up p.0.0 p.0.1))
    (λ w p. ((p.0.0, omega (arith, p.0.1), p.0.2), p.1))
    ((k, omega arith, refl), so refl)
    (λ w q. elim (cases_eq q.0.0 k) [ inl e ↦ inr (q.0.2 ∙ ap f e) | inr ne ↦ inl ((q.0.0, omega (arith, q.0.1), q.0.2), q.1) ])
sieve_step f P k false ys up so not_so are = those_same (IsAmongFirst f k P) (IsAmongFirst f (k + 1) P) ys are
    (λ w p. ((p.0.0, omega (arith, p.0.1), p.0.2), p.1))
    (λ w q. elim (cases_eq q.0.0 k) [ inl e ↦ absurd (not_so refl (subst P (q.0.2 ∙ ap f e) q.1)) | inr ne ↦ ((q.0.0, omega (arith, q.0.1), q.0.2), q.1) ])

not_both : (b : Bool) → b ≡ false → b ≡ true → ⊥
not_both b e f = cc

-- a step that puts a number at the end if a test holds, which holds exactly where the number has the property
pub tested_step : (f : ℕ → ℕ) (P : ℕ → Type 0) (k w : ℕ) (b : Bool) (ys new : List ℕ) → ((j : ℕ) → j < k → f j < f k) → w ≡ f k → (b ≡ true) ↔ P (f k) → new ≡ (if b then ys ++ w ∷ [] else ys) → AreThose (IsAmongFirst f k P) ys → AreThose (IsAmongFirst f (k + 1) P) new
tested_step f P k w b ys new up e is made are =
    let made_so : new ≡ (if b then ys ++ f k ∷ [] else ys) = made ∙ ap (λ z. if b then ys ++ z ∷ [] else ys) e in
    subst (AreThose (IsAmongFirst f (k + 1) P)) (sym made_so) (sieve_step f P k b ys up is.0 (λ q p. not_both b q (is.1 p)) are)

-- of wires
pub tested_wire : (f : ℕ → ℕ) (d : Defects) (k w : ℕ) (b : Bool) (ys new : List ℕ) → ((j : ℕ) → j < k → f j < f k) → w ≡ f k → (b ≡ true) ↔ IsFreeWire d w → new ≡ (if b then ys ++ w ∷ [] else ys) → AreThose (IsAmongFirst f k (IsFreeWire d)) ys → AreThose (IsAmongFirst f (k + 1) (IsFreeWire d)) new
tested_wire f d k w b ys new up e is made are = tested_step f (IsFreeWire d) k w b ys new up e (subst (λ z. (b ≡ true) ↔ IsFreeWire d z) e is) made are

-- the same over the elements of an ascending list
pub elements_step : (xs : List ℕ) (P : ℕ → Type 0) (k : ℕ) (b : Bool) (ys : List ℕ) → AllPairs (λ a c. a < c) xs → k < length xs → (b ≡ true → P (get_or xs k 0)) → (b ≡ false → P (get_or xs k 0) → ⊥) → AreThose (IsAmongFirst (nth_of xs) k P) ys → AreThose (IsAmongFirst (nth_of xs) (k + 1) P) (if b then ys ++ get_or xs k 0 ∷ [] else ys)
elements_step xs P k b ys up lt so not_so are = sieve_step (nth_of xs) P k b ys (λ j l. up j k 0 l lt) so not_so are

pub elements_end : (xs : List ℕ) (P Q R : ℕ → Type 0) (k : ℕ) (ys : List ℕ) → length xs ≤ k → k ≤ length xs → AreThose Q xs → ((w : ℕ) → Q w → P w → R w) → ((w : ℕ) → R w → Q w × P w) → AreThose (IsAmongFirst (nth_of xs) k P) ys → AreThose R ys
elements_end xs P Q R k ys ge le all to from are = those_same (IsAmongFirst (nth_of xs) k P) R ys are
    (λ w p. to w (subst Q (sym p.0.2) (all.only p.0.0 0 (omega (arith, p.0.1)))) p.1)
    (λ w r. let q = from w r in let c = all.each w q.0 in ((c.0, omega (arith, c.1), sym c.2 ∙ get_or_default xs c.0 w 0 c.1), q.1))

pub lists_none : (P : ℕ → ℕ → Type 0) → AreLists 0 P []
lists_none P = record { sized = refl; those = λ n lt. absurd (none_below n lt) }

pub lists_push : (P : ℕ → ℕ → Type 0) (n : ℕ) (lists : List (List ℕ)) (v : List ℕ) → AreLists n P lists → AreThose (P n) v → AreLists (n + 1) P (lists ++ v ∷ [])
lists_push P n lists v are here = record {
  sized = length_push lists v ∙ ap (λ z. z + 1) are.sized;
  those = λ i lt. elim (cases_eq i n) [
    | inl e ↦ subst (λ z. AreThose (P z) (get_or (lists ++ v ∷ []) z [])) (sym e) (subst (AreThose (P n)) (sym (get_or_push lists v [] n are.sized)) here)
    | inr ne ↦ (let l : i < length lists = omega (arith, are.sized) in subst (AreThose (P i)) (sym (get_or_append_left lists (v ∷ []) [] i l)) (are.those i (omega arith)))
  ];
}

pub sieve_end : (P : ℕ → Type 0) (k n m : ℕ) (ys : List ℕ) → k ≡ n → n ≡ m → AreThose (IsAmongFirst same_number k P) ys → AreThose (λ x. (x < m) × P x) ys
sieve_end P k n m ys e f are = those_same (IsAmongFirst same_number k P) (λ x. (x < m) × P x) ys are
    (λ x p. (subst (λ z. z < m) (sym p.0.2) (subst (λ z. p.0.0 < z) (e ∙ f) p.0.1), p.1))
    (λ x q. ((x, subst (λ z. x < z) (sym (e ∙ f)) q.0, refl), q.1))
