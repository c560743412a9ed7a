-- Of all numbers those that have a property, one after the other.
use Rattle.std.proofs.Common.{◌≡◌, ℕ, ◌+◌, ◌<◌, Bool, true, false, List, [], ◌∷◌, ◌++◌, if◌then◌else◌, sym, ◌∙◌, subst, refl, inl, inr, arith, ◌↔◌}
use Rattle.place_repair.proofs.Vocabulary.{false≢true, cases_eq, AreThose, IsAmongFirst, same_number, those_same, those_none, those_push}

none_below : (k : ℕ) → k < 0 → ⊥
none_below k lt = omega arith

pub sieve_begins : (P : ℕ → Type 0) → AreThose (IsAmongFirst same_number 0 P) []
sieve_begins P = those_none (IsAmongFirst same_number 0 P) (λ k p. none_below p.0.0 p.0.1)

sieve_by : (P : ℕ → Type 0) (k : ℕ) (b : Bool) (ys : List ℕ) → (b ≡ true → P k) → (P k → b ≡ true) → AreThose (IsAmongFirst same_number k P) ys → AreThose (IsAmongFirst same_number (k + 1) P) (if b then ys ++ k ∷ [] else ys)
sieve_by P k true ys so back are = those_push (IsAmongFirst same_number k P) (IsAmongFirst same_number (k + 1) P) ys k are
    (λ w p. subst (λ z. z < k) (sym p.0.2) p.0.1)
    (λ w p. ((p.0.0, omega (arith, p.0.1), p.0.2), p.1))
    ((k, omega arith, refl), so refl)
    (λ w q. elim (cases_eq q.0.0 k) [ inl e ↦ inr (q.0.2 ∙ e) | inr ne ↦ inl ((q.0.0, omega (arith, q.0.1, ne), q.0.2), q.1) ])
sieve_by P k false ys so back are = those_same (IsAmongFirst same_number k P) (IsAmongFirst same_number (k + 1) P) ys are
    (λ w p. ((p.0.0, omega (arith, p.0.1), p.0.2), p.1))
    (λ w q. elim (cases_eq q.0.0 k) [ inl e ↦ absurd (false≢true (back (subst P (q.0.2 ∙ e) q.1))) | inr ne ↦ ((q.0.0, omega (arith, q.0.1, ne), q.0.2), q.1) ])

pub sieve_next : (P : ℕ → Type 0) (k : ℕ) (b : Bool) (ys zs : List ℕ) → (b ≡ true) ↔ P k → zs ≡ (if b then ys ++ k ∷ [] else ys) → AreThose (IsAmongFirst same_number k P) ys → AreThose (IsAmongFirst same_number (k + 1) P) zs
sieve_next P k b ys zs tells e are = subst (AreThose (IsAmongFirst same_number (k + 1) P)) (sym e) (sieve_by P k b ys tells.0 tells.1 are)

pub sieve_all : (P : ℕ → Type 0) (n : ℕ) (ys : List ℕ) → ((w : ℕ) → P w → w < n) → AreThose (IsAmongFirst same_number n P) ys → AreThose P ys
sieve_all P n ys within are = those_same (IsAmongFirst same_number n P) P ys are (λ w p. p.1) (λ w q. ((w, within w q, refl), q))
