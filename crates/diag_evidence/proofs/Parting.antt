-- Which pins are behind a walk of an ordered list: that of its last wire, and those at which later walks end that begin at one of them.
use Rattle.std.proofs.Common.{◌≡◌, ◌≢◌, ℕ, zero, suc, ◌<◌, Bool, true, false, List, [], ◌∷◌, length, get_or, refl, sym, ◌∙◌, arith, ◌==◌, if◌then◌else◌}
use Rattle.diag_evidence.proofs.Vocabulary.{or_parts, nat_tests, Lead, ends_on}

-- no walk ends at the pin of its first wire, or at one at which an earlier walk begins or ends
pub record IsOrdered (ls : List Lead) : Type 0 where
  pub own : (k : ℕ) (d : Lead) → k < length ls → (get_or ls k d).to ≢ (get_or ls k d).from
  pub later : (i j : ℕ) (d : Lead) → i < j → j < length ls → ends_on (get_or ls i d) (get_or ls j d) ≡ false

tail : {l : Lead} {ls : List Lead} → IsOrdered (l ∷ ls) → IsOrdered ls
tail o = record {
  own = λ k d below. o.own (suc k) d (omega (arith, below));
  later = λ i j d less below. o.later (suc i) (suc j) d (omega (arith, less)) (omega (arith, below));
}

-- no walk ends at this pin
abbrev pub EndsNone : List Lead → ℕ → Type 0
EndsNone ls p = (k : ℕ) (d : Lead) → k < length ls → (get_or ls k d).to ≢ p

-- no later walk ends at the pins of the first one
module _ {l : Lead} {ls : List Lead} (o : IsOrdered (l ∷ ls)) where
  free_from : EndsNone ls l.from
  free_from k d below e =
      let two = or_parts ((get_or ls k d).to == l.from) ((get_or ls k d).to == l.to) (o.later 0 (suc k) d (omega arith) (omega (arith, below))) in
      let b : ⊥ = grind (arith, nat_tests, two.0, e) in b

  free_to : EndsNone ls l.to
  free_to k d below e =
      let two = or_parts ((get_or ls k d).to == l.from) ((get_or ls k d).to == l.to) (o.later 0 (suc k) d (omega arith) (omega (arith, below))) in
      let b : ⊥ = grind (arith, nat_tests, two.1, e) in b

-- The walks lead on from pins on a side: each begins and ends on one side.
record IsLedOn (start : ℕ → Bool) (ls : List Lead) : Type 0 where
  side : ℕ → Bool
  same : (p : ℕ) → EndsNone ls p → side p ≡ start p
  along : (k : ℕ) (d : Lead) → k < length ls → side (get_or ls k d).from ≡ side (get_or ls k d).to

led_on : (start : ℕ → Bool) (ls : List Lead) → IsOrdered ls → IsLedOn start ls
led_on start [] o = record { side = start; same = λ p none. refl; along = λ k d below. absurd (omega (arith, below)) }
led_on start (l ∷ ls) o = by_rest (led_on next ls (tail o))
  where
    next : ℕ → Bool
    next p = if p == l.to then start l.from else start p

    next_to : next l.to ≡ start l.from
    next_to = let t : (l.to == l.to) ≡ true = grind (arith, nat_tests) in rw t refl

    next_other : (p : ℕ) → l.to ≢ p → next p ≡ start p
    next_other p n = let t : (p == l.to) ≡ false = grind (arith, nat_tests, n) in rw t refl

    by_rest : IsLedOn next ls → IsLedOn start (l ∷ ls)
    by_rest s = record {
      side = s.side;
      same = λ p none. s.same p (λ k d below. none (suc k) d (omega (arith, below))) ∙ next_other p (none 0 l (omega arith));
      along = along;
    }
      where
        along : (k : ℕ) (d : Lead) → k < length (l ∷ ls) → s.side (get_or (l ∷ ls) k d).from ≡ s.side (get_or (l ∷ ls) k d).to
        along zero d below = s.same l.from (free_from o) ∙ next_other l.from (o.own 0 l (omega arith)) ∙ sym next_to ∙ sym (s.same l.to (free_to o))
        along (suc k) d below = s.along k d (omega (arith, below))

-- The pins behind a walk: all other walks begin and end on one side, and it alone leads from one to the other.
pub record IsParting (ls : List Lead) (i : ℕ) : Type 0 where
  pub side : ℕ → Bool
  pub near : (d : Lead) → side (get_or ls i d).from ≡ false
  pub far : (d : Lead) → side (get_or ls i d).to ≡ true
  pub others : (k : ℕ) (d : Lead) → k < length ls → k ≢ i → side (get_or ls k d).from ≡ side (get_or ls k d).to
  pub none : (p : ℕ) → EndsNone ls p → side p ≡ false

pub parting : (ls : List Lead) (i : ℕ) → i < length ls → IsOrdered ls → IsParting ls i
parting [] i below o = absurd (omega (arith, below))
parting (l ∷ ls) zero below o = by_rest (led_on (λ p. p == l.to) ls (tail o))
  where
    by_rest : IsLedOn (λ p. p == l.to) ls → IsParting (l ∷ ls) zero
    by_rest s = record {
      side = s.side;
      near = λ d. s.same l.from (free_from o) ∙ (let n = o.own 0 l (omega arith) in let t : (l.from == l.to) ≡ false = grind (arith, nat_tests, n) in t);
      far = λ d. s.same l.to (free_to o) ∙ (let t : (l.to == l.to) ≡ true = grind (arith, nat_tests) in t);
      others = others;
      none = λ p none. s.same p (λ k d less. none (suc k) d (omega (arith, less))) ∙ (let n = none 0 l (omega arith) in let t : (p == l.to) ≡ false = grind (arith, nat_tests, n) in t);
    }
      where
        others : (k : ℕ) (d : Lead) → k < length (l ∷ ls) → k ≢ 0 → s.side (get_or (l ∷ ls) k d).from ≡ s.side (get_or (l ∷ ls) k d).to
        others zero d less n = absurd (n refl)
        others (suc k) d less n = s.along k d (omega (arith, less))
parting (l ∷ ls) (suc i) below o = by_rest (parting ls i (omega (arith, below)) (tail o))
  where
    by_rest : IsParting ls i → IsParting (l ∷ ls) (suc i)
    by_rest s = record {
      side = s.side;
      near = s.near;
      far = s.far;
      others = others;
      none = λ p none. s.none p (λ k d less. none (suc k) d (omega (arith, less)));
    }
      where
        others : (k : ℕ) (d : Lead) → k < length (l ∷ ls) → k ≢ suc i → s.side (get_or (l ∷ ls) k d).from ≡ s.side (get_or (l ∷ ls) k d).to
        others zero d less n = s.none l.from (free_from o) ∙ sym (s.none l.to (free_to o))
        others (suc k) d less n = s.others k d (omega (arith, less)) (λ e. n (omega (arith, e)))
