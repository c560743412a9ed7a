-- Covers without a cycle have exactly one valuation.
use Rattle.std.proofs.Common.{◌≡◌, ◌≤◌, ℕ, zero, suc, ◌<◌, Bool, true, false, cond, List, [], ◌∷◌, Option, None, Some, length, get_or, map, refl, sym, ap, subst, ◌∙◌, inl, inr, arith, not, if◌then◌else◌}
use Rattle.design_netlist.proofs.Vocabulary.{eqb, cases_eq, eqb-true, eq-eqb, get_or_default_zero, Cover}
use Rattle.design_netlist.specs.Vocabulary.{cover_at, Reads, some_matches, truth, IsOnCycle, IsDriver, IsDriverBelow, number_at, IsSettled, HasOneValuation}
use Rattle.design_netlist.proofs.WalkLemmas.{IsLow, low_all}

pub map_same : (f g : ℕ → Bool) (xs : List ℕ) → ((k : ℕ) → k < length xs → f (get_or xs k 0) ≡ g (get_or xs k 0)) → map f xs ≡ map g xs
map_same f g [] h = refl
map_same f g (x ∷ xs) h = ap (λ b. b ∷ map f xs) (h 0 (omega arith)) ∙ ap (λ bs. g x ∷ bs) (map_same f g xs (λ k lk. h (suc k) (omega arith)))

pub same_truth : (f g : ℕ → Bool) (c : Cover) → ((k : ℕ) → k < length c.ins → f (number_at c.ins k) ≡ g (number_at c.ins k)) → truth f c ≡ truth g c
same_truth f g c h = ap (λ bits. if c.off then not (some_matches c.rows bits) else some_matches c.rows bits) (map_same f g c.ins h)

module _ (covers : List Cover) (apart : (i j : ℕ) → i < j → j < length covers → (cover_at covers i).out ≡ (cover_at covers j).out → ⊥) where
  -- the one of the first m covers that drives the signal
  driver_below : ℕ → ℕ → Option ℕ
  driver_below zero s = None
  driver_below (suc m) s = cond (eqb (cover_at covers m).out s) (Some m) (driver_below m s)

  not_same : (a b : ℕ) → eqb a b ≡ false → a ≡ b → ⊥
  not_same a b e f = let g : false ≡ true = sym e ∙ eq-eqb a b f in cc

  is_driver_below : (m s : ℕ) → m ≤ length covers → IsDriverBelow covers m s (driver_below m s)
  unfolding driver_below
  is_driver_below zero s le = λ i li e. omega arith
  is_driver_below (suc m) s le = by (eqb (cover_at covers m).out s) refl (driver_below m s) (is_driver_below m s (omega arith))
    where
      by : (b : Bool) → eqb (cover_at covers m).out s ≡ b → (o : Option ℕ) → IsDriverBelow covers m s o → IsDriverBelow covers (suc m) s (cond b (Some m) o)
      by true e o h =
          let at : (cover_at covers m).out ≡ s = eqb-true (cover_at covers m).out s e in
          (omega arith, at, λ i li f. elim (cases_eq i m) [ inl s ↦ s | inr n ↦ absurd (apart i m (omega arith) (omega arith) (f ∙ sym at)) ])
      by false e None h = λ i li f. elim (cases_eq i m) [ inl w ↦ not_same (cover_at covers m).out s e (subst (λ x. (cover_at covers x).out ≡ s) w f) | inr n ↦ h i (omega arith) f ]
      by false e (Some d) h = (omega (arith, h.0), h.1, λ i li f. elim (cases_eq i m) [ inl w ↦ absurd (not_same (cover_at covers m).out s e (subst (λ x. (cover_at covers x).out ≡ s) w f)) | inr n ↦ h.2 i (omega arith) f ])

  driver : ℕ → Option ℕ
  driver s = driver_below (length covers) s

  is_driver : (s : ℕ) → IsDriver covers s (driver s)
  unfolding driver
  is_driver s = is_driver_below (length covers) s (omega arith)

  driver_of : (i : ℕ) → i < length covers → driver (cover_at covers i).out ≡ Some i
  driver_of i li = by (driver (cover_at covers i).out) refl (is_driver (cover_at covers i).out)
    where
      by : (o : Option ℕ) → driver (cover_at covers i).out ≡ o → IsDriver covers (cover_at covers i).out o → driver (cover_at covers i).out ≡ Some i
      by None e h = absurd (h i li refl)
      by (Some d) e h = e ∙ ap (λ x. Some x) (sym (h.2 i li refl))

  -- the driver of an input is read
  reads_driver : (u k d : ℕ) → u < length covers → k < length (cover_at covers u).ins → driver (number_at (cover_at covers u).ins k) ≡ Some d → Reads covers u d
  reads_driver u k d lu lk e =
      let h = subst (λ o. IsDriver covers (number_at (cover_at covers u).ins k) o) e (is_driver (number_at (cover_at covers u).ins k)) in
      record { reader = lu; driver = h.0; input = (k, lk, get_or_default_zero _ k _ lk ∙ sym h.1) }

  -- who drives a signal
  data Source (s : ℕ) : Type 0 where
    nobody : ((i : ℕ) → i < length covers → (cover_at covers i).out ≡ s → ⊥) → driver s ≡ None → Source s
    cover : (d : ℕ) → d < length covers → (cover_at covers d).out ≡ s → driver s ≡ Some d → Source s

  source : (s : ℕ) → Source s
  source s = by (driver s) refl (is_driver s)
    where
      by : (o : Option ℕ) → driver s ≡ o → IsDriver covers s o → Source s
      by None e h = nobody h e
      by (Some d) e h = cover d h.0 h.1 e

  -- the covers on which a signal depends are low
  abbrev IsLowSignal : ℕ → ℕ → Type 0
  IsLowSignal t s = (d : ℕ) → driver s ≡ Some d → IsLow covers t d

  low_input : (t s d k : ℕ) → d < length covers → driver s ≡ Some d → IsLowSignal (suc t) s → k < length (cover_at covers d).ins → IsLowSignal t (number_at (cover_at covers d).ins k)
  low_input t s d k ld e low lk = λ f g. low d e f (reads_driver d k f ld lk g)

  module _ (acyclic : (i : ℕ) → i < length covers → IsOnCycle covers i → ⊥) where
    low_signal : (s : ℕ) → IsLowSignal (length covers) s
    low_signal s d e = let h = subst (λ o. IsDriver covers s o) e (is_driver s) in low_all covers acyclic d h.0

    -- two valuations agree
    module _ (base x y : ℕ → Bool) (p : IsSettled covers base x) (q : IsSettled covers base y) where
      agree_to : (t s : ℕ) → IsLowSignal t s → x s ≡ y s
      agree_to zero s low = by (source s)
        where
          by : Source s → x s ≡ y s
          by (nobody h e) = p.others s h ∙ sym (q.others s h)
          by (cover d ld at e) = absurd (low d e)
      agree_to (suc t) s low = by (source s) (λ r lr. agree_to t r lr)
        where
          by : Source s → ((r : ℕ) → IsLowSignal t r → x r ≡ y r) → x s ≡ y s
          by (nobody h e) before = p.others s h ∙ sym (q.others s h)
          by (cover d ld at e) before =
              subst (λ z. x z ≡ y z) at (p.truths d ld ∙ same_truth x y (cover_at covers d) (λ k lk. before (number_at (cover_at covers d).ins k) (low_input t s d k ld e low lk)) ∙ sym (q.truths d ld))

      agree : (s : ℕ) → x s ≡ y s
      agree s = agree_to (length covers) s (low_signal s)

    -- evaluated step by step
    module _ (base : ℕ → Bool) where
      from : Option ℕ → (ℕ → Bool) → ℕ → Bool
      from None x s = base s
      from (Some d) x s = truth x (cover_at covers d)

      after : ℕ → ℕ → Bool
      after zero = base
      after (suc t) = λ s. from (driver s) (after t) s

      after_none : (t s : ℕ) → driver s ≡ None → after t s ≡ base s
      unfolding after from
      after_none zero s e = refl
      after_none (suc t) s e = ap (λ o. from o (after t) s) e

      after_cover : (t s d : ℕ) → driver s ≡ Some d → after (suc t) s ≡ truth (after t) (cover_at covers d)
      unfolding after from
      after_cover t s d e = ap (λ o. from o (after t) s) e

      settled : (t s : ℕ) → IsLowSignal t s → after (suc t) s ≡ after t s
      settled zero s low = by (source s)
        where
          by : Source s → after (suc zero) s ≡ after zero s
          by (nobody h e) = after_none (suc zero) s e ∙ sym (after_none zero s e)
          by (cover d ld at e) = absurd (low d e)
      settled (suc t) s low = by (source s) (λ r lr. settled t r lr)
        where
          by : Source s → ((r : ℕ) → IsLowSignal t r → after (suc t) r ≡ after t r) → after (suc (suc t)) s ≡ after (suc t) s
          by (nobody h e) before = after_none (suc (suc t)) s e ∙ sym (after_none (suc t) s e)
          by (cover d ld at e) before =
              after_cover (suc t) s d e ∙ same_truth (after (suc t)) (after t) (cover_at covers d) (λ k lk. before (number_at (cover_at covers d).ins k) (low_input t s d k ld e low lk)) ∙ sym (after_cover t s d e)

      valuation : ℕ → Bool
      valuation s = after (length covers) s

      is_settled : IsSettled covers base valuation
      unfolding valuation
      is_settled = record {
        truths = λ i li. sym (settled (length covers) (cover_at covers i).out (low_signal (cover_at covers i).out)) ∙ after_cover (length covers) (cover_at covers i).out i (driver_of i li);
        others = λ s none. other s none (source s);
      }
        where
          other : (s : ℕ) → ((i : ℕ) → i < length covers → (cover_at covers i).out ≡ s → ⊥) → Source s → after (length covers) s ≡ base s
          other s none (nobody h e) = after_none (length covers) s e
          other s none (cover d ld at e) = absurd (none d ld at)

      pub one_valuation : HasOneValuation covers base
      one_valuation = (valuation, is_settled, λ other o s. agree base other valuation o is_settled s)
