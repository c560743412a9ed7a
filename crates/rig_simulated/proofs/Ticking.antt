-- What a tick leaves of the marks.
use Rattle.std.proofs.Common.{◌≡◌, ◌⊎◌, ⊎_elim, ℕ, ◌<◌, Bool, true, false, List, length, get_or, map, sym, ap, ◌∙◌, subst, arith}
use Rattle.std.specs.List.{All}
use Rattle.rig_simulated.proofs.Vocabulary.{false≢true, get_or-map, length-map, All-map, All-weaker, Gate, Faults}
use Rattle.rig_simulated.specs.Gates.{is_low, IsClear, Fits, ticked, clocked, IsPulledBy, IsOutputOf, AreMarkedToo}

pub outs_fit : (t n : ℕ) (gates : List Gate) → All (Fits t n) gates → All (λ x. x.out < n) gates
outs_fit t n gates are k d h = (are k d h).out

module _ (step : Gate → Gate) (out : (x : Gate) → (step x).out ≡ x.out) (gates : List Gate) where
  -- each mark is at an output
  marks_at_outputs : {clear marks : List Bool} → IsClear clear → AreMarkedToo clear marks (IsPulledBy gates (length gates)) → (r : ℕ) → is_low marks r ≡ true → IsOutputOf (map step gates) 0 r
  marks_at_outputs is_clear are r e = ⊎_elim (λ o. absurd (false≢true (sym (is_clear r) ∙ o))) by_gate (are.only r e)
    where
      by_gate : IsPulledBy gates (length gates) r → IsOutputOf (map step gates) 0 r
      by_gate p = record {
        place = p.place;
        from = omega arith;
        within = (let h = p.below in let l = length-map gates step in omega (arith, h, l));
        out = λ d. let x = get_or gates p.place d in ap (λ y. y.out) (get_or-map step gates p.place d d p.below) ∙ out (get_or gates p.place d) ∙ p.out d;
      }

  pub stepped_outputs : {clear marks : List Bool} → IsClear clear → AreMarkedToo clear marks (IsPulledBy gates (length gates)) → {new : List Gate} → new ≡ map step gates → (r : ℕ) → is_low marks r ≡ true → IsOutputOf new 0 r
  stepped_outputs is_clear are is r e = subst (λ (gs : List Gate). IsOutputOf gs 0 r) (sym is) (marks_at_outputs is_clear are r e)

  -- the tables fit as they did
  module _ (t n : ℕ) (kept : (x : Gate) → Fits t n x → Fits t n (step x)) (are : All (Fits t n) gates) {new : List Gate} (is : new ≡ map step gates) where
    pub stepped_fit : All (Fits t n) new
    stepped_fit = subst (λ (gs : List Gate). All (Fits t n) gs) (sym is) (All-map (Fits t n) step gates (All-weaker (Fits t n) (λ x. Fits t n (step x)) kept gates are))

    pub stepped_within : {k : ℕ} → n ≡ k → All (λ (x : Gate). x.out < k) new
    stepped_within same = subst (λ (k : ℕ). All (λ (x : Gate). x.out < k) new) same (outs_fit t n new stepped_fit)

pub ticked_fits : (f : Faults) (level : ℕ → Bool) (t n : ℕ) (x : Gate) → Fits t n x → Fits t n (ticked f level x)
ticked_fits f level t n x h = record { table = h.table; ins = h.ins; out = h.out }

pub clocked_fits : (f : Faults) (level : ℕ → Bool) (t n : ℕ) (x : Gate) → Fits t n x → Fits t n (clocked f level x)
clocked_fits f level t n x h = record { table = h.table; ins = h.ins; out = h.out }
