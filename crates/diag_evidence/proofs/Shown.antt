-- What readings show.
use Rattle.std.proofs.Common.{◌≡◌, ◌≢◌, ◌<◌, ℕ, Bool, true, false, Some, Option, List, [], ◌∷◌, get_or, refl, sym, ap, ◌∙◌}
use Rattle.diag_evidence.proofs.Vocabulary.{false≢true, Pins, Faults, Runs-unique, loop_toggles, swing_passes, pins_of}
use Rattle.machine_config.specs.Vocabulary.{Configuration, with_open, circuit_of, IsRun}
use Rattle.diag_evidence.specs.Readings.{Reads, ReadsTwice, TellsApart, TellsSwing, CrossPasses, SwingPasses}

first_of : {r q : Pins} {rs qs : List Pins} → ◌≡◌ {A = List Pins} (r ∷ rs) (q ∷ qs) → r ≡ q
first_of e = ap (λ xs. get_or xs 0 []) e

second_of : {r q s t : Pins} → ◌≡◌ {A = List Pins} (r ∷ s ∷ []) (q ∷ t ∷ []) → s ≡ t
second_of e = ap (λ xs. get_or xs 1 []) e

bit_of : {r q : Pins} (pin : ℕ) → r ≡ q → get_or r pin true ≡ get_or q pin true
bit_of pin e = ap (λ x. get_or x pin true) e

module _ {told : Option Faults} {g h : Configuration} {drive : Pins} {pin : ℕ} {a b : Bool} (p : Reads told g drive pin a) (q : Reads told h drive pin b) where
  -- the readings of runs at the pin
  at_first : (f : Faults) (r : Pins) → told ≡ Some f → IsRun f g (drive ∷ []) (r ∷ []) → a ≡ get_or r pin true
  at_first f r t run = p.bit_is ∙ bit_of pin (first_of (Runs-unique (circuit_of f g) (p.run f t) run))

  at_second : (f : Faults) (r : Pins) → told ≡ Some f → IsRun f h (drive ∷ []) (r ∷ []) → b ≡ get_or r pin true
  at_second f r t run = q.bit_is ∙ bit_of pin (first_of (Runs-unique (circuit_of f h) (q.run f t) run))

  pub tells_same : a ≡ b → TellsApart told g h drive pin false
  tells_same e = record { exact = λ f r s t run other. ((λ is. absurd (false≢true is)), (λ n. absurd (n (sym (at_first f r t run) ∙ e ∙ at_second f s t other)))) }

  pub tells_apart : a ≢ b → TellsApart told g h drive pin true
  tells_apart n = record { exact = λ f r s t run other. ((λ is e. n (at_first f r t run ∙ e ∙ sym (at_second f s t other))), (λ n. refl)) }

  -- the readings themselves differ
  pub differ : a ≢ b → ◌≢◌ {A = List Pins} (p.reading ∷ []) (q.reading ∷ [])
  differ n e = n (p.bit_is ∙ bit_of pin (first_of e) ∙ sym q.bit_is)

  pub differ_turned : a ≢ b → ◌≢◌ {A = List Pins} (q.reading ∷ []) (p.reading ∷ [])
  differ_turned n e = differ n (sym e)

pub low_and_high : {a b : Bool} {x y : Bool} → a ≡ x → b ≡ y → (x ≡ false) × (y ≡ true) → a ≢ b
low_and_high p q h e = false≢true (sym (p ∙ h.0) ∙ e ∙ q ∙ h.1)

-- a loop passes
pub loop_shows : {told : Option Faults} {drive : Pins} {pin : ℕ} {a b : Bool} (g : Configuration) (x : ℕ) (p : Reads told g drive pin a) (q : Reads told (with_open g x) drive pin b) → a ≡ b → CrossPasses told g x drive pin false
loop_shows {drive = drive} {pin = pin} g x p q e = record { at = λ f left right k t loop driven. absurd (low_and_high p.bit_is q.bit_is (loop_toggles f g x k pin left right drive _ _ loop driven (p.run f t) (q.run f t)) e) }

module _ {told : Option Faults} {g : Configuration} {low high : Pins} {pin : ℕ} {a b : Bool} (p : ReadsTwice told g low high pin a b) where
  same_both : (f : Faults) (r q : Pins) → told ≡ Some f → IsRun f g (low ∷ high ∷ []) (r ∷ q ∷ []) → ◌≡◌ {A = List Pins} (p.reading ∷ p.later ∷ []) (r ∷ q ∷ [])
  same_both f r q t run = Runs-unique (circuit_of f g) (p.run f t) run

  pub swing_same : a ≡ b → TellsSwing told g low high pin false
  swing_same e = record { exact = λ f r q t run. ((λ is. absurd (false≢true is)), (λ n. absurd (n (sym (p.first_is ∙ bit_of pin (first_of (same_both f r q t run))) ∙ e ∙ p.second_is ∙ bit_of pin (second_of (same_both f r q t run)))))) }

  pub swing_apart : a ≢ b → TellsSwing told g low high pin true
  swing_apart n = record { exact = λ f r q t run. ((λ is e. n (p.first_is ∙ bit_of pin (first_of (same_both f r q t run)) ∙ e ∙ sym (p.second_is ∙ bit_of pin (second_of (same_both f r q t run))))), (λ n. refl)) }

  pub swing_shows : pin < pins_of g.shape → a ≡ b → SwingPasses told g low high pin false
  swing_shows h e = record { at = λ f left right t off groups is driven free. absurd (low_and_high p.first_is p.second_is (swing_passes f g left right low high _ _ pin off groups h is driven free (p.run f t)) e) }
