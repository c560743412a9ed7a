-- A change at a distance: what a pin reads changes only by what is joined to it.
use Rattle.std.proofs.Common.{◌≡◌, ◌≢◌, ◌⊎◌, inl, inr, ℕ, ◌<◌, Bool, true, false, Some, None, Option, List, [], ◌∷◌, zero, suc, get_or, refl, sym, ap, ◌∙◌, subst, slice_get, unwrap_or}
use Rattle.machine_config.proofs.Vocabulary.{fun_ext, false≢true, Ends, ends_of, pin_wire, pins_of, Joined-mono, Ends-swap, IsValue-unique}
use native.Mathlib.Decide.{ℕ_discrete}
use Rattle.machine_meaning.specs.Vocabulary.{Circuit, Table, Outputs, Pins, Faults, stuck_cross, stuck_wire, Linked, crossed, bridged, Joined, here, then, net_of, Pulls, by_pin, by_table, IsValue, held_0, held_1, pulled, released, IsHeld, IsPulled}
use Rattle.machine_config.specs.Vocabulary.{Configuration, is_closed, setting_of, circuit_of, table_or_off, IsRun, Ticks, unticked, tick, Cycle, Cycles, none, cycle, at_load, tick_output, OpensFarFrom, AreOff}
use Rattle.machine_config.proofs.Passing.{quiet_after, quiet_load}
use Rattle.machine_config.proofs.Readings.{pin_value}

off_gives : (o : Option Table) (a : ℕ) (b : Bool) → o ≡ None → tick_output o a b ≡ true
off_gives None a b e = refl
off_gives (Some t) a b e = cc

-- with all tables off no table pulls
module _ (f : Faults) (g : Configuration) (off : AreOff g) where
  still_quiet : {drive : Pins} {before after : Outputs} {n : ℕ} → ((t : ℕ) → before t ≡ true) → Ticks (circuit_of f g) drive before n after → (t : ℕ) → after t ≡ true
  still_quiet quiet unticked = quiet
  still_quiet quiet (tick v ps p e) = λ t. ap (λ (o : Outputs). o t) e ∙ off_gives _ _ _ (ap (table_or_off f t) (off t))

either : (a b : Bool) → (a ≡ b) ⊎ (a ≢ b)
either true true = inl refl
either true false = inr (λ e. cc)
either false true = inr (λ e. cc)
either false false = inl refl

module _ (f : Faults) (g h : Configuration) (x q : ℕ) (v : Bool) (stuck : stuck_cross f x ≡ Some v) (opens : OpensFarFrom f g h x q) where
  same_conducts : (y : ℕ) → (is_closed g y ≡ is_closed h y) ⊎ (y ≡ x) → unwrap_or (stuck_cross f y) (is_closed g y) ≡ unwrap_or (stuck_cross f y) (is_closed h y)
  same_conducts y (inl e) = ap (unwrap_or (stuck_cross f y)) e
  same_conducts y (inr e) =
      let s : stuck_cross f y ≡ Some v = ap (stuck_cross f) e ∙ stuck in
      ap (λ o. unwrap_or o (is_closed g y)) s ∙ ap (λ o. unwrap_or o (is_closed h y)) (sym s)

  -- what is joined to it stays so
  stays : {w : ℕ} → Joined (net_of g.shape f (is_closed g)) q w → Joined (net_of g.shape f (is_closed h)) q w
  stays here = here
  stays (then j (bridged p is at)) = then (stays j) (bridged p is at)
  stays (then {b = b} {c = c} j (crossed y on at)) = then (stays j) (crossed y (by (ℕ_discrete y x) (either (is_closed g y) (is_closed h y)) (opens.far y b c)) at)
    where
      both : Joined (net_of g.shape f (is_closed g)) q c
      both = then j (crossed y on at)

      by : Dec (y ≡ x) → (is_closed g y ≡ is_closed h y) ⊎ (is_closed g y ≢ is_closed h y) →
          (is_closed g y ≢ is_closed h y → y ≢ x → Ends (ends_of g.shape y) b c → Joined (net_of g.shape f (is_closed g)) q b → Joined (net_of g.shape f (is_closed g)) q c → ⊥) →
          unwrap_or (stuck_cross f y) (is_closed h y) ≡ true
      by (yes e) d far = sym (same_conducts y (inr e)) ∙ on
      by (no n) (inl e) far = sym (same_conducts y (inl e)) ∙ on
      by (no n) (inr d) far = absurd (far d n at j both)

  -- and nothing else is
  was : {w : ℕ} → Joined (net_of g.shape f (is_closed h)) q w → Joined (net_of g.shape f (is_closed g)) q w
  was j = Joined-mono g.shape f (is_closed h) (is_closed g) opens.fewer j

  held_too : {b : Bool} → IsHeld (circuit_of f g) q b → IsHeld (circuit_of f h) q b
  held_too k = record { place = k.place; joined = subst (λ m. Joined (net_of m f (is_closed h)) q k.place) (sym opens.shape) (stays k.joined); stuck = k.stuck }

  held_before : {b : Bool} → IsHeld (circuit_of f h) q b → IsHeld (circuit_of f g) q b
  held_before k = record { place = k.place; joined = was (subst (λ m. Joined (net_of m f (is_closed h)) q k.place) opens.shape k.joined); stuck = k.stuck }

  module _ {drive : Pins} {o p : Outputs} (quiet : (t : ℕ) → o t ≡ true) (still : (t : ℕ) → p t ≡ true) where
    pulls_too : {w : ℕ} → Pulls (circuit_of f g) drive o w → Pulls (circuit_of f h) drive p w
    pulls_too (by_pin k below low at) = by_pin k (subst (λ m. k < pins_of m) (sym opens.shape) below) low (ap (λ m. pin_wire m k) opens.shape ∙ at)
    pulls_too (by_table t low at) = absurd (false≢true (sym low ∙ quiet t))

    pulls_before : {w : ℕ} → Pulls (circuit_of f h) drive p w → Pulls (circuit_of f g) drive o w
    pulls_before (by_pin k below low at) = by_pin k (subst (λ m. k < pins_of m) opens.shape below) low (ap (λ m. pin_wire m k) (sym opens.shape) ∙ at)
    pulls_before (by_table t low at) = absurd (false≢true (sym low ∙ still t))

    pulled_too : IsPulled (circuit_of f g) drive o q → IsPulled (circuit_of f h) drive p q
    pulled_too k = record { place = k.place; joined = subst (λ m. Joined (net_of m f (is_closed h)) q k.place) (sym opens.shape) (stays k.joined); pulls = pulls_too k.pulls }

    pulled_before : IsPulled (circuit_of f h) drive p q → IsPulled (circuit_of f g) drive o q
    pulled_before k = record { place = k.place; joined = was (subst (λ m. Joined (net_of m f (is_closed h)) q k.place) opens.shape k.joined); pulls = pulls_before k.pulls }

    same_value : {b : Bool} → IsValue (circuit_of f g) drive o q b → IsValue (circuit_of f h) drive p q b
    same_value (held_0 k) = held_0 (held_too k)
    same_value (held_1 n k) = held_1 (λ e. n (held_before e)) (held_too k)
    same_value (pulled n m k) = pulled (λ e. n (held_before e)) (λ e. m (held_before e)) (pulled_too k)
    same_value (released n m k) = released (λ e. n (held_before e)) (λ e. m (held_before e)) (λ e. k (pulled_before e))

none_by : (o : Option Bool) → ((v : Bool) → o ≡ Some v → ⊥) → o ≡ None
none_by None n = refl
none_by (Some v) n = absurd (n v refl)

-- Where a pin reads otherwise with some crosspoints open, of which all but one are at a distance, this one isn't stuck.
pub change_at_a_distance : (f : Faults) (g h : Configuration) (x k : ℕ) (drive r s : Pins) → AreOff g → AreOff h → k < pins_of g.shape →
    OpensFarFrom f g h x (pin_wire g.shape k) → IsRun f g (drive ∷ []) (r ∷ []) → IsRun f h (drive ∷ []) (s ∷ []) →
    get_or r k true ≢ get_or s k true → stuck_cross f x ≡ None
change_at_a_distance f g h x k drive r s off off_too below opens run run_too differ = none_by (stuck_cross f x) (λ v e. differ (by v e run.cycles run_too.cycles))
  where
    by : (v : Bool) → stuck_cross f x ≡ Some v → {a b : Outputs} → Cycles (circuit_of f g) (at_load (circuit_of f g)) (drive ∷ []) (r ∷ []) a → Cycles (circuit_of f h) (at_load (circuit_of f h)) (drive ∷ []) (s ∷ []) b →
        get_or r k true ≡ get_or s k true
    by v e (cycle c none) (cycle d none) = IsValue-unique
        (same_value f g h x (pin_wire g.shape k) v e opens (still_quiet f g off (quiet_load f g off) c.ticks) (still_quiet f h off_too (quiet_load f h off_too) d.ticks) (pin_value c k below refl))
        (subst (λ m. IsValue (circuit_of f h) drive d.outputs (pin_wire m k) (get_or s k true)) opens.shape (pin_value d k (subst (λ m. k < pins_of m) (sym opens.shape) below) refl))

-- with all tables off no cycle leaves anything behind
each_alike : (f : Faults) (g : Configuration) → AreOff g → {before after : Outputs} {drives reads : List Pins} → Cycles (circuit_of f g) before drives reads after → ((t : ℕ) → before t ≡ true) →
    (k : ℕ) (drive read : Pins) → slice_get drives k ≡ Some drive → slice_get reads k ≡ Some read → IsRun f g (drive ∷ []) (read ∷ [])
each_alike f g off none quiet k drive read e r = cc
each_alike f g off {before} {after} (cycle {mid = mid} {drive = first} {read = reading} s more) quiet zero drive read e r =
    subst (λ d. IsRun f g (d ∷ []) (read ∷ [])) (ap (λ (o : Option Pins). unwrap_or o []) e)
    (subst (λ d. IsRun f g (first ∷ []) (d ∷ [])) (ap (λ (o : Option Pins). unwrap_or o []) r)
    (record { outputs = mid; cycles = subst (λ (o : Outputs). Cycles (circuit_of f g) o (first ∷ []) (reading ∷ []) mid) (fun_ext (λ t. quiet t ∙ sym (quiet_load f g off t))) (cycle s none) }))
each_alike f g off (cycle s more) quiet (suc k) drive read e r = each_alike f g off more (quiet_after f g off quiet s) k drive read e r

pub cycles_alike : (f : Faults) (g : Configuration) (drives reads : List Pins) (k : ℕ) (drive read : Pins) → AreOff g → IsRun f g drives reads → slice_get drives k ≡ Some drive → slice_get reads k ≡ Some read → IsRun f g (drive ∷ []) (read ∷ [])
cycles_alike f g drives reads k drive read off run e r = each_alike f g off run.cycles (quiet_load f g off) k drive read e r
