-- A crosspoint between two groups of wires, closed and open.
use Rattle.std.proofs.Common.{◌≡◌, ◌⊎◌, ℕ, ◌<◌, Bool, true, false, not, ◌||◌, ◌&&◌, None, List, [], ◌∷◌, get_or, refl, sym, ◌∙◌, subst, inl, inr}
use Rattle.std.specs.FinSet.{contains, contains-remove}
use Rattle.machine_config.proofs.Vocabulary.{nat_cmp_total, nat_cmp, eq_by_cmp, false≢true, or_left, or_right, or_cases, Shape, Ends}
use Rattle.machine_config.proofs.Vocabulary.{in_order, turned, ends_of, pin_wire, pins_of, Ends-swap, Joined-trans, Joined-sym, Joined-mono}
use Rattle.machine_meaning.specs.Vocabulary.{Faults, stuck_cross, Joined, then, crossed, Shorted, net_of, Outputs, Pins, IsClear}
use Rattle.machine_config.specs.Vocabulary.{Cycles, none, cycle, at_load, among, IsWithin, AreGroups, LeadsTo, Configuration, is_closed, with_open, circuit_of, IsRun, AreOff, IsDrivenIn, IsLed, IsLoop}
use Rattle.machine_config.proofs.Grouped.{left_unstuck, LeadsTo-joined, LeadsTo-within}
use Rattle.machine_config.proofs.Readings.{all_conduct, conducting}
use Rattle.machine_config.proofs.Changes.{same_number}
use Rattle.machine_config.proofs.Passing.{quiet_load, reads_low, right_high}

-- the start and the end of a route are joined
pub led_joined : {f : Faults} {g : Configuration} {k e : ℕ} {xs ws : List ℕ} → IsLed f g k xs ws e → Joined (net_of g.shape f (is_closed g)) (pin_wire g.shape k) e
led_joined {f} {g} {xs = xs} led = LeadsTo-joined led.leads (all_conduct f g xs led.closed led.free)

both_true : (a b : Bool) → (not a && b) ≡ true → b ≡ true
both_true true b e = absurd (false≢true e)
both_true false b e = e

other_than : (e s : Bool) → e ≡ false → s ≡ true → (not e && s) ≡ true
other_than e s p q = rw p q

module _ (g : Configuration) (x : ℕ) where
  -- what is closed with x open is closed
  pub closed_before : (y : ℕ) → is_closed (with_open g x) y ≡ true → is_closed g y ≡ true
  closed_before y on = both_true (eq_by_cmp nat_cmp y x) (contains g.closed y) (sym (contains-remove nat_cmp_total g.closed x y) ∙ on)

  -- and what is closed is x, or closed with x open
  pub itself_or_closed : (y : ℕ) → is_closed g y ≡ true → (y ≡ x) ⊎ (is_closed (with_open g x) y ≡ true)
  itself_or_closed y on = by_test (eq_by_cmp nat_cmp y x) refl
    where
      by_test : (t : Bool) → eq_by_cmp nat_cmp y x ≡ t → (y ≡ x) ⊎ (is_closed (with_open g x) y ≡ true)
      by_test true e = inl (same_number y x e)
      by_test false e = inr (contains-remove nat_cmp_total g.closed x y ∙ other_than _ _ e on)

-- with a crosspoint between them closed, two groups are one
module _ (f : Faults) (g : Configuration) (x t s : ℕ) (left right : ℕ → Bool) (groups : AreGroups g.shape f (is_closed (with_open g x)) left right) (at : Ends (ends_of g.shape x) t s) (is : left t ≡ true) (on : right s ≡ true) where
  abbrev either : ℕ → Bool
  either w = left w || right w

  target_within : IsWithin g.shape either x
  target_within = by_ends at
    where
      by_ends : Ends (ends_of g.shape x) t s → IsWithin g.shape either x
      by_ends (in_order p q) = record { tap = or_left _ _ (subst (λ w. left w ≡ true) (sym p) is); line = or_right _ _ (subst (λ w. right w ≡ true) (sym q) on) }
      by_ends (turned p q) = record { tap = or_right _ _ (subst (λ w. right w ≡ true) (sym p) on); line = or_left _ _ (subst (λ w. left w ≡ true) (sym q) is) }

  old_within : {y : ℕ} → IsWithin g.shape left y ⊎ IsWithin g.shape right y → IsWithin g.shape either y
  old_within (inl h) = record { tap = or_left _ _ h.tap; line = or_left _ _ h.line }
  old_within (inr h) = record { tap = or_right _ _ h.tap; line = or_right _ _ h.line }

  one_within : {y : ℕ} → (y ≡ x) ⊎ (is_closed (with_open g x) y ≡ true) → IsWithin g.shape either y
  one_within (inl e) = subst (IsWithin g.shape either) (sym e) target_within
  one_within {y} (inr c) = old_within (groups.within y c)

  either_clear : (w : ℕ) → (left w ≡ true) ⊎ (right w ≡ true) → IsClear g.shape f w
  either_clear w (inl h) = groups.left_clear w h
  either_clear w (inr h) = groups.right_clear w h

  pub one_group : AreGroups g.shape f (is_closed g) (λ w. left w || right w) (λ _. false)
  one_group = record {
    within = λ y c. inl (one_within (itself_or_closed g x y c));
    left_clear = λ w h. either_clear w (or_cases _ _ h);
    right_clear = λ w h. absurd (false≢true h);
    apart = λ w u h k. absurd (false≢true k);
  }

-- the loop test passes: the right pin reads 0 with the crosspoint closed, and 1 with it open
pub toggle_passes : (f : Faults) (g : Configuration) (x t s : ℕ) (left right : ℕ → Bool) (drive r q : Pins) (k l : ℕ) (xs ws ys vs : List ℕ) →
    AreOff g → is_closed g x ≡ true → stuck_cross f x ≡ None → Ends (ends_of g.shape x) t s →
    AreGroups g.shape f (is_closed (with_open g x)) left right →
    right (pin_wire g.shape l) ≡ true → left t ≡ true → right s ≡ true →
    IsLed f (with_open g x) k xs ws t → IsLed f (with_open g x) l ys vs s →
    k < pins_of g.shape → l < pins_of g.shape → IsDrivenIn g.shape drive k left →
    IsRun f g (drive ∷ []) (r ∷ []) → IsRun f (with_open g x) (drive ∷ []) (q ∷ []) → (get_or r l true ≡ false) × (get_or q l true ≡ true)
toggle_passes f g x t s left right drive r q k l xs ws ys vs off closed free at groups on_l is_t on_s led_l led_r hk hl driven run_c run_o = (by_closed run_c.cycles, by_open run_o.cycles)
  where
    mono : {a b : ℕ} → Joined (net_of g.shape f (is_closed (with_open g x))) a b → Joined (net_of g.shape f (is_closed g)) a b
    mono j = Joined-mono g.shape f (is_closed (with_open g x)) (is_closed g) (closed_before g x) j

    around : Joined (net_of g.shape f (is_closed g)) (pin_wire g.shape l) (pin_wire g.shape k)
    around = Joined-trans (then (mono (led_joined led_r)) (crossed x (conducting f g (stuck_cross f x) (is_closed g x) closed free) (Ends-swap at))) (Joined-sym (mono (led_joined led_l)))

    by_closed : {end : Outputs} → Cycles (circuit_of f g) (at_load (circuit_of f g)) (drive ∷ []) (r ∷ []) end → get_or r l true ≡ false
    by_closed (cycle c none) = reads_low f g off (quiet_load f g off) c l k hl hk (λ v j. left_unstuck (one_group f g x t s left right groups at is_t on_s) (or_right (left (pin_wire g.shape l)) (right (pin_wire g.shape l)) on_l) j) driven.low around

    by_open : {end : Outputs} → Cycles (circuit_of f (with_open g x)) (at_load (circuit_of f (with_open g x))) (drive ∷ []) (q ∷ []) end → get_or q l true ≡ true
    by_open (cycle c none) = right_high f (with_open g x) off groups (quiet_load f (with_open g x) off) c l hl on_l driven.within

pub loop_toggles : (f : Faults) (g : Configuration) (x k l : ℕ) (left right : ℕ → Bool) (drive r q : Pins) → IsLoop f g x left right k l → IsDrivenIn g.shape drive k left →
    IsRun f g (drive ∷ []) (r ∷ []) → IsRun f (with_open g x) (drive ∷ []) (q ∷ []) → (get_or r l true ≡ false) × (get_or q l true ≡ true)
loop_toggles f g x k l left right drive r q p driven run_c run_o =
    toggle_passes f g x p.near p.far left right drive r q k l p.lefts p.left_wires p.rights p.right_wires p.off p.closed p.free p.at p.groups p.l_right p.near_left p.far_right p.leads_left p.leads_right p.k_pin p.l_pin driven run_c run_o

-- the groups of two routes, where nothing else is closed
pub groups_of_routes : (f : Faults) (m : Shape) (closed : ℕ → Bool) (a b d e : ℕ) (xs ws ys vs : List ℕ) → LeadsTo m a xs ws d → LeadsTo m b ys vs e →
    ((x : ℕ) → closed x ≡ true → (among xs x ≡ true) ⊎ (among ys x ≡ true)) →
    ((w : ℕ) → among ws w ≡ true → IsClear m f w) → ((w : ℕ) → among vs w ≡ true → IsClear m f w) →
    ((w u : ℕ) → among ws w ≡ true → among vs u ≡ true → ¬ Shorted m f w u) →
    AreGroups m f closed (among ws) (among vs)
groups_of_routes f m closed a b d e xs ws ys vs p q only clear also apart = record {
  within = λ x on. by_side x (only x on);
  left_clear = clear;
  right_clear = also;
  apart = apart;
}
  where
    by_side : (x : ℕ) → (among xs x ≡ true) ⊎ (among ys x ≡ true) → IsWithin m (among ws) x ⊎ IsWithin m (among vs) x
    by_side x (inl h) = inl (LeadsTo-within p x h)
    by_side x (inr h) = inr (LeadsTo-within q x h)
