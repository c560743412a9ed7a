-- Which readings a test takes, where its wires are as they should be.
use Rattle.std.proofs.Common.{◌≡◌, ℕ, ◌<◌, Bool, true, false, Some, None, Option, [], ◌∷◌, get_or, refl, sym, ap, ◌∙◌, subst}
use Rattle.machine_config.proofs.Vocabulary.{false≢true, Shape, pin_wire, pins_of, IsValue-unique}
use Rattle.machine_meaning.specs.Vocabulary.{Faults, stuck_wire, Joined, here, net_of, Circuit, Table, Outputs, Pins, Pulls, by_pin, by_table, IsValue, IsHeld, IsPulled, pulled, released}
use Rattle.machine_config.specs.Vocabulary.{Ticks, unticked, tick, Cycle, Cycles, none, cycle, at_load, tick_output, edge_output, first_output, AreGroups, Configuration, is_closed, circuit_of, table_or_off, IsRun, AreOff, IsDrivenAlone, IsDrivenIn, AreReleased}
use Rattle.machine_config.proofs.Grouped.{groups_turned, left_unstuck, left_apart}
use Rattle.machine_config.proofs.Readings.{pin_value}

-- a wire that is joined to no stuck wire
pub unheld : {c : Circuit} {w : ℕ} → ((v : ℕ) → Joined c.net w v → c.stuck v ≡ None) → (b : Bool) → ¬ IsHeld c w b
unheld unstuck b h = let n = unstuck h.place h.joined in cc (n, h.stuck)

pub low_value : {c : Circuit} {drive : Pins} {outputs : Outputs} {w : ℕ} → ((v : ℕ) → Joined c.net w v → c.stuck v ≡ None) → IsPulled c drive outputs w → IsValue c drive outputs w false
low_value unstuck p = pulled (unheld unstuck false) (unheld unstuck true) p

pub high_value : {c : Circuit} {drive : Pins} {outputs : Outputs} {w : ℕ} → ((v : ℕ) → Joined c.net w v → c.stuck v ≡ None) → ¬ IsPulled c drive outputs w → IsValue c drive outputs w true
high_value unstuck n = released (unheld unstuck false) (unheld unstuck true) n

quiet_tick : (o : Option Table) (a : ℕ) (b : Bool) → o ≡ None → tick_output o a b ≡ true
quiet_tick None a b e = refl
quiet_tick (Some t) a b e = cc

quiet_edge : (o : Option Table) (a : ℕ) (b : Bool) → o ≡ None → edge_output o a b ≡ true
quiet_edge None a b e = refl
quiet_edge (Some t) a b e = cc

quiet_first : (o : Option Table) → o ≡ None → first_output o ≡ true
quiet_first None e = refl
quiet_first (Some t) e = cc

module _ (f : Faults) (g : Configuration) (off : AreOff g) where
  table_off : (t : ℕ) → (circuit_of f g).table t ≡ None
  table_off t = ap (table_or_off f t) (off t)

  pub quiet_load : (t : ℕ) → at_load (circuit_of f g) t ≡ true
  quiet_load t = quiet_first _ (table_off t)

  quiet_ticks : {drive : Pins} {before after : Outputs} {n : ℕ} → ((t : ℕ) → before t ≡ true) → Ticks (circuit_of f g) drive before n after → (t : ℕ) → after t ≡ true
  quiet_ticks quiet unticked = quiet
  quiet_ticks quiet (tick v ps p e) = λ t. ap (λ (o : Outputs). o t) e ∙ quiet_tick _ _ _ (table_off t)

  module _ {before after : Outputs} {drive read : Pins} (quiet : (t : ℕ) → before t ≡ true) (s : Cycle (circuit_of f g) before drive read after) where
    pub quiet_after : (t : ℕ) → after t ≡ true
    quiet_after t = ap (λ (o : Outputs). o t) s.edge ∙ quiet_edge _ _ _ (table_off t)

    quiet_now : (t : ℕ) → s.outputs t ≡ true
    quiet_now = quiet_ticks quiet s.ticks

    -- a pin that is joined to no stuck wire reads 0 where a pin that it is joined to is driven 0
    pub reads_low : (k j : ℕ) → k < pins_of g.shape → j < pins_of g.shape → ((v : ℕ) → Joined (net_of g.shape f (is_closed g)) (pin_wire g.shape k) v → stuck_wire f v ≡ None) →
        get_or drive j true ≡ false → Joined (net_of g.shape f (is_closed g)) (pin_wire g.shape k) (pin_wire g.shape j) → get_or read k true ≡ false
    reads_low k j h i unstuck low joined = IsValue-unique (pin_value s k h refl) (low_value unstuck (record { place = pin_wire g.shape j; joined = joined; pulls = by_pin j i low refl }))

    unpulled : (w : ℕ) → ((j : ℕ) → get_or drive j true ≡ false → ¬ Joined (net_of g.shape f (is_closed g)) w (pin_wire g.shape j)) → ¬ IsPulled (circuit_of f g) drive s.outputs w
    unpulled w free h = by_place h.place h.joined h.pulls
      where
        by_place : (v : ℕ) → Joined (net_of g.shape f (is_closed g)) w v → Pulls (circuit_of f g) drive s.outputs v → ⊥
        by_place v j (by_pin i h low at) = free i low (subst (Joined (net_of g.shape f (is_closed g)) w) (sym at) j)
        by_place v j (by_table t low at) = false≢true (sym low ∙ quiet_now t)

    -- and 1 where none is
    pub reads_high : (k : ℕ) → k < pins_of g.shape → ((v : ℕ) → Joined (net_of g.shape f (is_closed g)) (pin_wire g.shape k) v → stuck_wire f v ≡ None) →
        ((j : ℕ) → get_or drive j true ≡ false → ¬ Joined (net_of g.shape f (is_closed g)) (pin_wire g.shape k) (pin_wire g.shape j)) → get_or read k true ≡ true
    reads_high k h unstuck free = IsValue-unique (pin_value s k h refl) (high_value unstuck (unpulled (pin_wire g.shape k) free))

-- the pins of two groups, of which the left one is driven 0
module _ (f : Faults) (g : Configuration) (off : AreOff g) {left right : ℕ → Bool} (groups : AreGroups g.shape f (is_closed g) left right) {before after : Outputs} {drive read : Pins} (quiet : (t : ℕ) → before t ≡ true) (s : Cycle (circuit_of f g) before drive read after) where
  pub left_low : (k : ℕ) → k < pins_of g.shape → left (pin_wire g.shape k) ≡ true → get_or drive k true ≡ false → get_or read k true ≡ false
  left_low k h is low = reads_low f g off quiet s k k h h (λ v j. left_unstuck groups is j) low here

  pub left_high : (k : ℕ) → k < pins_of g.shape → left (pin_wire g.shape k) ≡ true → AreReleased drive → get_or read k true ≡ true
  left_high k h is free = reads_high f g off quiet s k h (λ v j. left_unstuck groups is j) (λ i low j. false≢true (sym low ∙ free i))

  pub right_high : (l : ℕ) → l < pins_of g.shape → right (pin_wire g.shape l) ≡ true → ((i : ℕ) → get_or drive i true ≡ false → left (pin_wire g.shape i) ≡ true) → get_or read l true ≡ true
  right_high l h on within =
      reads_high f g off quiet s l h (λ v j. left_unstuck (groups_turned groups) on j) (λ i low j. left_apart (groups_turned groups) on (within i low) j)

-- a pin that is driven alone is driven in its group
pub driven_in : (m : Shape) (drive : Pins) (k : ℕ) (group : ℕ → Bool) → group (pin_wire m k) ≡ true → IsDrivenAlone drive k → IsDrivenIn m drive k group
driven_in m drive k group is driven = record { low = driven.low; within = λ j low. subst (λ i. group (pin_wire m i) ≡ true) (sym (driven.alone j low)) is }

-- `apart` passes
pub apart_passes : (f : Faults) (g : Configuration) (left right : ℕ → Bool) (drive r : Pins) (k l : ℕ) → AreOff g → AreGroups g.shape f (is_closed g) left right →
    k < pins_of g.shape → l < pins_of g.shape → left (pin_wire g.shape k) ≡ true → right (pin_wire g.shape l) ≡ true → IsDrivenAlone drive k →
    IsRun f g (drive ∷ []) (r ∷ []) → (get_or r k true ≡ false) × (get_or r l true ≡ true)
apart_passes f g left right drive r k l off groups hk hl is on driven run = by_cycles run.cycles
  where
    by_cycles : {end : Outputs} → Cycles (circuit_of f g) (at_load (circuit_of f g)) (drive ∷ []) (r ∷ []) end → (get_or r k true ≡ false) × (get_or r l true ≡ true)
    by_cycles (cycle s none) = (left_low f g off groups (quiet_load f g off) s k hk is driven.low, right_high f g off groups (quiet_load f g off) s l hl on (driven_in g.shape drive k left is driven).within)

-- `swing` passes
pub swing_passes : (f : Faults) (g : Configuration) (left right : ℕ → Bool) (low high r q : Pins) (k : ℕ) → AreOff g → AreGroups g.shape f (is_closed g) left right →
    k < pins_of g.shape → left (pin_wire g.shape k) ≡ true → get_or low k true ≡ false → AreReleased high →
    IsRun f g (low ∷ high ∷ []) (r ∷ q ∷ []) → (get_or r k true ≡ false) × (get_or q k true ≡ true)
swing_passes f g left right low high r q k off groups hk is driven all_up run = by_cycles run.cycles
  where
    by_cycles : {end : Outputs} → Cycles (circuit_of f g) (at_load (circuit_of f g)) (low ∷ high ∷ []) (r ∷ q ∷ []) end → (get_or r k true ≡ false) × (get_or q k true ≡ true)
    by_cycles (cycle s (cycle t none)) =
        (left_low f g off groups (quiet_load f g off) s k hk is driven, left_high f g off groups (quiet_after f g off (quiet_load f g off) s) t k hk is all_up)
