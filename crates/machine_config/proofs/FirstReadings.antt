-- What a table that is alone on and latched gives at first, and what a pin reads there.
use Rattle.std.proofs.Common.{◌≡◌, ◌≢◌, ◌<◌, ℕ, Bool, true, false, Some, None, Option, [], ◌∷◌, get_or, refl, sym, ap, ◌∙◌, subst, if◌then◌else◌, unwrap_or}
use Rattle.machine_config.proofs.Vocabulary.{false≢true, pin_wire, table_wire, pins_of, IsValue-unique, Setting}
use native.Mathlib.Decide.{ℕ_discrete}
use Rattle.machine_meaning.specs.Vocabulary.{Faults, stuck_register, Joined, net_of, Circuit, Table, Outputs, Pins, Pulls, by_pin, by_table, IsValue, IsPulled}
use Rattle.machine_config.specs.Vocabulary.{Configuration, is_closed, held_by, table_of, table_or_off, circuit_of, IsRun, Ticks, unticked, tick, Cycles, none, cycle, at_load, first_output, tick_output, IsRegisterTest}
use Rattle.machine_config.proofs.Grouped.{groups_turned, left_unstuck, left_apart}
use Rattle.machine_config.proofs.Passing.{low_value, high_value}
use Rattle.machine_config.proofs.Readings.{pin_value}

module _ (f : Faults) (g : Configuration) (t l : ℕ) (s : Setting) (left right : ℕ → Bool) (drive : Pins) (p : IsRegisterTest f g t s left right drive l) where
  abbrev c : Circuit
  c = circuit_of f g

  is_on : c.table t ≡ Some (table_of f t s)
  is_on = ap (table_or_off f t) p.on

  is_off : (u : ℕ) → u ≢ t → c.table u ≡ None
  is_off u n = ap (table_or_off f u) (p.off u n)

  not_held : held_by f t s ≡ None
  not_held = ap (λ b. if b then stuck_register f t else None) p.latched ∙ p.not_stuck

  first_on : (o : Option Table) → o ≡ Some (table_of f t s) → first_output o ≡ s.init
  first_on None e = cc
  first_on (Some x) e = ap first_output e ∙ ap (λ h. unwrap_or h s.init) not_held

  first_off : (o : Option Table) → o ≡ None → first_output o ≡ true
  first_off None e = refl
  first_off (Some x) e = cc

  stays_on : (o : Option Table) (n : ℕ) (old : Bool) → o ≡ Some (table_of f t s) → tick_output o n old ≡ old
  stays_on None n old e = cc
  stays_on (Some x) n old e = ap (λ o. tick_output o n old) e ∙ ap (λ b. if b then old else (table_of f t s).cell n) p.latched

  stays_off : (o : Option Table) (n : ℕ) (old : Bool) → o ≡ None → tick_output o n old ≡ true
  stays_off None n old e = refl
  stays_off (Some x) n old e = cc

  -- the table gives its initial bit, and no other gives 0
  record Gives (outputs : Outputs) : Type 0 where
    on : outputs t ≡ s.init
    off : (u : ℕ) → u ≢ t → outputs u ≡ true

  gives_first : Gives (at_load c)
  gives_first = record { on = first_on (c.table t) is_on; off = λ u n. first_off (c.table u) (is_off u n) }

  gives_on : {before : Outputs} {n : ℕ} {after : Outputs} → Gives before → Ticks c drive before n after → Gives after
  gives_on h unticked = h
  gives_on h (tick value ps are is) = record {
    on = ap (λ (o : Outputs). o t) is ∙ stays_on (c.table t) _ _ is_on ∙ (gives_on h ps).on;
    off = λ u n. ap (λ (o : Outputs). o u) is ∙ stays_off (c.table u) _ _ (is_off u n);
  }

  module _ (outputs : Outputs) (h : Gives outputs) where
    quiet : s.init ≡ true → (u : ℕ) → outputs u ≡ true
    quiet e u = by_place (ℕ_discrete u t)
      where
        by_place : Dec (u ≡ t) → outputs u ≡ true
        by_place (yes d) = subst (λ v. outputs v ≡ true) (sym d) (h.on ∙ e)
        by_place (no n) = h.off u n

    unpulled : s.init ≡ true → ¬ IsPulled c drive outputs (pin_wire g.shape l)
    unpulled e q = by_pull q.place q.joined q.pulls
      where
        by_pull : (v : ℕ) → Joined (net_of g.shape f (is_closed g)) (pin_wire g.shape l) v → Pulls c drive outputs v → ⊥
        by_pull v j (by_pin i i_pin low at) = left_apart (groups_turned p.groups) p.l_right (p.quiet i low) (subst (Joined (net_of g.shape f (is_closed g)) (pin_wire g.shape l)) (sym at) j)
        by_pull v j (by_table u low at) = false≢true (sym low ∙ quiet e u)

    read_value : (b : Bool) → s.init ≡ b → IsValue c drive outputs (pin_wire g.shape l) b
    read_value false e = low_value (λ v j. left_unstuck (groups_turned p.groups) p.l_right j) (record { place = table_wire g.shape t 6; joined = p.led; pulls = by_table t (h.on ∙ e) refl })
    read_value true e = high_value (λ v j. left_unstuck (groups_turned p.groups) p.l_right j) (unpulled e)

  pub register_reads : (r : Pins) → l < pins_of g.shape → IsRun f g (drive ∷ []) (r ∷ []) → get_or r l true ≡ s.init
  register_reads r h run = by_cycles run.cycles
    where
      by_cycles : {end : Outputs} → Cycles c (at_load c) (drive ∷ []) (r ∷ []) end → get_or r l true ≡ s.init
      by_cycles (cycle q none) = IsValue-unique (pin_value q l h refl) (read_value q.outputs (gives_on gives_first q.ticks) s.init refl)
