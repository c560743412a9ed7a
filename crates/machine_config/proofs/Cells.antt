-- What the test of a cell reads, where its wires are as they should be.
use Rattle.std.proofs.Common.{◌≡◌, ◌≢◌, ◌⊎◌, ℕ, ◌<◌, Bool, true, false, Some, None, Option, [], ◌∷◌, get_or, refl, sym, ap, ◌∙◌, subst, inl, inr, arith, ◌||◌}
use Rattle.machine_config.proofs.Vocabulary.{false≢true, pin_wire, table_wire, pins_of, IsValue-unique, Setting, nat_tests}
use native.Mathlib.Decide.{ℕ_discrete}
use Rattle.machine_meaning.specs.Vocabulary.{Faults, Joined, net_of, Circuit, Table, Outputs, Pins, Pulls, by_pin, by_table, IsValue, IsPulled, AreValues}
use Rattle.machine_config.specs.Vocabulary.{Ticks, unticked, tick, Cycles, none, cycle, at_load, after_tick, tick_output, first_output, number_of, address_at, among, both, IsWithin, AreGroups, Configuration, is_closed, cell_of, circuit_of, table_of, table_or_off, IsRun, IsDrivenAlone, IsCellTest, IsLoose}
use Rattle.machine_config.proofs.Grouped.{groups_turned, left_unstuck, left_apart}
use Rattle.machine_config.proofs.Parts.{clear_both, clear_one, unshorted_one, unshorted_right}
use Rattle.machine_config.proofs.Readings.{pin_value}
use Rattle.machine_config.proofs.Passing.{low_value, high_value}

itself_in : (w : ℕ) → among (w ∷ []) w ≡ true
itself_in w = grind (arith, nat_tests)

module _ (f : Faults) (g : Configuration) (t a k l : ℕ) (s : Setting) (left right bits : ℕ → Bool) (drive : Pins) (p : IsCellTest f g t a s left right bits k l) (driven : IsDrivenAlone drive k) where
  abbrev c : Circuit
  c = circuit_of f g

  abbrev J : ℕ → ℕ → Type 0
  J = Joined (net_of g.shape f (is_closed g))

  is_on : c.table t ≡ Some (table_of f t s)
  is_on = ap (table_or_off f t) p.on

  is_off : (u : ℕ) → u ≢ t → c.table u ≡ None
  is_off u n = ap (table_or_off f u) (p.off u n)

  first_on : (o : Option Table) → o ≡ Some (table_of f t s) → first_output o ≡ true
  first_on None e = cc
  first_on (Some x) e = ap first_output e ∙ simp (p.comb) p.init

  first_off : (o : Option Table) → o ≡ None → first_output o ≡ true
  first_off None e = refl
  first_off (Some x) e = cc

  at_first : (u : ℕ) → at_load c u ≡ true
  at_first u = by_place (ℕ_discrete u t)
    where
      by_place : Dec (u ≡ t) → at_load c u ≡ true
      by_place (yes e) = subst (λ v. at_load c v ≡ true) (sym e) (first_on (c.table t) is_on)
      by_place (no n) = first_off (c.table u) (is_off u n)

  -- a wire that is joined to no driven pin and no table's output that is 0
  unpulled : (outputs : Outputs) (w : ℕ) → ((u : ℕ) → outputs u ≡ true) → ¬ J w (pin_wire g.shape k) → ¬ IsPulled c drive outputs w
  unpulled outputs w quiet apart h = by_pull h.place h.joined h.pulls
    where
      by_pull : (v : ℕ) → J w v → Pulls c drive outputs v → ⊥
      by_pull v j (by_pin i h low at) = apart (subst (λ n. J w (pin_wire g.shape n)) (driven.alone i low) (subst (J w) (sym at) j))
      by_pull v j (by_table u low at) = false≢true (sym low ∙ quiet u)

  -- a loose wire
  loose_groups : (w : ℕ) → IsLoose g.shape f left right w → AreGroups g.shape f (is_closed g) (among (w ∷ [])) (both left right)
  loose_groups w loose = record {
    within = λ x on. inr (grown x (p.groups.within x on));
    left_clear = clear_one g.shape f w loose.clear;
    right_clear = clear_both g.shape f left right p.groups.left_clear p.groups.right_clear;
    apart = unshorted_right g.shape f (among (w ∷ [])) left right (unshorted_one g.shape f w left loose.off_left) (unshorted_one g.shape f w right loose.off_right);
  }
    where
      or_l : (a b : Bool) → a ≡ true → (a || b) ≡ true
      or_l a b e = rw e refl

      or_r : (a b : Bool) → b ≡ true → (a || b) ≡ true
      or_r true b e = refl
      or_r false b e = e

      grown : (x : ℕ) → IsWithin g.shape left x ⊎ IsWithin g.shape right x → IsWithin g.shape (both left right) x
      grown x (inl h) = record { tap = or_l _ _ h.tap; line = or_l _ _ h.line }
      grown x (inr h) = record { tap = or_r _ _ h.tap; line = or_r _ _ h.line }

  pin_in_both : both left right (pin_wire g.shape k) ≡ true
  pin_in_both = rw p.k_left refl

  input_value : (value : ℕ → Bool) → AreValues c drive (at_load c) value → (j : ℕ) → j < 6 → value (table_wire g.shape t j) ≡ bits j
  input_value value are j h = by_bit (p.inputs j h)
    where
      by_bit : ((bits j ≡ false) × (left (table_wire g.shape t j) ≡ true) × J (table_wire g.shape t j) (pin_wire g.shape k)) ⊎ ((bits j ≡ true) × IsLoose g.shape f left right (table_wire g.shape t j)) →
          value (table_wire g.shape t j) ≡ bits j
      by_bit (inl q) = IsValue-unique (are (table_wire g.shape t j)) (low_value (λ v i. left_unstuck p.groups q.1 i) (record { place = pin_wire g.shape k; joined = q.2; pulls = by_pin k p.k_pin driven.low refl })) ∙ sym q.0
      by_bit (inr q) =
          let gs = loose_groups (table_wire g.shape t j) q.1 in
          IsValue-unique (are (table_wire g.shape t j)) (high_value (λ v i. left_unstuck gs (itself_in _) i) (unpulled (at_load c) _ at_first (left_apart gs (itself_in _) pin_in_both))) ∙ sym q.0

  address : (value : ℕ → Bool) → AreValues c drive (at_load c) value → address_at c value t ≡ a
  unfolding address_at
  address value are =
      let e = input_value value are in
      (λ i. number_of (e 0 (omega arith) i ∷ e 1 (omega arith) i ∷ e 2 (omega arith) i ∷ e 3 (omega arith) i ∷ e 4 (omega arith) i ∷ e 5 (omega arith) i ∷ [])) ∙ p.number

  ticked_on : (o : Option Table) (n : ℕ) (old : Bool) → o ≡ Some (table_of f t s) → n ≡ a → tick_output o n old ≡ cell_of s a
  ticked_on None n old e d = cc
  ticked_on (Some x) n old e d = ap (λ o. tick_output o n old) e ∙ simp (p.comb, d, p.not_wrong) refl

  ticked_off : (o : Option Table) (n : ℕ) (old : Bool) → o ≡ None → tick_output o n old ≡ true
  ticked_off None n old e = refl
  ticked_off (Some x) n old e = cc

  module _ (value : ℕ → Bool) (are : AreValues c drive (at_load c) value) (outputs : Outputs) (is : outputs ≡ after_tick c value (at_load c)) where
    out_on : outputs t ≡ cell_of s a
    out_on = ap (λ (o : Outputs). o t) is ∙ ticked_on (c.table t) _ _ is_on (address value are)

    out_off : (u : ℕ) → u ≢ t → outputs u ≡ true
    out_off u n = ap (λ (o : Outputs). o u) is ∙ ticked_off (c.table u) _ _ (is_off u n)

    read_value : (b : Bool) → cell_of s a ≡ b → IsValue c drive outputs (pin_wire g.shape l) b
    read_value false e = low_value (λ v j. left_unstuck (groups_turned p.groups) p.l_right j) (record { place = table_wire g.shape t 6; joined = p.led; pulls = by_table t (out_on ∙ e) refl })
    read_value true e = high_value (λ v j. left_unstuck (groups_turned p.groups) p.l_right j) (unpulled outputs _ quiet (left_apart (groups_turned p.groups) p.l_right p.k_left))
      where
        quiet : (u : ℕ) → outputs u ≡ true
        quiet u = by_place (ℕ_discrete u t)
          where
            by_place : Dec (u ≡ t) → outputs u ≡ true
            by_place (yes d) = subst (λ v. outputs v ≡ true) (sym d) (out_on ∙ e)
            by_place (no n) = out_off u n

  read_after : {outputs : Outputs} → Ticks c drive (at_load c) 1 outputs → IsValue c drive outputs (pin_wire g.shape l) (cell_of s a)
  read_after {outputs} (tick value unticked are is) = read_value value are outputs is (cell_of s a) refl

  pub cell_reads : (r : Pins) → l < pins_of g.shape → IsRun f g (drive ∷ []) (r ∷ []) → get_or r l true ≡ cell_of s a
  cell_reads r h run = by_cycles run.cycles
    where
      by_cycles : {end : Outputs} → Cycles c (at_load c) (drive ∷ []) (r ∷ []) end → get_or r l true ≡ cell_of s a
      by_cycles (cycle q none) = IsValue-unique (pin_value q l h refl) (read_after (subst (λ n. Ticks c drive (at_load c) n q.outputs) p.one q.ticks))
