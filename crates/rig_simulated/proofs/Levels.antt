-- What the classes are is what the wires are.
use Rattle.std.proofs.Common.{◌≡◌, ⊎_elim, ℕ, suc, ◌<◌, Bool, true, false, ◌||◌, cond, Option, Some, None, IsSome, List, [], length, get_or, map, refl, sym, ap, ◌∙◌, subst, arith, unwrap_or}
use Rattle.rig_simulated.proofs.Vocabulary.{range_with_len, get_or-map, length-map, All-map, All-weaker, get_or-map-range_with_len}
use Rattle.rig_simulated.proofs.Vocabulary.{fill_by_all, pin_wire, table_wire, pins_of, Setting, ClassNode, Gate, AreClasses, HoldsAt}
use Rattle.rig_simulated.proofs.Vocabulary.{IsHeldAs}
use Rattle.std.proofs.lemmas.Bool.{false≢true, or_cases, or_left, or_right}
use Rattle.machine_meaning.specs.Vocabulary.{Outputs, Pins, Pulls, by_pin, by_table, IsHeld, IsPulled, IsValue, held_0, held_1, pulled, released, AreValues, Faults, stuck_wire}
use Rattle.machine_config.specs.Vocabulary.{Configuration, setting_of, circuit_of, table_or_off, table_of, number_of, address_at, pins_read, tick_output, edge_output, after_tick, after_edge, unticked, tick}
use Rattle.rig_simulated.specs.Gates.{is_low, IsClear, level_of, level_at, address_by, cell_by, ticked, clocked, IsGate, Stands, AreGates, AreOutputs, IsPulledBy, IsDrivenBy, AreMarkedToo}
use Rattle.rig_simulated.specs.Cycles.{IsWired, AreDriven, IsTick, HaveTicked, not_yet, once_more, IsEdge, HasTicked, HasCycled}

pub no_gate : Gate
no_gate = record { table = record { 0 = 0 }; setting = record { cells = 0; latched = false; init = false }; held = None; ins = []; out = 0; output = true }

-- a table that gives 0 is on
on_if_low : (g : Configuration) (outputs : Outputs) (t : ℕ) → ((t : ℕ) → setting_of g t ≡ None → outputs t ≡ true) → outputs t ≡ false → IsSome (setting_of g t)
on_if_low g outputs t off low = by_setting (setting_of g t) (off t)
  where
    by_setting : (o : Option Setting) → (o ≡ None → outputs t ≡ true) → IsSome o
    by_setting None h = absurd (false≢true (sym low ∙ h refl))
    by_setting (Some s) h = refl

module _ {f : Faults} {g : Configuration} {root : ℕ → ℕ} {knots : List ClassNode} {pins : List ℕ} {gates : List Gate} (wired : IsWired f g root knots pins gates)
    {drive : Pins} {low clear marks : List Bool} {outputs : Outputs} (driven : AreDriven pins drive low) (is_clear : IsClear clear) (marked : AreMarkedToo clear marks (IsPulledBy gates (length gates))) (gives : AreOutputs g gates outputs) where
  classes : AreClasses (circuit_of f g).net root
  classes = wired.knots_are.classes

  by_driven : (w : ℕ) → IsDrivenBy pins drive (length pins) (root w) → IsPulled (circuit_of f g) drive outputs w
  by_driven w d =
      let k_in : d.place < pins_of g.shape = (let h = d.below in let e = wired.count in omega (arith, h, e)) in
      record { place = pin_wire g.shape d.place; joined = classes.joined w (pin_wire g.shape d.place) (sym d.root ∙ wired.pins_are d.place k_in); pulls = by_pin d.place k_in d.low refl }

  by_gate : (w : ℕ) → IsPulledBy gates (length gates) (root w) → IsPulled (circuit_of f g) drive outputs w
  by_gate w p =
      let gate = get_or gates p.place no_gate in
      let is = wired.gates_are.each p.place no_gate p.below in
      record {
        place = table_wire g.shape gate.table.0 6;
        joined = classes.joined w (table_wire g.shape gate.table.0 6) (sym (p.out no_gate) ∙ is.out);
        pulls = by_table gate.table.0 (gives.each p.place no_gate p.below ∙ p.low no_gate) refl;
      }

  pub pulled_from : (w : ℕ) → (is_low low (root w) || is_low marks (root w)) ≡ true → IsPulled (circuit_of f g) drive outputs w
  pulled_from w e = ⊎_elim
      (λ l. by_driven w (driven.to (root w) l))
      (λ l. ⊎_elim (λ o. absurd (false≢true (sym (is_clear (root w)) ∙ o))) (by_gate w) (marked.only (root w) l))
      (or_cases _ _ e)

  by_pull : (w place : ℕ) → root w ≡ root place → Pulls (circuit_of f g) drive outputs place → (is_low low (root w) || is_low marks (root w)) ≡ true
  by_pull w place e (by_pin k k_in d at) =
      or_left _ _ (driven.from (root w) (record { place = k; below = (let h = wired.count in omega (arith, k_in, h)); root = wired.pins_are k k_in ∙ ap root at ∙ sym e; low = d }))
  by_pull w place e (by_table t low_ at) = or_right _ _ (marked.more (root w) pull)
    where
      stands : Stands gates t
      stands = wired.gates_are.all t (on_if_low g outputs t gives.off low_)

      pull : IsPulledBy gates (length gates) (root w)
      pull = record {
        place = stands.place;
        below = stands.within;
        out = λ d. (wired.gates_are.each stands.place d stands.within).out ∙ ap (λ u. root (table_wire g.shape u 6)) (stands.here d) ∙ ap root at ∙ sym e;
        low = λ d. sym (gives.each stands.place d stands.within) ∙ ap outputs (stands.here d) ∙ low_;
      }

  pub pulled_to : (w : ℕ) → IsPulled (circuit_of f g) drive outputs w → (is_low low (root w) || is_low marks (root w)) ≡ true
  pulled_to w p = by_pull w p.place (classes.same w p.place p.joined) p.pulls

  holds_from : (w : ℕ) (v : Bool) → HoldsAt (stuck_wire f) root (root w) v → IsHeld (circuit_of f g) w v
  holds_from w v h = record { place = h.place; joined = classes.joined w h.place (sym h.member); stuck = h.stuck_at }

  holds_to : (w : ℕ) (v : Bool) → IsHeld (circuit_of f g) w v → HoldsAt (stuck_wire f) root (root w) v
  holds_to w v h = record { place = h.place; member = sym (classes.same w h.place h.joined); stuck_at = h.stuck }

  by_level : (w : ℕ) (o : Option Bool) (b : Bool) → IsHeldAs (stuck_wire f) root (root w) o → (b ≡ true → IsPulled (circuit_of f g) drive outputs w) → (IsPulled (circuit_of f g) drive outputs w → b ≡ true) → IsValue (circuit_of f g) drive outputs w (level_of o b)
  by_level w (Some false) b h to from = held_0 (holds_from w false h)
  by_level w (Some true) b h to from = held_1 (λ x. h.0 (holds_to w false x)) (holds_from w true h.1)
  by_level w None true h to from = pulled (λ x. h.0 (holds_to w false x)) (λ x. h.1 (holds_to w true x)) (to refl)
  by_level w None false h to from = released (λ x. h.0 (holds_to w false x)) (λ x. h.1 (holds_to w true x)) (λ p. false≢true (from p))

  -- each wire is what its class is
  pub levels_are : AreValues (circuit_of f g) drive outputs (λ w. level_at knots low marks (root w))
  levels_are w = by_level w _ _ (wired.knots_are.held (root w) (wired.knots_are.roots.itself w)) (pulled_from w) (pulled_to w)

-- what the classes give to tables and pins
pub six_alike : (p q : ℕ → Bool) → ((j : ℕ) → j < 6 → p j ≡ q j) → map p (range_with_len 0 6) ≡ map q (range_with_len 0 6)
six_alike p q same = fill_by_all q (map p (range_with_len 0 6)) 6 true refl (λ k h. get_or-map-range_with_len p 0 6 k k true h (omega arith) ∙ same k h)

abbrev valued : (ℕ → Bool) → (ℕ → ℕ) → ℕ → Bool
valued level root w = level (root w)

module _ (level : ℕ → Bool) (f : Faults) (g : Configuration) (root : ℕ → ℕ) where
  pub address_is : (gate : Gate) → IsGate f g root gate → address_by level gate.ins ≡ address_at (circuit_of f g) (valued level root) gate.table.0
  unfolding address_at
  address_is gate is = ap number_of (six_alike (λ j. level (get_or gate.ins j 0)) (λ j. valued level root (table_wire g.shape gate.table.0 j)) (λ j h. ap level (is.ins j h)))

  pub tick_is : (gate : Gate) (outputs : Outputs) → IsGate f g root gate → outputs gate.table.0 ≡ gate.output → after_tick (circuit_of f g) (valued level root) outputs gate.table.0 ≡ (ticked f level gate).output
  tick_is gate outputs is gives =
      ap (λ o. tick_output (table_or_off f gate.table.0 o) (address_at (circuit_of f g) (valued level root) gate.table.0) (outputs gate.table.0)) is.setting
      ∙ ap (λ a. tick_output (Some (table_of f gate.table.0 gate.setting)) a (outputs gate.table.0)) (sym (address_is gate is))
      ∙ ap (λ b. tick_output (Some (table_of f gate.table.0 gate.setting)) (address_by level gate.ins) b) gives

  pub edge_is : (gate : Gate) (outputs : Outputs) → IsGate f g root gate → outputs gate.table.0 ≡ gate.output → after_edge (circuit_of f g) (valued level root) outputs gate.table.0 ≡ (clocked f level gate).output
  edge_is gate outputs is gives =
      ap (λ o. edge_output (table_or_off f gate.table.0 o) (address_at (circuit_of f g) (valued level root) gate.table.0) (outputs gate.table.0)) is.setting
      ∙ ap (λ a. edge_output (Some (table_of f gate.table.0 gate.setting)) a (outputs gate.table.0)) (sym (address_is gate is))
      ∙ ap (λ b. edge_output (Some (table_of f gate.table.0 gate.setting)) (address_by level gate.ins) b) gives
      ∙ ap (λ h. cond gate.setting.latched (unwrap_or h (cell_by f gate (address_by level gate.ins))) gate.output) (sym is.held)

  -- the list of tables, each changed in its output alone
  module _ (step : Gate → Gate) (table : (x : Gate) → (step x).table ≡ x.table) (kept : (x : Gate) → IsGate f g root x → IsGate f g root (step x)) (gates : List Gate) where
    pub gates_stay : AreGates f g root gates → AreGates f g root (map step gates)
    gates_stay are = record {
      each = All-map (IsGate f g root) step gates (All-weaker (IsGate f g root) (λ x. IsGate f g root (step x)) kept gates are.each);
      all = λ t on. let s = are.all t on in record {
        place = s.place;
        within = (let h = s.within in let l = length-map gates step in omega (arith, h, l));
        here = λ d. ap (λ x. x.table.0) (get_or-map step gates s.place no_gate d s.within) ∙ ap (λ k. k.0) (table (get_or gates s.place no_gate)) ∙ s.here no_gate;
      };
    }

  ticked_gate : (x : Gate) → IsGate f g root x → IsGate f g root (ticked f level x)
  ticked_gate x is = record { table = is.table; setting = is.setting; held = is.held; ins = is.ins; out = is.out }

  clocked_gate : (x : Gate) → IsGate f g root x → IsGate f g root (clocked f level x)
  clocked_gate x is = record { table = is.table; setting = is.setting; held = is.held; ins = is.ins; out = is.out }

  pub ticked_gates : (gates : List Gate) → AreGates f g root gates → AreGates f g root (map (ticked f level) gates)
  ticked_gates gates are = gates_stay (ticked f level) (λ x. refl) ticked_gate gates are

  pub clocked_gates : (gates : List Gate) → AreGates f g root gates → AreGates f g root (map (clocked f level) gates)
  clocked_gates gates are = gates_stay (clocked f level) (λ x. refl) clocked_gate gates are

  off_tick : (t : ℕ) (outputs : Outputs) → setting_of g t ≡ None → after_tick (circuit_of f g) (valued level root) outputs t ≡ true
  off_tick t outputs e = ap (λ o. tick_output (table_or_off f t o) (address_at (circuit_of f g) (valued level root) t) (outputs t)) e

  off_edge : (t : ℕ) (outputs : Outputs) → setting_of g t ≡ None → after_edge (circuit_of f g) (valued level root) outputs t ≡ true
  off_edge t outputs e = ap (λ o. edge_output (table_or_off f t o) (address_at (circuit_of f g) (valued level root) t) (outputs t)) e

  pub ticked_outputs : (gates : List Gate) (outputs : Outputs) → AreGates f g root gates → AreOutputs g gates outputs → AreOutputs g (map (ticked f level) gates) (after_tick (circuit_of f g) (valued level root) outputs)
  ticked_outputs gates outputs are gives = record {
    each = All-map (λ x. after_tick (circuit_of f g) (valued level root) outputs x.table.0 ≡ x.output) (ticked f level) gates (λ k d h. tick_is (get_or gates k d) outputs (are.each k d h) (gives.each k d h));
    off = λ t e. off_tick t outputs e;
  }

  pub clocked_outputs : (gates : List Gate) (outputs : Outputs) → AreGates f g root gates → AreOutputs g gates outputs → AreOutputs g (map (clocked f level) gates) (after_edge (circuit_of f g) (valued level root) outputs)
  clocked_outputs gates outputs are gives = record {
    each = All-map (λ x. after_edge (circuit_of f g) (valued level root) outputs x.table.0 ≡ x.output) (clocked f level) gates (λ k d h. edge_is (get_or gates k d) outputs (are.each k d h) (gives.each k d h));
    off = λ t e. off_edge t outputs e;
  }

  pub reading_is : (pins : List ℕ) → length pins ≡ pins_of g.shape → ((k : ℕ) → k < pins_of g.shape → get_or pins k 0 ≡ root (pin_wire g.shape k)) → map level pins ≡ pins_read (circuit_of f g) (valued level root)
  reading_is pins count are = fill_by_all (λ k. valued level root (pin_wire g.shape k)) (map level pins) (pins_of g.shape) true (length-map pins level ∙ count)
      (λ k h. get_or-map level pins k 0 true (omega (arith, h, count)) ∙ ap level (are k h))

-- a tick
module _ {f : Faults} {g : Configuration} {root : ℕ → ℕ} {knots : List ClassNode} {pins : List ℕ} {drive : Pins} {low : List Bool} (driven : AreDriven pins drive low) where
  one_tick : {n : ℕ} {before : Outputs} {old new : List Gate} → HasTicked f g root knots pins drive n before old → IsTick f knots low old new → HasTicked f g root knots pins drive (suc n) before new
  one_tick {old = old} h t =
      let level = level_at knots low t.marks in
      let v : ℕ → Bool = λ w. level (root w) in
      record {
        outputs = after_tick (circuit_of f g) v h.outputs;
        ticks = tick v h.ticks (levels_are h.wired driven t.is_clear t.marked h.gives) refl;
        wired = record { most = h.wired.most; knots_are = h.wired.knots_are; gates_are = subst (AreGates f g root) (sym t.next) (ticked_gates level f g root old h.wired.gates_are); count = h.wired.count; pins_are = h.wired.pins_are };
        gives = subst (λ gs. AreOutputs g gs (after_tick (circuit_of f g) v h.outputs)) (sym t.next) (ticked_outputs level f g root old h.outputs h.wired.gates_are h.gives);
      }

  -- so many ticks of the tables are so many of the configuration
  pub has_ticked : {before : Outputs} {old : List Gate} {n : ℕ} {new : List Gate} → IsWired f g root knots pins old → AreOutputs g old before → HaveTicked f knots low old n new → HasTicked f g root knots pins drive n before new
  has_ticked {before = before} wired gives not_yet = record { outputs = before; ticks = unticked; wired = wired; gives = gives }
  has_ticked wired gives (once_more h t) = one_tick (has_ticked wired gives h) t

-- a clock edge
module _ {f : Faults} {g : Configuration} {root : ℕ → ℕ} {knots : List ClassNode} {pins : List ℕ} {drive : Pins} {low clear : List Bool} (driven : AreDriven pins drive low) (is_clear : IsClear clear) where
  pub edge_cycle : {before : Outputs} {old new : List Gate} {read : Pins} → HasTicked f g root knots pins drive g.ticks before old → IsEdge f knots low clear pins read old new → HasCycled f g root knots pins drive read before new
  edge_cycle {old = old} h t =
      let level = level_at knots low t.marks in
      let v : ℕ → Bool = λ w. level (root w) in
      record {
        outputs = after_edge (circuit_of f g) v h.outputs;
        cycle = record { outputs = h.outputs; value = v; ticks = h.ticks; values = levels_are h.wired driven is_clear t.marked h.gives; reads = t.reads ∙ reading_is level f g root pins h.wired.count h.wired.pins_are; edge = refl };
        wired = record { most = h.wired.most; knots_are = h.wired.knots_are; gates_are = subst (AreGates f g root) (sym t.next) (clocked_gates level f g root old h.wired.gates_are); count = h.wired.count; pins_are = h.wired.pins_are };
        gives = subst (λ gs. AreOutputs g gs (after_edge (circuit_of f g) v h.outputs)) (sym t.next) (clocked_outputs level f g root old h.outputs h.wired.gates_are h.gives);
      }
