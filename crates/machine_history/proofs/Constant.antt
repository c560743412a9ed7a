-- Where the faults are the same at each instant, a run over the history is a run under them.
use Rattle.std.proofs.Common.{◌≡◌, ℕ, suc, Bool, true, false, Option, Some, None, List, refl, sym, ap, ◌∙◌, subst, unwrap_or, if◌then◌else◌}
use Rattle.machine_history.proofs.Vocabulary.{fun_ext, Faults, Circuit, Table, Outputs, Pins, AreValues, Setting}
use Rattle.machine_config.specs.Vocabulary.{Configuration, setting_of, held_by, table_or_off, circuit_of, IsRun, first_output, tick_output, edge_output, at_load, after_tick, after_edge, Ticks, unticked, tick, Cycle, Cycles, none, cycle}
use Rattle.machine_history.specs.Vocabulary.{History, IsConstant, settled, settled_output, TicksOver, unticked_over, tick_over, CycleOver, CyclesOver, none_over, cycle_over, IsRunOver}

-- what a table with a stuck register took, it takes again
twice : (h : Option Bool) (b : Bool) → unwrap_or h (unwrap_or h b) ≡ unwrap_or h b
twice None b = refl
twice (Some v) b = refl

load_stays : (l : Bool) (h : Option Bool) (b : Bool) → (if l then unwrap_or h (unwrap_or h b) else unwrap_or h b) ≡ unwrap_or h b
load_stays true h b = twice h b
load_stays false h b = refl

tick_stays : (l : Bool) (h : Option Bool) (cell old : Bool) → (if l then unwrap_or h old else old) ≡ old →
    (if l then unwrap_or h (if l then old else cell) else (if l then old else cell)) ≡ (if l then old else cell)
tick_stays true h cell old e = e
tick_stays false h cell old e = refl

edge_stays : (l : Bool) (h : Option Bool) (cell old : Bool) →
    (if l then unwrap_or h (if l then unwrap_or h cell else old) else (if l then unwrap_or h cell else old)) ≡ (if l then unwrap_or h cell else old)
edge_stays true h cell old = twice h cell
edge_stays false h cell old = refl

settled_load : (f : Faults) (t : ℕ) (o : Option Setting) → settled_output (table_or_off f t o) (first_output (table_or_off f t o)) ≡ first_output (table_or_off f t o)
settled_load f t None = refl
settled_load f t (Some s) = load_stays s.latched (held_by f t s) s.init

settled_tick : (o : Option Table) (a : ℕ) (old : Bool) → settled_output o old ≡ old → settled_output o (tick_output o a old) ≡ tick_output o a old
settled_tick None a old e = refl
settled_tick (Some t) a old e = tick_stays t.latched t.held (t.cell a) old e

settled_edge : (o : Option Table) (a : ℕ) (old : Bool) → settled_output o (edge_output o a old) ≡ edge_output o a old
settled_edge None a old = refl
settled_edge (Some t) a old = edge_stays t.latched t.held (t.cell a) old

module _ (f : Faults) (g : Configuration) where
  abbrev c : Circuit
  c = circuit_of f g

  -- each latched table with a stuck register has its value
  abbrev IsSettled : Outputs → Type 0
  IsSettled o = settled f g o ≡ o

  abbrev same : ℕ → Faults
  same instant = f

  load_is : IsSettled (at_load c)
  load_is = fun_ext (λ t. settled_load f t (setting_of g t))

  tick_is : (value : ℕ → Bool) {mid after : Outputs} → IsSettled mid → after ≡ after_tick c value mid → IsSettled after
  tick_is value {mid} is e = subst IsSettled (sym e) (fun_ext (λ t. settled_tick (c.table t) _ (mid t) (ap (λ o. o t) is)))

  edge_is : (value : ℕ → Bool) (mid : Outputs) {after : Outputs} → after ≡ after_edge c value mid → IsSettled after
  edge_is value mid e = subst IsSettled (sym e) (fun_ext (λ t. settled_edge (c.table t) _ (mid t)))

  ticks_of : {drive : Pins} {before after : Outputs} {n : ℕ} → IsSettled before → TicksOver same g drive before n after → Ticks c drive before n after × IsSettled after
  ticks_of is unticked_over = (unticked, is)
  ticks_of {drive} is (tick_over value ps are e) =
      let so_far = ticks_of is ps in
      let now = e ∙ ap (after_tick c value) so_far.1 in
      (tick value so_far.0 (subst (λ o. AreValues c drive o value) so_far.1 are) now, tick_is value so_far.1 now)

  ticks_over : {drive : Pins} {before after : Outputs} {n : ℕ} → IsSettled before → Ticks c drive before n after → TicksOver same g drive before n after × IsSettled after
  ticks_over is unticked = (unticked_over, is)
  ticks_over {drive} is (tick value ps are e) =
      let so_far = ticks_over is ps in
      (tick_over value so_far.0 (subst (λ o. AreValues c drive o value) (sym so_far.1) are) (e ∙ ap (after_tick c value) (sym so_far.1)), tick_is value so_far.1 e)

  cycle_of : {before after : Outputs} {drive read : Pins} → IsSettled before → CycleOver same g before drive read after → Cycle c before drive read after × IsSettled after
  cycle_of {drive = drive} is s =
      let ts = ticks_of is s.ticks in
      let now = s.edge ∙ ap (after_edge c s.value) ts.1 in
      (record { outputs = s.outputs; value = s.value; ticks = ts.0; values = subst (λ o. AreValues c drive o s.value) ts.1 s.values; reads = s.reads; edge = now }, edge_is s.value s.outputs now)

  cycle_in : {before after : Outputs} {drive read : Pins} → IsSettled before → Cycle c before drive read after → CycleOver same g before drive read after × IsSettled after
  cycle_in {drive = drive} is s =
      let ts = ticks_over is s.ticks in
      (record { outputs = s.outputs; value = s.value; ticks = ts.0; values = subst (λ o. AreValues c drive o s.value) (sym ts.1) s.values; reads = s.reads; edge = s.edge ∙ ap (after_edge c s.value) (sym ts.1) }, edge_is s.value s.outputs s.edge)

  cycles_of : {k : ℕ} {before after : Outputs} {drives reads : List Pins} → IsSettled before → CyclesOver (λ k. same) g k before drives reads after → Cycles c before drives reads after
  cycles_of is none_over = none
  cycles_of is (cycle_over s ss) = let one = cycle_of is s in cycle one.0 (cycles_of one.1 ss)

  cycles_in : {before after : Outputs} {drives reads : List Pins} (k : ℕ) → IsSettled before → Cycles c before drives reads after → CyclesOver (λ k. same) g k before drives reads after
  cycles_in k is none = none_over
  cycles_in k is (cycle s ss) = let one = cycle_in is s in cycle_over one.0 (cycles_in (suc k) one.1 ss)

  module _ (h : History) (constant : IsConstant f h) (drives reads : List Pins) where
    always : h ≡ (λ k. same)
    always = fun_ext (λ k. fun_ext (λ instant. constant k instant))

    pub run_of : IsRunOver h g drives reads → IsRun f g drives reads
    run_of run = let r = subst (λ z. IsRunOver z g drives reads) always run in record { outputs = r.outputs; cycles = cycles_of load_is r.cycles }

    pub run_in : IsRun f g drives reads → IsRunOver h g drives reads
    run_in run = subst (λ z. IsRunOver z g drives reads) (sym always) (record { outputs = run.outputs; cycles = cycles_in 0 load_is run.cycles })
