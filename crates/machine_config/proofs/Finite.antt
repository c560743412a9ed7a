-- A configuration of a machine has a run under each list of drives.
use Rattle.std.proofs.Common.{◌≡◌, ℕ, zero, suc, ◌<◌, ◌≤◌, Bool, true, Option, Some, None, List, [], ◌∷◌, refl, ap, subst, arith, unwrap_or}
use Rattle.machine_config.proofs.Vocabulary.{get_or_past, in_order, turned, wires_of, crosses_of, tables_of}
use Rattle.machine_meaning.specs.Vocabulary.{Linked, crossed, bridged, Faults, AreFaultsOf, stuck_cross, Circuit, Table, Outputs, Pins, IsFinite}
use Rattle.machine_shape.proofs.Crossings.{first_below}
use Rattle.machine_meaning.proofs.ValuesExist.{values_exist}
use Rattle.machine_config.specs.Vocabulary.{Configuration, IsConfiguration, is_closed, pins_read, first_output, tick_output, edge_output, at_load, after_tick, after_edge, Ticks, unticked, tick, Cycle, Cycles, none, cycle, Runs, table_or_off, circuit_of, IsRun}

-- what is stuck, closed, bridged or on is of the machine
module _ (f : Faults) (g : Configuration) (faults : AreFaultsOf g.shape f) (is : IsConfiguration g) where
  conducting_below : (x : ℕ) → (o : Option Bool) → stuck_cross f x ≡ o → unwrap_or o (is_closed g x) ≡ true → x < crosses_of g.shape
  conducting_below x None e on = is.crosses x on
  conducting_below x (Some v) e on = faults.crosses x (rw e refl)

  conducts_below : (x : ℕ) → (circuit_of f g).net.conducts x ≡ true → x < crosses_of g.shape
  conducts_below x on = conducting_below x (stuck_cross f x) refl on

  linked_below : (a b : ℕ) → Linked (circuit_of f g).net a b → a < wires_of g.shape
  linked_below a b (crossed x on at) = first_below g.shape x a b (conducts_below x on) at
  linked_below a b (bridged p is (in_order s t)) = subst (λ w. w < wires_of g.shape) s (faults.bridges p.0 p.1 is).0
  linked_below a b (bridged p is (turned s t)) = subst (λ w. w < wires_of g.shape) t (faults.bridges p.0 p.1 is).1

  pub circuit_finite : IsFinite (circuit_of f g)
  circuit_finite = record {
    crosses = conducts_below;
    wires = linked_below;
    tables = λ t h. ap (table_or_off f t) (get_or_past g.tables t None (let e = is.tables in omega (arith, e, h)));
  }

-- a table beyond the machine's gives 1
abbrev pub AreWithin : Circuit → Outputs → Type 0
AreWithin c outputs = (t : ℕ) → tables_of c.net.shape ≤ t → outputs t ≡ true

off : (o : Option Table) (a : ℕ) (b : Bool) → o ≡ None → (tick_output o a b ≡ true) × (edge_output o a b ≡ true) × (first_output o ≡ true)
off None a b e = (refl, refl, refl)
off (Some t) a b e = cc

module _ (c : Circuit) (finite : IsFinite c) where
  ticks_exist : (drive : Pins) (n : ℕ) (before : Outputs) → AreWithin c before → (after : Outputs) × AreWithin c after × Ticks c drive before n after
  ticks_exist drive zero before within = (before, within, unticked)
  ticks_exist drive (suc n) before within =
      let some = ticks_exist drive n before within in
      let v = values_exist c finite drive some.0 some.1 in
      (after_tick c v.0 some.0, (λ t h. (off (c.table t) _ _ (finite.tables t h)).0), tick v.0 some.2 v.1 refl)

  pub cycle_exists : (drive : Pins) (before : Outputs) → AreWithin c before → (read : Pins) × (after : Outputs) × AreWithin c after × Cycle c before drive read after
  cycle_exists drive before within =
      let ts = ticks_exist drive c.ticks before within in
      let v = values_exist c finite drive ts.0 ts.1 in
      (pins_read c v.0, after_edge c v.0 ts.0, (λ t h. (off (c.table t) _ _ (finite.tables t h)).1), record { outputs = ts.0; value = v.0; ticks = ts.2; values = v.1; reads = refl; edge = refl })

  cycles_exist : (drives : List Pins) (before : Outputs) → AreWithin c before → (reads : List Pins) × (after : Outputs) × Cycles c before drives reads after
  cycles_exist [] before within = ([], before, none)
  cycles_exist (drive ∷ drives) before within =
      let one = cycle_exists drive before within in
      let more = cycles_exist drives one.1 one.2 in
      (one.0 ∷ more.0, more.1, cycle one.3 more.2)

  runs_exist : (drives : List Pins) → (reads : List Pins) × Runs c drives reads
  runs_exist drives =
      let all = cycles_exist drives (at_load c) (λ t h. (off (c.table t) 0 true (finite.tables t h)).2) in
      (all.0, record { outputs = all.1; cycles = all.2 })

pub run_exists : (f : Faults) (g : Configuration) → AreFaultsOf g.shape f → IsConfiguration g → (drives : List Pins) → (reads : List Pins) × IsRun f g drives reads
run_exists f g faults is drives = runs_exist (circuit_of f g) (circuit_finite f g faults is) drives
