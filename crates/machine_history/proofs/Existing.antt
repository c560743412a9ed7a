-- A configuration of a machine has a run over each history, under each list of drives.
use Rattle.std.proofs.Common.{◌≡◌, ℕ, zero, suc, ◌<◌, ◌≤◌, Bool, true, Option, Some, None, List, [], ◌∷◌, refl, ap, ◌∙◌, subst, arith, unwrap_or}
use Rattle.machine_history.proofs.Vocabulary.{get_or_past, in_order, turned, wires_of, crosses_of, tables_of, first_below}
use Rattle.machine_meaning.specs.Vocabulary.{Linked, crossed, bridged, Faults, AreFaultsOf, stuck_cross, Table, Outputs, Pins, IsFinite}
use Rattle.machine_meaning.proofs.ValuesExist.{values_exist}
use Rattle.machine_config.specs.Vocabulary.{Configuration, IsConfiguration, is_closed, pins_read, first_output, tick_output, edge_output, at_load, after_tick, after_edge, table_or_off, circuit_of}
use Rattle.machine_history.specs.Vocabulary.{History, IsHistoryOf, settled, settled_output, TicksOver, unticked_over, tick_over, CycleOver, CyclesOver, none_over, cycle_over, IsRunOver}

off : (o : Option Table) (a : ℕ) (b : Bool) → o ≡ None → (tick_output o a b ≡ true) × (edge_output o a b ≡ true) × (first_output o ≡ true) × (settled_output o b ≡ b)
off None a b e = (refl, refl, refl, refl)
off (Some t) a b e = cc

module _ (g : Configuration) (is : IsConfiguration g) where
  -- a table beyond the machine's gives 1
  abbrev AreWithin : Outputs → Type 0
  AreWithin outputs = (t : ℕ) → tables_of g.shape ≤ t → outputs t ≡ true

  module _ (f : Faults) (faults : AreFaultsOf g.shape f) where
    conducting_below : (x : ℕ) → (o : Option Bool) → stuck_cross f x ≡ o → unwrap_or o (is_closed g x) ≡ true → x < crosses_of g.shape
    conducting_below x None e on = is.crosses x on
    conducting_below x (Some v) e on = faults.crosses x (rw e refl)

    linked_below : (a b : ℕ) → Linked (circuit_of f g).net a b → a < wires_of g.shape
    linked_below a b (crossed x on at) = first_below g.shape x a b (conducting_below x (stuck_cross f x) refl on) at
    linked_below a b (bridged p is (in_order s t)) = subst (λ w. w < wires_of g.shape) s (faults.bridges p.0 p.1 is).0
    linked_below a b (bridged p is (turned s t)) = subst (λ w. w < wires_of g.shape) t (faults.bridges p.0 p.1 is).1

    no_table : (t : ℕ) → tables_of g.shape ≤ t → (circuit_of f g).table t ≡ None
    no_table t h = ap (table_or_off f t) (get_or_past g.tables t None (let e = is.tables in omega (arith, e, h)))

    finite : IsFinite (circuit_of f g)
    finite = record { crosses = λ x on. conducting_below x (stuck_cross f x) refl on; wires = linked_below; tables = no_table }

    settled_within : (o : Outputs) → AreWithin o → AreWithin (settled f g o)
    settled_within o within t h = (off ((circuit_of f g).table t) 0 (o t) (no_table t h)).3 ∙ within t h

    load_within : AreWithin (at_load (circuit_of f g))
    load_within t h = (off ((circuit_of f g).table t) 0 true (no_table t h)).2

  module _ (faults : ℕ → Faults) (are : (instant : ℕ) → AreFaultsOf g.shape (faults instant)) where
    ticks_exist : (drive : Pins) (n : ℕ) (before : Outputs) → AreWithin before → (after : Outputs) × AreWithin after × TicksOver faults g drive before n after
    ticks_exist drive zero before within = (before, within, unticked_over)
    ticks_exist drive (suc n) before within =
        let some = ticks_exist drive n before within in
        let v = values_exist (circuit_of (faults n) g) (finite (faults n) (are n)) drive (settled (faults n) g some.0) (settled_within (faults n) (are n) some.0 some.1) in
        (after_tick (circuit_of (faults n) g) v.0 (settled (faults n) g some.0), (λ t h. (off ((circuit_of (faults n) g).table t) _ _ (no_table (faults n) (are n) t h)).0), tick_over v.0 some.2 v.1 refl)

    cycle_exists : (drive : Pins) (before : Outputs) → AreWithin before → (read : Pins) × (after : Outputs) × AreWithin after × CycleOver faults g before drive read after
    cycle_exists drive before within =
        let f = faults g.ticks in
        let ts = ticks_exist drive g.ticks before within in
        let v = values_exist (circuit_of f g) (finite f (are g.ticks)) drive (settled f g ts.0) (settled_within f (are g.ticks) ts.0 ts.1) in
        (pins_read (circuit_of f g) v.0, after_edge (circuit_of f g) v.0 (settled f g ts.0), (λ t h. (off ((circuit_of f g).table t) _ _ (no_table f (are g.ticks) t h)).1), record { outputs = ts.0; value = v.0; ticks = ts.2; values = v.1; reads = refl; edge = refl })

  module _ (h : History) (are : IsHistoryOf g.shape h) where
    cycles_exist : (k : ℕ) (drives : List Pins) (before : Outputs) → AreWithin before → (reads : List Pins) × (after : Outputs) × CyclesOver h g k before drives reads after
    cycles_exist k [] before within = ([], before, none_over)
    cycles_exist k (drive ∷ drives) before within =
        let one = cycle_exists (h k) (are k) drive before within in
        let more = cycles_exist (suc k) drives one.1 one.2 in
        (one.0 ∷ more.0, more.1, cycle_over one.3 more.2)

    pub run_over_exists : (drives : List Pins) → (reads : List Pins) × IsRunOver h g drives reads
    run_over_exists drives =
        let all = cycles_exist 0 drives (at_load (circuit_of (h 0 0) g)) (load_within (h 0 0) (are 0 0)) in
        (all.0, record { outputs = all.1; cycles = all.2 })
