-- A run over a history is one, and its first cycles are one.
use Rattle.std.proofs.Common.{◌≡◌, ℕ, suc, Bool, List, [], ◌∷◌, ◌++◌, length, take, refl, sym, ap, ◌∙◌, subst}
use Rattle.machine_history.proofs.Vocabulary.{AllByRecursion, length-map-range_with_len, pin_wire, pins_of, Faults, Outputs, Pins}
use Rattle.machine_history.proofs.Vocabulary.{AreValues, AreValues-unique, Configuration, circuit_of, pins_read, after_tick, after_edge}
use Rattle.machine_history.specs.Vocabulary.{History, settled, TicksOver, unticked_over, tick_over, CycleOver, CyclesOver, none_over, cycle_over, IsRunOver}

module _ (g : Configuration) where
  same_values : (f : Faults) {drive : Pins} {x y : Outputs} {v w : ℕ → Bool} → x ≡ y → AreValues (circuit_of f g) drive (settled f g x) v → AreValues (circuit_of f g) drive (settled f g y) w → v ≡ w
  same_values f {drive} {v = v} e p q = AreValues-unique (subst (λ o. AreValues (circuit_of f g) drive (settled f g o) v) e p) q

  module _ (faults : ℕ → Faults) where
    TicksOver-unique : {drive : Pins} {before : Outputs} {n : ℕ} {x y : Outputs} → TicksOver faults g drive before n x → TicksOver faults g drive before n y → x ≡ y
    TicksOver-unique unticked_over unticked_over = refl
    TicksOver-unique (tick_over {n = n} v ps p e) (tick_over w qs q f) =
        let same = TicksOver-unique ps qs in
        let values = same_values (faults n) same p q in
        e ∙ (λ i. after_tick (circuit_of (faults n) g) (values i) (settled (faults n) g (same i))) ∙ sym f

    CycleOver-unique : {before : Outputs} {drive r q : Pins} {x y : Outputs} → CycleOver faults g before drive r x → CycleOver faults g before drive q y → (r ≡ q) × (x ≡ y)
    CycleOver-unique s t =
        let same = TicksOver-unique s.ticks t.ticks in
        let values = same_values (faults g.ticks) same s.values t.values in
        (s.reads ∙ ap (pins_read (circuit_of (faults g.ticks) g)) values ∙ sym t.reads, s.edge ∙ (λ i. after_edge (circuit_of (faults g.ticks) g) (values i) (settled (faults g.ticks) g (same i))) ∙ sym t.edge)

  module _ (h : History) where
    CyclesOver-unique : {k : ℕ} {before x y : Outputs} {drives rs qs : List Pins} → CyclesOver h g k before drives rs x → CyclesOver h g k before drives qs y → (rs ≡ qs) × (x ≡ y)
    CyclesOver-unique none_over none_over = (refl, refl)
    CyclesOver-unique {k} {y = y} (cycle_over {drives = drives} s ss) (cycle_over {reads = qs} t ts) =
        let one = CycleOver-unique (h k) s t in
        let more = CyclesOver-unique ss (subst (λ o. CyclesOver h g (suc k) o drives qs y) (sym one.1) ts) in
        ((λ i. one.0 i ∷ more.0 i), more.1)

    pub run_over_unique : {drives rs qs : List Pins} → IsRunOver h g drives rs → IsRunOver h g drives qs → rs ≡ qs
    run_over_unique p q = (CyclesOver-unique p.cycles q.cycles).0

    -- as many readings as drives, each of all pins
    pub CyclesOver-length : {k : ℕ} {before after : Outputs} {ds rs : List Pins} → CyclesOver h g k before ds rs after → length rs ≡ length ds
    CyclesOver-length none_over = refl
    CyclesOver-length (cycle_over s ss) = ap suc (CyclesOver-length ss)

    pub CyclesOver-pins : {k : ℕ} {before after : Outputs} {ds rs : List Pins} → CyclesOver h g k before ds rs after → AllByRecursion (λ r. length r ≡ pins_of g.shape) rs
    CyclesOver-pins none_over = tt
    CyclesOver-pins (cycle_over s ss) = (ap length s.reads ∙ length-map-range_with_len (λ k. s.value (pin_wire g.shape k)) 0 (pins_of g.shape), CyclesOver-pins ss)

    -- the first of the drives give the first of the readings
    pub CyclesOver-split : {k : ℕ} {before after : Outputs} (ds es : List Pins) {rs : List Pins} → CyclesOver h g k before (ds ++ es) rs after → (mid : Outputs) × CyclesOver h g k before ds (take (length ds) rs) mid
    CyclesOver-split {before = before} [] es p = (before, none_over)
    CyclesOver-split (d ∷ ds) es (cycle_over s ss) = let more = CyclesOver-split ds es ss in (more.0, cycle_over s more.1)
