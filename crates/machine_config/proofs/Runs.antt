-- Laws of runs.
use Rattle.std.proofs.Common.{◌≡◌, ℕ, suc, Bool, List, [], ◌∷◌, ◌++◌, length, take, refl, sym, ap, ◌∙◌, subst}
use Rattle.machine_config.proofs.Vocabulary.{AllByRecursion, pin_wire, pins_of, AreValues-unique}
use Rattle.std.proofs.lemmas.List.FromFn.{length-map-range_with_len}
use Rattle.machine_meaning.specs.Vocabulary.{Circuit, Outputs, Pins, AreValues}
use Rattle.machine_config.specs.Run.{pins_read, after_tick, after_edge, Ticks, unticked, tick, Cycle, Cycles, none, cycle, Runs}

module _ (c : Circuit) where
  same_values : {drive : Pins} {x y : Outputs} {v w : ℕ → Bool} → x ≡ y → AreValues c drive x v → AreValues c drive y w → v ≡ w
  same_values {drive} {v = v} e p q = AreValues-unique (subst (λ o. AreValues c drive o v) e p) q

  pub Ticks-unique : {drive : Pins} {before : Outputs} {n : ℕ} {x y : Outputs} → Ticks c drive before n x → Ticks c drive before n y → x ≡ y
  Ticks-unique unticked unticked = refl
  Ticks-unique (tick v ps p e) (tick w qs q f) =
      let same = Ticks-unique ps qs in
      let values = same_values same p q in
      e ∙ (λ i. after_tick c (values i) (same i)) ∙ sym f

  pub Cycle-unique : {before : Outputs} {drive r q : Pins} {x y : Outputs} → Cycle c before drive r x → Cycle c before drive q y → (r ≡ q) × (x ≡ y)
  Cycle-unique s t =
      let same = Ticks-unique s.ticks t.ticks in
      let values = same_values same s.values t.values in
      (s.reads ∙ ap (pins_read c) values ∙ sym t.reads, s.edge ∙ (λ i. after_edge c (values i) (same i)) ∙ sym t.edge)

  pub Cycles-unique : {before x y : Outputs} {drives rs qs : List Pins} → Cycles c before drives rs x → Cycles c before drives qs y → (rs ≡ qs) × (x ≡ y)
  Cycles-unique none none = (refl, refl)
  Cycles-unique {y = y} (cycle {drives = drives} s ss) (cycle {reads = qs} t ts) =
      let one = Cycle-unique s t in
      let more = Cycles-unique ss (subst (λ o. Cycles c o drives qs y) (sym one.1) ts) in
      ((λ i. one.0 i ∷ more.0 i), more.1)

  -- a circuit gives one list of readings at most
  pub Runs-unique : {drives rs qs : List Pins} → Runs c drives rs → Runs c drives qs → rs ≡ qs
  Runs-unique p q = (Cycles-unique p.cycles q.cycles).0

  pub Cycles-append : {before mid after : Outputs} {ds es rs qs : List Pins} → Cycles c before ds rs mid → Cycles c mid es qs after → Cycles c before (ds ++ es) (rs ++ qs) after
  Cycles-append none q = q
  Cycles-append (cycle s ss) q = cycle s (Cycles-append ss q)

  -- one more cycle
  pub Cycles-push : {before mid after : Outputs} {ds rs : List Pins} {drive read : Pins} → Cycles c before ds rs mid → Cycle c mid drive read after → Cycles c before (ds ++ drive ∷ []) (rs ++ read ∷ []) after
  Cycles-push p s = Cycles-append p (cycle s none)

  -- as many readings as drives, each of all pins
  pub Cycles-length : {before after : Outputs} {ds rs : List Pins} → Cycles c before ds rs after → length rs ≡ length ds
  Cycles-length none = refl
  Cycles-length (cycle s ss) = ap suc (Cycles-length ss)

  pub Cycles-pins : {before after : Outputs} {ds rs : List Pins} → Cycles c before ds rs after → AllByRecursion (λ r. length r ≡ pins_of c.net.shape) rs
  Cycles-pins none = tt
  Cycles-pins (cycle s ss) = (ap length s.reads ∙ length-map-range_with_len (λ k. s.value (pin_wire c.net.shape k)) 0 (pins_of c.net.shape), Cycles-pins ss)

  -- the first of the drives give the first of the readings
  pub Cycles-split : {before after : Outputs} (ds es : List Pins) {rs : List Pins} → Cycles c before (ds ++ es) rs after → (mid : Outputs) × Cycles c before ds (take (length ds) rs) mid
  Cycles-split {before} [] es p = (before, none)
  Cycles-split (d ∷ ds) es (cycle s ss) = let more = Cycles-split ds es ss in (more.0, cycle s more.1)
