-- Wires that hang on pins: what each is joined to, and what it reads while tables that are latched hang on them.
use Rattle.std.proofs.Common.{◌≡◌, ◌≢◌, ℕ, zero, suc, ◌<◌, Bool, true, false, not, Some, None, Option, List, [], ◌∷◌, length, get_or, refl, sym, ap, ◌∙◌, subst, inl, inr, ◌⊎◌, arith, ◌==◌, if◌then◌else◌, unwrap_or, map}
use Rattle.diag_evidence.proofs.Vocabulary.{range_with_len, false≢true, nat_tests, ends_of, pin_wire, table_wire, pins_of, Joined-sym}
use Rattle.diag_evidence.proofs.Vocabulary.{Setting, left_unstuck, left_apart, low_value, high_value, pin_value}
use native.Mathlib.Decide.{ℕ_discrete}
use Rattle.machine_meaning.specs.Vocabulary.{Faults, stuck_wire, stuck_register, wrong_cell, Joined, Shorted, net_of, IsClear, Circuit, Table, Outputs, Pins, Pulls, by_pin, by_table, IsValue, IsPulled, AreValues}
use Rattle.machine_meaning.proofs.Values.{IsValue-unique}
use Rattle.machine_config.specs.Vocabulary.{Configuration, is_closed, setting_of, cell_of, circuit_of, table_of, table_or_off, held_by, IsRun, IsWithin, AreGroups, Ticks, unticked, tick, Cycle, Cycles, none, cycle, tick_output, edge_output, first_output, number_of, address_at}

abbrev hangs_at : Option ℕ → ℕ → Bool
hangs_at None p = false
hangs_at (Some q) p = q == p

abbrev hangs_else : Option ℕ → ℕ → Bool
hangs_else None p = false
hangs_else (Some q) p = not (q == p)

same : (n : ℕ) → (n == n) ≡ true
same n = grind (arith, nat_tests)

apart_tested : (q p : ℕ) → q ≢ p → not (q == p) ≡ true
apart_tested q p n = let e : (q == p) ≡ false = grind (arith, nat_tests, n) in rw e refl

-- Closed crosspoints lead between wires that hang on one pin, over which each is joined to its pin. No wire that hangs is shorted to
-- a stuck wire, and none to one that hangs on another pin.
pub record IsNet (f : Faults) (g : Configuration) (hang : ℕ → Option ℕ) : Type 0 where
  pub ends : (x : ℕ) → is_closed g x ≡ true → (p : ℕ) × ((hang (ends_of g.shape x).0 ≡ Some p) × (hang (ends_of g.shape x).1 ≡ Some p))
  pub clear : (w p : ℕ) → hang w ≡ Some p → IsClear g.shape f w
  pub apart : (w u p q : ℕ) → hang w ≡ Some p → hang u ≡ Some q → p ≢ q → ¬ Shorted g.shape f w u
  pub joined : (w p : ℕ) → hang w ≡ Some p → Joined (net_of g.shape f (is_closed g)) w (pin_wire g.shape p)
  pub root : (w p : ℕ) → hang w ≡ Some p → hang (pin_wire g.shape p) ≡ Some p
  pub below : (w p : ℕ) → hang w ≡ Some p → p < pins_of g.shape

-- The tables of a test have one setting, are latched, and no others are on. Input j of each hangs on the pin of j, and the output of
-- each on a pin of its own.
pub record AreHung (g : Configuration) (hang : ℕ → Option ℕ) (is : ℕ → Bool) (s : Setting) (ins out : ℕ → ℕ) : Type 0 where
  pub on : (t : ℕ) → is t ≡ true → setting_of g t ≡ Some s
  pub off : (t : ℕ) → is t ≡ false → setting_of g t ≡ None
  pub latched : s.latched ≡ true
  pub one : g.ticks ≡ 1
  pub inputs : (t j : ℕ) → is t ≡ true → j < 6 → hang (table_wire g.shape t j) ≡ Some (ins j)
  pub outputs : (t : ℕ) → is t ≡ true → hang (table_wire g.shape t 6) ≡ Some (out t)
  pub apart : (t j : ℕ) → is t ≡ true → j < 6 → ins j ≢ out t
  pub own : (t u : ℕ) → is t ≡ true → is u ≡ true → out t ≡ out u → t ≡ u
  pub some : ℕ
  pub is_some : is some ≡ true

-- each pin that is driven 0 has an input
abbrev pub IsInputDrive : (ℕ → ℕ) → Pins → Type 0
IsInputDrive ins drive = (p : ℕ) → get_or drive p true ≡ false → (j : ℕ) × ((j < 6) × (ins j ≡ p))

module _ (f : Faults) (g : Configuration) (hang : ℕ → Option ℕ) (net : IsNet f g hang) where
  abbrev tree : ℕ → ℕ → Bool
  tree p w = hangs_at (hang w) p

  abbrev others : ℕ → ℕ → Bool
  others p w = hangs_else (hang w) p

  in_tree : (w p : ℕ) → tree p w ≡ true → hang w ≡ Some p
  in_tree w p is = by (hang w) is
    where
      by : (o : Option ℕ) → hangs_at o p ≡ true → o ≡ Some p
      by None h = absurd (false≢true h)
      by (Some q) h = ap Some (let e : q ≡ p = grind (arith, nat_tests, h) in e)

  tree_of : (w p : ℕ) → hang w ≡ Some p → tree p w ≡ true
  tree_of w p e = ap (λ o. hangs_at o p) e ∙ same p

  in_others : (w p : ℕ) → others p w ≡ true → (q : ℕ) × ((hang w ≡ Some q) × (q ≢ p))
  in_others w p is = by (hang w) is
    where
      differ : (q : ℕ) → not (q == p) ≡ true → q ≢ p
      differ q h e = false≢true (sym (ap not (let t : (q == p) ≡ true = grind (arith, nat_tests, e) in t)) ∙ h)

      by : (o : Option ℕ) → hangs_else o p ≡ true → (q : ℕ) × ((o ≡ Some q) × (q ≢ p))
      by None h = absurd (false≢true h)
      by (Some q) h = (q, (refl, differ q h))

  others_of : (w p q : ℕ) → hang w ≡ Some q → q ≢ p → others p w ≡ true
  others_of w p q e n = ap (λ o. hangs_else o p) e ∙ apart_tested q p n

  groups : (p : ℕ) → AreGroups g.shape f (is_closed g) (tree p) (others p)
  groups p = record {
    within = λ x on. by x (net.ends x on);
    left_clear = λ w is. net.clear w p (in_tree w p is);
    right_clear = λ w is. let q = in_others w p is in net.clear w q.0 q.1.0;
    apart = λ w u is on. let q = in_others u p on in net.apart w u p q.0 (in_tree w p is) q.1.0 (λ e. q.1.1 (sym e));
  }
    where
      by : (x : ℕ) → (q : ℕ) × ((hang (ends_of g.shape x).0 ≡ Some q) × (hang (ends_of g.shape x).1 ≡ Some q)) → IsWithin g.shape (tree p) x ⊎ IsWithin g.shape (others p) x
      by x (q, (a, b)) = side (ℕ_discrete q p)
        where
          side : Dec (q ≡ p) → IsWithin g.shape (tree p) x ⊎ IsWithin g.shape (others p) x
          side (yes e) = inl (record { tap = tree_of _ p (a ∙ ap Some e); line = tree_of _ p (b ∙ ap Some e) })
          side (no n) = inr (record { tap = others_of _ p q a n; line = others_of _ p q b n })

  abbrev J : ℕ → ℕ → Type 0
  J = Joined (net_of g.shape f (is_closed g))

  unstuck : {w p : ℕ} → hang w ≡ Some p → (v : ℕ) → J w v → stuck_wire f v ≡ None
  unstuck {w} {p} is v j = left_unstuck (groups p) (tree_of w p is) j

  unjoined : {w v p q : ℕ} → hang w ≡ Some p → hang v ≡ Some q → q ≢ p → ¬ J w v
  unjoined {w} {v} {p} {q} is on n j = left_apart (groups p) (tree_of w p is) (others_of v p q on n) j

  module _ {is : ℕ → Bool} {s : Setting} {ins out : ℕ → ℕ} (h : AreHung g hang is s ins out) where
    abbrev c : Circuit
    c = circuit_of f g

    true_or : (b : Bool) → (b ≡ true) ⊎ (b ≡ false)
    true_or true = inl refl
    true_or false = inr refl

    is_on : (t : ℕ) → is t ≡ true → c.table t ≡ Some (table_of f t s)
    is_on t i = ap (table_or_off f t) (h.on t i)

    is_off : (t : ℕ) → is t ≡ false → c.table t ≡ None
    is_off t i = ap (table_or_off f t) (h.off t i)

    held : (t : ℕ) → held_by f t s ≡ stuck_register f t
    held t = ap (λ l. if l then stuck_register f t else None) h.latched

    in_pin : (j : ℕ) → j < 6 → hang (pin_wire g.shape (ins j)) ≡ Some (ins j)
    in_pin j b = net.root _ _ (h.inputs h.some j h.is_some b)

    out_pin : (t : ℕ) → is t ≡ true → hang (pin_wire g.shape (out t)) ≡ Some (out t)
    out_pin t i = net.root _ _ (h.outputs t i)

    -- tables that are off drive nothing
    abbrev Quiet : Outputs → Type 0
    Quiet o = (t : ℕ) → is t ≡ false → o t ≡ true

    module _ (drive : Pins) (driven : IsInputDrive ins drive) (outputs : Outputs) (quiet : Quiet outputs) where
      -- a wire on an input's pin is pulled by its drive alone
      unpulled_input : (w j : ℕ) → j < 6 → hang w ≡ Some (ins j) → get_or drive (ins j) true ≡ true → ¬ IsPulled c drive outputs w
      unpulled_input w j b at high p = by p.place p.joined p.pulls
        where
          by_input : (i v : ℕ) → J w v → get_or drive i true ≡ false → pin_wire g.shape i ≡ v → (k : ℕ) × ((k < 6) × (ins k ≡ i)) → Dec (i ≡ ins j) → ⊥
          by_input i v jn low e k (yes q) = false≢true (sym low ∙ ap (λ m. get_or drive m true) q ∙ high)
          by_input i v jn low e (k, (kb, ke)) (no n) = unjoined at (subst (λ m. hang (pin_wire g.shape m) ≡ Some m) ke (in_pin k kb)) n (subst (J w) (sym e) jn)

          by_state : (u v : ℕ) → J w v → outputs u ≡ false → table_wire g.shape u 6 ≡ v → (is u ≡ true) ⊎ (is u ≡ false) → ⊥
          by_state u v jn low e (inl i) = unjoined at (h.outputs u i) (λ q. h.apart u j i b (sym q)) (subst (J w) (sym e) jn)
          by_state u v jn low e (inr i) = false≢true (sym low ∙ quiet u i)

          by : (v : ℕ) → J w v → Pulls c drive outputs v → ⊥
          by v jn (by_pin i below low e) = by_input i v jn low e (driven i low) (ℕ_discrete i (ins j))
          by v jn (by_table u low e) = by_state u v jn low e (true_or (is u))

      input_is : (w j : ℕ) → j < 6 → hang w ≡ Some (ins j) → (b : Bool) → get_or drive (ins j) true ≡ b → IsValue c drive outputs w b
      input_is w j b at false e = low_value (unstuck at) (record { place = pin_wire g.shape (ins j); joined = net.joined w (ins j) at; pulls = by_pin (ins j) (net.below w (ins j) at) e refl })
      input_is w j b at true e = high_value (unstuck at) (unpulled_input w j b at e)

      input_value : (value : ℕ → Bool) → AreValues c drive outputs value → (t j : ℕ) → is t ≡ true → j < 6 → value (table_wire g.shape t j) ≡ get_or drive (ins j) true
      input_value value are t j i b = IsValue-unique (are (table_wire g.shape t j)) (input_is (table_wire g.shape t j) j b (h.inputs t j i b) _ refl)

      -- a wire on an output's pin by the output alone
      unpulled_output : (w t : ℕ) → is t ≡ true → hang w ≡ Some (out t) → outputs t ≡ true → ¬ IsPulled c drive outputs w
      unpulled_output w t it at high p = by p.place p.joined p.pulls
        where
          by_input : (i v : ℕ) → J w v → pin_wire g.shape i ≡ v → (k : ℕ) × ((k < 6) × (ins k ≡ i)) → ⊥
          by_input i v jn e (k, (kb, ke)) = unjoined at (in_pin k kb) (h.apart t k it kb) (subst (J w) (sym (ap (pin_wire g.shape) ke ∙ e)) jn)

          by_other : (u v : ℕ) → J w v → outputs u ≡ false → table_wire g.shape u 6 ≡ v → is u ≡ true → Dec (u ≡ t) → ⊥
          by_other u v jn low e i (yes q) = false≢true (sym low ∙ ap outputs q ∙ high)
          by_other u v jn low e i (no n) = unjoined at (h.outputs u i) (λ q. n (h.own u t i it q)) (subst (J w) (sym e) jn)

          by_state : (u v : ℕ) → J w v → outputs u ≡ false → table_wire g.shape u 6 ≡ v → (is u ≡ true) ⊎ (is u ≡ false) → ⊥
          by_state u v jn low e (inl i) = by_other u v jn low e i (ℕ_discrete u t)
          by_state u v jn low e (inr i) = false≢true (sym low ∙ quiet u i)

          by : (v : ℕ) → J w v → Pulls c drive outputs v → ⊥
          by v jn (by_pin i below low e) = by_input i v jn e (driven i low)
          by v jn (by_table u low e) = by_state u v jn low e (true_or (is u))

      output_is : (t : ℕ) → is t ≡ true → (b : Bool) → outputs t ≡ b → IsValue c drive outputs (pin_wire g.shape (out t)) b
      output_is t i false e = low_value (unstuck (out_pin t i)) (record { place = table_wire g.shape t 6; joined = Joined-sym (net.joined _ _ (h.outputs t i)); pulls = by_table t e refl })
      output_is t i true e = high_value (unstuck (out_pin t i)) (unpulled_output _ t i (out_pin t i) e)

    -- latched tables stay at a tick
    tick_on : (o : Option Table) (t a : ℕ) (b : Bool) → o ≡ Some (table_of f t s) → tick_output o a b ≡ b
    tick_on None t a b e = cc
    tick_on (Some x) t a b e = ap (λ o. tick_output o a b) e ∙ ap (λ l. if l then b else (table_of f t s).cell a) h.latched

    tick_off : (o : Option Table) (a : ℕ) (b : Bool) → o ≡ None → tick_output o a b ≡ true
    tick_off None a b e = refl
    tick_off (Some x) a b e = cc

    edge_off : (o : Option Table) (a : ℕ) (b : Bool) → o ≡ None → edge_output o a b ≡ true
    edge_off None a b e = refl
    edge_off (Some x) a b e = cc

    first_off : (o : Option Table) → o ≡ None → first_output o ≡ true
    first_off None e = refl
    first_off (Some x) e = cc

    -- what a table takes at a clock edge where its inputs have this address
    abbrev takes : ℕ → ℕ → Bool
    takes t a = unwrap_or (stuck_register f t) (unwrap_or (wrong_cell f t a) (cell_of s a))

    edge_on : (o : Option Table) (t a : ℕ) (b : Bool) → o ≡ Some (table_of f t s) → edge_output o a b ≡ takes t a
    edge_on None t a b e = cc
    edge_on (Some x) t a b e = ap (λ o. edge_output o a b) e ∙ ap (λ l. if l then unwrap_or (held_by f t s) ((table_of f t s).cell a) else b) h.latched ∙ ap (λ o. unwrap_or o ((table_of f t s).cell a)) (held t)

    first_on : (o : Option Table) (t : ℕ) → o ≡ Some (table_of f t s) → first_output o ≡ unwrap_or (stuck_register f t) s.init
    first_on None t e = cc
    first_on (Some x) t e = ap first_output e ∙ ap (λ o. unwrap_or o s.init) (held t)

    -- the address that a drive gives
    abbrev pub address_of : Pins → ℕ
    address_of drive = number_of (map (λ j. get_or drive (ins j) true) (range_with_len 0 6))

    module _ {drive read : Pins} {before after : Outputs} (driven : IsInputDrive ins drive) (quiet : Quiet before) (cy : Cycle c before drive read after) where
      ticked : {outputs : Outputs} → Ticks c drive before 1 outputs → ((t : ℕ) → is t ≡ true → outputs t ≡ before t) × Quiet outputs
      ticked (tick value unticked are e) =
          (λ t i. ap (λ (o : Outputs). o t) e ∙ tick_on (c.table t) t _ _ (is_on t i), λ t i. ap (λ (o : Outputs). o t) e ∙ tick_off (c.table t) _ _ (is_off t i))

      now : ((t : ℕ) → is t ≡ true → cy.outputs t ≡ before t) × Quiet cy.outputs
      now = ticked (subst (λ n. Ticks c drive before n cy.outputs) h.one cy.ticks)

      -- a pin reads the output that hangs on it
      reads_output : (t : ℕ) → is t ≡ true → get_or read (out t) true ≡ before t
      reads_output t i = IsValue-unique (pin_value cy (out t) (net.below _ _ (h.outputs t i)) refl) (output_is drive driven cy.outputs now.1 t i _ refl) ∙ now.0 t i

      address : (t : ℕ) → is t ≡ true → address_at c cy.value t ≡ address_of drive
      unfolding address_at
      address t i =
          let e : (j : ℕ) → j < 6 → cy.value (table_wire g.shape t j) ≡ get_or drive (ins j) true = λ j b. input_value drive driven cy.outputs now.1 cy.value cy.values t j i b in
          (λ k. number_of (e 0 (omega arith) k ∷ e 1 (omega arith) k ∷ e 2 (omega arith) k ∷ e 3 (omega arith) k ∷ e 4 (omega arith) k ∷ e 5 (omega arith) k ∷ []))

      -- and each table takes the addressed cell
      takes_cell : (t : ℕ) → is t ≡ true → after t ≡ takes t (address_of drive)
      takes_cell t i = ap (λ (o : Outputs). o t) cy.edge ∙ edge_on (c.table t) t _ _ (is_on t i) ∙ ap (takes t) (address t i)

      quiet_after : Quiet after
      quiet_after t i = ap (λ (o : Outputs). o t) cy.edge ∙ edge_off (c.table t) _ _ (is_off t i)

    -- what a table shows in each cycle: what it held before the first, and then what it takes
    abbrev pub shows : Bool → List Pins → ℕ → ℕ → Bool
    shows first drives t zero = first
    shows first drives t (suc n) = takes t (address_of (get_or drives n []))

    later : (first mid : Bool) (d : Pins) (ds : List Pins) (t n : ℕ) → mid ≡ takes t (address_of d) → shows mid ds t n ≡ shows first (d ∷ ds) t (suc n)
    later first mid d ds t zero e = e
    later first mid d ds t (suc n) e = refl

    rows : {before after : Outputs} {drives reads : List Pins} → ((n : ℕ) → n < length drives → IsInputDrive ins (get_or drives n [])) → Quiet before → Cycles c before drives reads after →
        (t n : ℕ) → is t ≡ true → n < length drives → get_or (get_or reads n []) (out t) true ≡ shows (before t) drives t n
    rows driven quiet none t n i below = absurd (omega arith)
    rows driven quiet (cycle cy more) t zero i below = reads_output (driven 0 (omega arith)) quiet cy t i
    rows {before} driven quiet (cycle {mid = mid} {drive = d} {drives = ds} cy more) t (suc n) i below =
        rows (λ k b. driven (suc k) (omega (arith, b))) (quiet_after (driven 0 (omega arith)) quiet cy) more t n i (omega (arith, below))
        ∙ later (before t) (mid t) d ds t n (takes_cell (driven 0 (omega arith)) quiet cy t i)

    -- what the tables read after a load
    pub shown : {drives reads : List Pins} → ((n : ℕ) → n < length drives → IsInputDrive ins (get_or drives n [])) → IsRun f g drives reads →
        (t n : ℕ) → is t ≡ true → n < length drives → get_or (get_or reads n []) (out t) true ≡ shows (unwrap_or (stuck_register f t) s.init) drives t n
    shown {drives} driven run t n i below = rows driven (λ u o. first_off (c.table u) (is_off u o)) run.cycles t n i below ∙ ap (λ b. shows b drives t n) (first_on (c.table t) t (is_on t i))
