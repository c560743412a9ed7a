-- Stuck registers over time.
use Rattle.std.proofs.Common.{◌≡◌, ℕ, Bool, true, false, Option, Some, None, List, refl, sym, ap, ◌∙◌, subst, unwrap_or, if◌then◌else◌}
use Rattle.machine_config.proofs.Vocabulary.{fun_ext, nat_cmp, Setting}
use Rattle.std.specs.FinSet as set
use Rattle.std.specs.FinMap as map
use Rattle.machine_meaning.specs.Vocabulary.{Faults, pair_cmp, stuck_register, Circuit, Table, Outputs, Pins}
use Rattle.machine_config.specs.Vocabulary.{Configuration, is_closed, setting_of, cell_of, first_output, tick_output, edge_output, at_load, Ticks, unticked, tick, Cycles, none, cycle, Runs, held_by, table_of, table_or_off, circuit_of, IsRun}

-- a table that holds its value
record Holds (o : Option Table) (v : Bool) : Type 0 where
  first : first_output o ≡ v
  at_tick : (a : ℕ) (b : Bool) → b ≡ v → tick_output o a b ≡ v
  at_edge : (a : ℕ) (b : Bool) → b ≡ v → edge_output o a b ≡ v

holds : (f : Faults) (t : ℕ) (s : Setting) (v : Bool) → s.latched ≡ true → stuck_register f t ≡ Some v → Holds (Some (table_of f t s)) v
holds f t s v latched stuck =
    let held : held_by f t s ≡ Some v = ap (λ l. if l then stuck_register f t else None) latched ∙ stuck in
    record {
      first = ap (λ o. unwrap_or o s.init) held;
      at_tick = λ a b e. ap (λ l. if l then b else (table_of f t s).cell a) latched ∙ e;
      at_edge = λ a b e. ap (λ l. if l then unwrap_or (held_by f t s) ((table_of f t s).cell a) else b) latched ∙ ap (λ o. unwrap_or o ((table_of f t s).cell a)) held;
    }

module _ (c : Circuit) (t : ℕ) (v : Bool) (is : Holds (c.table t) v) where
  held_ticks : {drive : Pins} {before after : Outputs} {n : ℕ} → before t ≡ v → Ticks c drive before n after → after t ≡ v
  held_ticks e unticked = e
  held_ticks e (tick value ticks values same) = ap (λ o. o t) same ∙ is.at_tick _ _ (held_ticks e ticks)

  held_cycles : {before after : Outputs} {drives reads : List Pins} → before t ≡ v → Cycles c before drives reads after → after t ≡ v
  held_cycles e none = e
  held_cycles e (cycle s ss) = held_cycles (ap (λ o. o t) s.edge ∙ is.at_edge _ _ (held_ticks e s.ticks)) ss

pub register_holds : (f : Faults) (g : Configuration) (t : ℕ) (s : Setting) (v : Bool) → setting_of g t ≡ Some s → s.latched ≡ true → stuck_register f t ≡ Some v →
    {drives reads : List Pins} {outputs : Outputs} → Cycles (circuit_of f g) (at_load (circuit_of f g)) drives reads outputs → outputs t ≡ v
register_holds f g t s v on latched stuck cycles =
    let is : Holds (table_or_off f t (setting_of g t)) v = subst (λ o. Holds (table_or_off f t o) v) (sym on) (holds f t s v latched stuck) in
    held_cycles (circuit_of f g) t v is is.first cycles

-- registers of combinational tables
module _ (f h : Faults) (g : Configuration) (alike : (t : ℕ) (s : Setting) → setting_of g t ≡ Some s → s.latched ≡ true → stuck_register f t ≡ stuck_register h t) where
  held_alike : (t : ℕ) (s : Setting) → setting_of g t ≡ Some s → (l : Bool) → s.latched ≡ l → (if l then stuck_register f t else None) ≡ (if l then stuck_register h t else None)
  held_alike t s on true latched = alike t s on latched
  held_alike t s on false latched = refl

  module _ (wires : f.wires ≡ h.wires) (crosses : f.crosses ≡ h.crosses) (cells : f.cells ≡ h.cells) (bridges : f.bridges ≡ h.bridges) where
    table_alike : (t : ℕ) (s : Setting) → setting_of g t ≡ Some s → table_of f t s ≡ table_of h t s
    table_alike t s on =
        let held = held_alike t s on s.latched refl in
        λ i. record { cell = λ a. unwrap_or (map.get (cells i) (t, a)) (cell_of s a); latched = s.latched; first = unwrap_or (held i) s.init; held = held i }

    place_alike : (t : ℕ) (o : Option Setting) → setting_of g t ≡ o → table_or_off f t o ≡ table_or_off h t o
    place_alike t None e = refl
    place_alike t (Some s) e = ap Some (table_alike t s e)

    circuit_by : map.FinMap nat_cmp Bool → map.FinMap nat_cmp Bool → set.FinSet pair_cmp → (ℕ → Option Table) → Circuit
    circuit_by ws xs bs table = record { net = record { shape = g.shape; conducts = λ x. unwrap_or (map.get xs x) (is_closed g x); is_bridge = λ p. set.contains bs p }; stuck = λ w. map.get ws w; table = table; ticks = g.ticks }

    circuit_alike : circuit_of f g ≡ circuit_of h g
    unfolding circuit_by
    circuit_alike =
        let tables : (λ t. table_or_off f t (setting_of g t)) ≡ (λ t. table_or_off h t (setting_of g t)) = fun_ext (λ t. place_alike t (setting_of g t) refl) in
        λ i. circuit_by (wires i) (crosses i) (bridges i) (tables i)

    pub run_alike : {drives reads : List Pins} → IsRun f g drives reads → IsRun h g drives reads
    run_alike {drives} {reads} run = subst (λ c. Runs c drives reads) circuit_alike run
