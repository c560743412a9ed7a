-- A plan's room, and the in-order plan.
use Rattle.std.proofs.Common.{◌≡◌, ◌≢◌, ℕ, ◌+◌, ◌<◌, ◌≤◌, List, ◌++◌, length, get_or, take, drop, min, refl, sym, ap, ◌∙◌, subst, arith, length-take, length-drop}
use Rattle.place_plan.proofs.Vocabulary.{All, AllPairs, length-map, get_or-take, drop-take, take-append-drop, take-take, All-take}
use Rattle.place_plan.proofs.Vocabulary.{All-weaker, Shape, most_ticks, Defects, IsFreeWire, IsFreeTable, All-left, All-right, Network}
use Rattle.place_plan.proofs.Vocabulary.{table_at, no_table, IsNetwork, Plan, Need, Port, Resource, Tables, Pins, Ports, Lines, Short}
use Rattle.place_plan.proofs.Vocabulary.{Visit}
use Rattle.machine_shape.specs.Vocabulary.{nodes_of, tables_of, pins_of, node_of, pin_wire, table_wire, IsTap, tap_pin, tap_table, IsNumbered, IsTree, HasParents, HasTaps, HasCrosses, HasSites}
use Rattle.map_network.specs.declared.source.Source.TheVariants as source
use Rattle.place_plan.specs.Vocabulary.{IsChoice, AreHeld, AreVisits, AreThose, nth_of, IsPlan, IsTerminal, drives, reads, shows, nets_in, number_of, place_of, IsFreeTableOf, IsFreePinOf, AreNeeds, IsInOrder, IsInOrderOf, Fits, InOrderIsShort, HasTerminal, Suffices, IsShortOf, IsFirstShort, ArePlanNets}
use Rattle.place_plan.proofs.Choosing.{choice_is}
use Rattle.place_plan.proofs.Decided.{never_both}
use Rattle.place_plan.proofs.PlanNets.{terminal_within}
use Rattle.place_plan.proofs.Those.{those_unique}
use Rattle.place_plan.proofs.Transfer.{suffices_on, first_on, visits_are_on, held_are_on}

joined : (a b : ℕ) (xs us vs : List ℕ) → us ≡ take a xs → vs ≡ take b (drop a xs) → us ++ vs ≡ take (a + b) xs
joined a b xs us vs e f =
    let x : take a (take (a + b) xs) ≡ take a xs = take-take a (a + b) xs (omega arith) in
    ap (λ z. z ++ vs) (e ∙ sym x) ∙ ap (λ z. take a (take (a + b) xs) ++ z) (f ∙ sym (drop-take a b xs)) ∙ take-append-drop a (take (a + b) xs)

module _ (m : Shape) (d : Defects) (n : Network) (p : Plan) (nets : List (List ℕ)) (are : ArePlanNets m n p nets) where
  to : (k w : ℕ) → HasTerminal nets k w → IsTerminal m n p k w
  to k w h = (are.same k w).0 h

  from : (k w : ℕ) → IsTerminal m n p k w → HasTerminal nets k w
  from k w t = (are.same k w).1 t

  pub plan_suffices : (tables pins : Need) → Suffices m d (length nets) (HasTerminal nets) tables pins → Suffices m d (nets_in n) (IsTerminal m n p) tables pins
  plan_suffices tables pins is = suffices_on m d (nets_in n) (HasTerminal nets) (IsTerminal m n p) to from tables pins (subst (λ z. Suffices m d z (HasTerminal nets) tables pins) are.sized is)

  pub plan_first : (tables pins : Need) (s : Short) → IsFirstShort m d (length nets) (HasTerminal nets) tables pins s → IsFirstShort m d (nets_in n) (IsTerminal m n p) tables pins s
  plan_first tables pins s is = first_on m d (nets_in n) (HasTerminal nets) (IsTerminal m n p) to from tables pins s s.resource (subst (λ z. IsShortOf s.resource m d z (HasTerminal nets) tables pins s) are.sized is)

  pub plan_held : (ports : List Port) → AreHeld m d (length nets) (HasTerminal nets) (nodes_of m) ports → AreHeld m d (nets_in n) (IsTerminal m n p) (nodes_of m) ports
  plan_held ports held = held_are_on m d (nets_in n) (HasTerminal nets) (IsTerminal m n p) to from (nodes_of m) ports (subst (λ z. AreHeld m d z (HasTerminal nets) (nodes_of m) ports) are.sized held)

  pub plan_visited : (vs : List Visit) → AreVisits m d (length nets) (HasTerminal nets) (nodes_of m) vs → AreVisits m d (nets_in n) (IsTerminal m n p) (nodes_of m) vs
  plan_visited vs visits = visits_are_on m d (nets_in n) (HasTerminal nets) (IsTerminal m n p) to from (nodes_of m) vs (subst (λ z. AreVisits m d z (HasTerminal nets) (nodes_of m) vs) are.sized visits)

  module _ (network : IsNetwork n) (plan : IsPlan m d n p) (numbered : IsNumbered m) (tree : IsTree m) (parents : HasParents m) (taps : HasTaps m) (crosses : HasCrosses m) (sites : HasSites m) where
    pin_tap : (xs : List ℕ) (i x : ℕ) → All (λ k. k < pins_of m) xs → i < length xs → node_of m (pin_wire m (nth_of xs i)) ≡ x → IsTap m x (pin_wire m (nth_of xs i))
    pin_tap xs i x all l e = let lt : nth_of xs i < pins_of m = all i 0 l in tap_pin (nth_of xs i) (sym e ∙ parents.pin_node (nth_of xs i) lt) lt refl

    table_tap : (j i x : ℕ) → j < length n.tables → i < 7 → node_of m (table_wire m (place_of p j) i) ≡ x → IsTap m x (table_wire m (place_of p j) i)
    table_tap j i x l b e =
        let lt : place_of p j < tables_of m = plan.tables_within j 0 (omega (arith, length-map p.tables number_of, plan.tables)) in
        tap_table (place_of p j) i lt (sym (parents.table_node (place_of p j) i lt b) ∙ e) b refl

    -- a terminal is a tap of its node
    own_tap : (k w x : ℕ) → IsTerminal m n p k w → node_of m w ≡ x → IsTap m x w
    own_tap k w x (drives (source.Input i) is) e = pin_tap (p.inputs) i x (left plan.pins_within) (let l : i < n.inputs = is in let f = plan.inputs in omega arith) e
      where
        left : All (λ k. k < pins_of m) (p.inputs ++ p.outputs) → All (λ k. k < pins_of m) p.inputs
        left all = All-left (λ k. k < pins_of m) p.inputs p.outputs all
    own_tap k w x (drives (source.Table j) is) e = table_tap j 6 x is (omega arith) e
    own_tap k w x (reads j i s l b q) e = table_tap j i x l (let f : length (table_at n j).ins ≤ 6 = network.narrow j no_table l in omega arith) e
    own_tap k w x (shows o s l q) e = pin_tap p.outputs o x (All-right (λ k. k < pins_of m) p.inputs p.outputs plan.pins_within) (let f = plan.outputs in omega arith) e

    pub plan_choice : (ports : List Port) (vs : List Visit) → AreHeld m d (length nets) (HasTerminal nets) (nodes_of m) ports → AreVisits m d (length nets) (HasTerminal nets) (nodes_of m) vs → IsChoice m d (nets_in n) (IsTerminal m n p) ports vs
    plan_choice ports vs held visits = choice_is m d (nets_in n) (IsTerminal m n p) tree parents taps crosses sites (terminal_within m d n p network plan numbered) own_tap ports vs (plan_held ports held) (plan_visited vs visits)

module _ (m : Shape) (d : Defects) (n : Network) where
  pub needs_are : (free_tables free_pins : List ℕ) (tables pins : Need) → AreThose (IsFreeTableOf m d) free_tables → AreThose (IsFreePinOf m d) free_pins → tables.need ≡ length n.tables → tables.have ≡ min (length free_tables) (most_ticks m) → pins.need ≡ n.inputs + length n.outputs → pins.have ≡ length free_pins → AreNeeds m d n tables pins
  needs_are free_tables free_pins tables pins a b e f g h = record { free_tables = free_tables; free_pins = free_pins; are_tables = a; are_pins = b; tables_need = e; tables_have = f; pins_need = g; pins_have = h }

  -- how many tables may be had, by lists and numbers that are equal
  pub have_is : (have most : ℕ) (given free_tables : List ℕ) (s : Shape) → have ≡ min (length given) most → given ≡ free_tables → most ≡ most_ticks s → s ≡ m → have ≡ min (length free_tables) (most_ticks m)
  have_is have most given free_tables s is e f same = is ∙ ap (λ (ts : List ℕ). min (length ts) most) e ∙ ap (λ k. min (length free_tables) k) (f ∙ ap most_ticks same)

  -- a need that is met is of no more tables than may be on
  pub few_tables : (tables : Need) (given : List ℕ) (most : ℕ) → tables.need ≡ length n.tables → tables.have ≡ min (length given) most → most ≡ most_ticks m → tables.need ≤ tables.have → length n.tables ≤ most_ticks m
  few_tables tables given most need have is met = omega (arith, need, have, is, met)

  same_need : (a b : Need) → a.need ≡ b.need → a.have ≡ b.have → a ≡ b
  same_need a b e f = λ i. record { need = e i; have = f i }

  -- needs are determined
  pub one_needs : (a b c e : Need) → AreNeeds m d n a b → AreNeeds m d n c e → (a ≡ c) × (b ≡ e)
  one_needs a b c e x y =
      let t = those_unique (IsFreeTableOf m d) x.free_tables y.free_tables x.are_tables y.are_tables in
      let p = those_unique (IsFreePinOf m d) x.free_pins y.free_pins x.are_pins y.are_pins in
      (same_need a c (x.tables_need ∙ sym y.tables_need) (x.tables_have ∙ ap (λ (ts : List ℕ). min (length ts) (most_ticks m)) t ∙ sym y.tables_have), same_need b e (x.pins_need ∙ sym y.pins_need) (x.pins_have ∙ ap length p ∙ sym y.pins_have))

  -- where something is short the plan doesn't fit
  pub never_fits : (p : Plan) (tables pins : Need) (s : Short) → AreNeeds m d n tables pins → IsFirstShort m d (nets_in n) (IsTerminal m n p) tables pins s → Fits m d n p → ⊥
  never_fits p tables pins s needs short fits =
      let e = one_needs fits.tables fits.pins tables pins fits.needs needs in
      never_both m d (nets_in n) (IsTerminal m n p) tables pins s (subst (λ z. Suffices m d (nets_in n) (IsTerminal m n p) z pins) e.0 (subst (λ z. Suffices m d (nets_in n) (IsTerminal m n p) fits.tables z) e.1 fits.suffices)) s.resource short

  -- the in-order plan is a plan for the network
  module _ (p : Plan) (free_tables free_pins : List ℕ) (are_tables : AreThose (IsFreeTableOf m d) free_tables) (are_pins : AreThose (IsFreePinOf m d) free_pins) (tables_met : length n.tables ≤ length free_tables) (pins_met : n.inputs + length n.outputs ≤ length free_pins) (sits : IsInOrderOf n free_tables free_pins p) where
    pub in_order_is : IsInOrder m d n p
    in_order_is = record { free_tables = free_tables; free_pins = free_pins; are_tables = are_tables; are_pins = are_pins; tables_met = tables_met; pins_met = pins_met; tables_are = sits.tables_are; inputs_are = sits.inputs_are; outputs_are = sits.outputs_are }

    all_pins : p.inputs ++ p.outputs ≡ take (n.inputs + length n.outputs) free_pins
    all_pins = joined n.inputs (length n.outputs) free_pins p.inputs p.outputs sits.inputs_are sits.outputs_are

    pub plan_is : IsPlan m d n p
    plan_is = record {
      tables = sym (length-map p.tables number_of) ∙ ap length sits.tables_are ∙ taken (length n.tables) free_tables tables_met;
      inputs = ap length sits.inputs_are ∙ taken n.inputs free_pins (omega arith);
      outputs = ap length sits.outputs_are ∙ taken (length n.outputs) (drop n.inputs free_pins) (omega (arith, length-drop n.inputs free_pins));
      tables_within = subst (All (λ t. t < tables_of m)) (sym sits.tables_are) (All-weaker (IsFreeTableOf m d) (λ t. t < tables_of m) (λ t f. f.0) (take (length n.tables) free_tables) (All-take (IsFreeTableOf m d) (length n.tables) free_tables are_tables.only));
      pins_within = subst (All (λ k. k < pins_of m)) (sym all_pins) (All-weaker (IsFreePinOf m d) (λ k. k < pins_of m) (λ k f. f.0) (take (n.inputs + length n.outputs) free_pins) (All-take (IsFreePinOf m d) (n.inputs + length n.outputs) free_pins are_pins.only));
      tables_free = subst (All (IsFreeTable m d)) (sym sits.tables_are) (All-weaker (IsFreeTableOf m d) (IsFreeTable m d) (λ t f. f.1) (take (length n.tables) free_tables) (All-take (IsFreeTableOf m d) (length n.tables) free_tables are_tables.only));
      pins_free = subst (All (λ k. IsFreeWire d (pin_wire m k))) (sym all_pins) (All-weaker (IsFreePinOf m d) (λ k. IsFreeWire d (pin_wire m k)) (λ k f. f.1) (take (n.inputs + length n.outputs) free_pins) (All-take (IsFreePinOf m d) (n.inputs + length n.outputs) free_pins are_pins.only));
      tables_different = subst (AllPairs (λ t u. t ≢ u)) (sym sits.tables_are) (apart (length n.tables) free_tables are_tables.ascending);
      pins_different = subst (AllPairs (λ k l. k ≢ l)) (sym all_pins) (apart (n.inputs + length n.outputs) free_pins are_pins.ascending);
    }
      where
        taken : (k : ℕ) (xs : List ℕ) → k ≤ length xs → length (take k xs) ≡ k
        taken k xs le = omega (arith, length-take k xs)

        differ : (a b : ℕ) → a < b → a ≡ b → ⊥
        differ a b l e = omega arith

        apart : (k : ℕ) (xs : List ℕ) → AllPairs (λ a b. a < b) xs → AllPairs (λ a b. a ≢ b) (take k xs)
        apart k xs up i j x lt l e =
            let lk : j < k = omega (arith, l, length-take k xs) in
            let lx : j < length xs = omega (arith, l, length-take k xs) in
            differ (get_or xs i x) (get_or xs j x) (up i j x lt lx) (sym (get_or-take k xs i x (omega arith)) ∙ e ∙ get_or-take k xs j x lk)

  -- the first short resource of the in-order plan
  pub fail_is : (p : Plan) (tables pins : Need) (s : Short) (r : Resource) → IsInOrder m d n p → IsShortOf r m d (nets_in n) (IsTerminal m n p) tables pins s → InOrderIsShort r m d n tables pins s
  fail_is p tables pins s Tables is short = short
  fail_is p tables pins s Pins is short = short
  fail_is p tables pins s Ports is short = (p, is, short)
  fail_is p tables pins s Lines is short = (p, is, short)
