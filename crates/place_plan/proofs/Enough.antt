-- Enough free parts are room for the in-order plan.
use Rattle.std.proofs.Common.{◌≡◌, ℕ, zero, suc, ◌+◌, ◌<◌, ◌≤◌, false, None, List, [], ◌∷◌, length, get_or, min, refl, sym, ap, subst, arith}
use Rattle.std.specs.FinSet as set
use Rattle.place_plan.proofs.Vocabulary.{All, AllPairs, Contains, false_from_ne_true, length-map, All-weaker, Contains-get_or, Shape}
use Rattle.place_plan.proofs.Vocabulary.{Network, Plan, Need, Resource, Tables, Pins, Ports, Lines, Short, All-left, All-right}
use Rattle.machine_shape.specs.Vocabulary.{nodes_of, tables_of, pins_of, crosses_of, hextant_of, pin_wire, table_wire, IsLine, IsPort, IsNumbered, IsTree, HasParents, HasTaps, HasCrosses, HasSites, most_ticks}
use Rattle.machine_meaning.specs.Vocabulary.{Faults, stuck_cross, IsSoundWire, IsSoundTable, IsWholeLine, IsServed, Defects, IsFreeWire, IsFreeTable, IsOpenLine, IsTight, pin_stands, IsSeated, IsSoundCrossOf, IsStanding, HasStandingParts}
use Rattle.design_netlist.proofs.ListLemmas.{few_numbers}
use Rattle.map_network.specs.declared.source.Source.TheVariants as source
use Rattle.map_network.specs.Networks.{table_at, no_table, IsNetwork}
use Rattle.place_plan.specs.Vocabulary.{AreThose, nth_of, Crosses, HasPort, IsTapOf, by_terminal, by_child, by_port, IsFreePort, CrossesAt, VisitsAt, Serves, ArePorts, AreShort, IsUnmet, IsPlan, IsInOrder, IsTerminal, drives, reads, shows, nets_in, number_of, place_of, IsFreeTableOf, IsFreePinOf, AreNeeds, InOrderIsShort, IsShortInOrder, AtLeast, IsOpenLineOf, HasEnough, IsSoundTableOf, IsSoundPinOf, IsWholeLineOf, IsSoundPort, HasSoundParts, IsStandingTableOf, IsStandingLineOf, IsStandingPort, HasStandingRoom}
use Rattle.place_plan.proofs.Counting.{pigeon}
use Rattle.place_plan.proofs.FewNets.{few-on}
use Rattle.place_plan.proofs.Fitting.{plan_is}
use Rattle.place_plan.proofs.PlanNets.{terminal_within}

-- ---- counts

-- those with P are at least as many
counted : (P : ℕ → Type 0) (k : ℕ) (xs : List ℕ) → AtLeast P k → AreThose P xs → k ≤ length xs
counted P k xs enough those =
    let few = pigeon enough.each xs enough.different (λ i e lt. those.each (get_or enough.each i e) (enough.have i e lt)) in
    let many = enough.many in
    omega (arith, few, many)

-- numbers that ascend below a count are no more
ascend-few : (count : ℕ) (xs : List ℕ) → AllPairs (λ a b. a < b) xs → All (λ k. k < count) xs → length xs ≤ count
ascend-few count xs ascending below =
    few_numbers count xs (λ k lt. below k 0 lt) (λ i j less lt same. let h = ascending i j 0 less lt in omega (arith, h, same))

-- what is weaker
pub at-least : (P Q : ℕ → Type 0) (k : ℕ) → ((x : ℕ) → P x → Q x) → AtLeast P k → AtLeast Q k
at-least P Q k f enough = record {
  each = enough.each;
  have = All-weaker P Q f enough.each enough.have;
  different = enough.different;
  many = enough.many;
}

-- tables are wanted no more than there are and may be on
tables-met : (P : ℕ → Type 0) (k most : ℕ) (xs : List ℕ) (q : Need) (s : Short) → AtLeast P k → k ≤ most → AreThose P xs → q.need ≡ k → q.have ≡ min (length xs) most → IsUnmet q s → ⊥
tables-met P k most xs q s enough few those need have unmet =
    let met = counted P k xs enough those in
    let less : q.have < q.need = unmet.2 in
    omega (arith, met, few, need, have, less)

-- a need that is met
never-unmet : (P : ℕ → Type 0) (k : ℕ) (xs : List ℕ) (q : Need) (s : Short) → AtLeast P k → AreThose P xs → q.need ≡ k → q.have ≡ length xs → IsUnmet q s → ⊥
never-unmet P k xs q s enough those need have unmet =
    let met = counted P k xs enough those in
    let less : q.have < q.need = unmet.2 in
    omega (arith, met, need, have, less)

module _ (m : Shape) (d : Defects) (n : Network) (network : IsNetwork n) (numbered : IsNumbered m) (tree : IsTree m) (parents : HasParents m) (taps : HasTaps m) (crosses : HasCrosses m) (sites : HasSites m) where
  module _ (p : Plan) (plan : IsPlan m d n p) where
    abbrev terminal : ℕ → ℕ → Type 0
    terminal = IsTerminal m n p

    -- ---- the taps of the plan's nets are free

    table-free : (j i : ℕ) → j < length n.tables → i < 7 → IsFreeWire d (table_wire m (place_of p j) i)
    table-free j i l b =
        let free : IsFreeTable m d (place_of p j) = plan.tables_free j 0 (omega (arith, length-map p.tables number_of, plan.tables)) in
        free.pins i b

    pin-free : (xs : List ℕ) (i : ℕ) → All (λ k. IsFreeWire d (pin_wire m k)) xs → i < length xs → IsFreeWire d (pin_wire m (nth_of xs i))
    pin-free xs i all l = all i 0 l

    terminal-free : (k w : ℕ) → terminal k w → IsFreeWire d w
    terminal-free k w (drives (source.Input i) is) =
        pin-free p.inputs i (All-left (λ x. IsFreeWire d (pin_wire m x)) p.inputs p.outputs plan.pins_free) (let l : i < n.inputs = is in let e = plan.inputs in omega arith)
    terminal-free k w (drives (source.Table j) is) = table-free j 6 is (omega arith)
    terminal-free k w (reads j i s l b e) = table-free j i l (let f : length (table_at n j).ins ≤ 6 = network.narrow j no_table l in omega arith)
    terminal-free k w (shows o s l e) =
        pin-free p.outputs o (All-right (λ x. IsFreeWire d (pin_wire m x)) p.inputs p.outputs plan.pins_free) (let f = plan.outputs in omega arith)

    port-free : (c k t : ℕ) → HasPort m d (nets_in n) terminal c k t → IsFreeWire d t
    port-free c k t has =
        let free : IsFreePort m d c (nth_of has.ports has.place) = has.are_ports.only has.place 0 has.port_is.0 in
        subst (λ w. IsFreeWire d w) has.port_is.1 free.1

    tap-free : (c k t : ℕ) → IsTapOf m d (nets_in n) terminal c k t → IsFreeWire d t
    tap-free c k t (by_terminal is at) = terminal-free k t is
    tap-free c k t (by_child b parent has) = port-free b k t has
    tap-free c k t (by_port has) = port-free c k t has

    -- so an open line serves each net
    open-serves : (c k w : ℕ) → IsOpenLineOf m d c w → Serves m d (nets_in n) terminal c k w
    open-serves c k w is = record {
      line = is.0;
      free = is.1.itself;
      crosses = λ t x tap below ends. is.1.crosses x below (ap (λ (e : ℕ × ℕ). e.1) ends) (subst (λ w. IsFreeWire d w) (sym (ap (λ (e : ℕ × ℕ). e.0) ends)) (tap-free c k t tap));
    }

    -- ---- lines are never short

    first-of : (set : List ℕ) → 0 < length set → Contains set (get_or set 0 0)
    first-of set some = Contains-get_or set 0 0 some

    lines-do : (c need have : ℕ) (set : List ℕ) → AtLeast (IsOpenLineOf m d c) (nets_in n) → AreShort m d (nets_in n) terminal c set need have → ⊥
    lines-do c need have set enough short =
        let below : All (λ k. k < nets_in n) set = All-weaker (VisitsAt m (nets_in n) terminal c) (λ k. k < nets_in n) (λ k visits. visits.0) set short.within in
        let few = ascend-few (nets_in n) set short.ascending below in
        let some : 0 < length set = (let less = short.fewer in let size = short.need_is in omega (arith, less, size)) in
        let first = first-of set some in
        let serving = pigeon enough.each short.lines enough.different (λ i e lt. short.lines_are.each (get_or enough.each i e) (get_or set 0 0, first, open-serves c (get_or set 0 0) (get_or enough.each i e) (enough.have i e lt))) in
        let many = enough.many in
        let less = short.fewer in
        let need_is = short.need_is in
        let have_is = short.have_is in
        omega (arith, few, serving, many, less, need_is, have_is)

    -- ---- ports are never short

    -- nothing crosses the root
    root-crossing : (k : ℕ) → Crosses m (terminal k) 0 → ⊥
    root-crossing k crosses =
        crosses.not_inside (tree.below crosses.outer (terminal_within m d n p network plan numbered k crosses.outer crosses.outer_is))

    none-at-root : (crossing : List ℕ) → All (CrossesAt m (nets_in n) terminal 0) crossing → length crossing ≡ 0
    none-at-root [] only = refl
    none-at-root (k ∷ crossing) only = absurd (root-crossing k (let first : CrossesAt m (nets_in n) terminal 0 k = only 0 0 (omega arith) in first.1))

    ports-do : (c need have : ℕ) → (0 < c → AtLeast (IsFreePort m d c) (nets_in n)) → ArePorts m d (nets_in n) terminal c need have → have < need → ⊥
    ports-do zero need have enough are less =
        let none = none-at-root are.crossing are.are_crossing.only in
        let need_is = are.need_is in
        omega (arith, none, need_is, less)
    ports-do (suc c) need have enough are less =
        let below : All (λ k. k < nets_in n) are.crossing = All-weaker (CrossesAt m (nets_in n) terminal (suc c)) (λ k. k < nets_in n) (λ k crosses. crosses.0) are.crossing are.are_crossing.only in
        let few = ascend-few (nets_in n) are.crossing are.are_crossing.ascending below in
        let many = counted (IsFreePort m d (suc c)) (nets_in n) are.ports (enough (omega arith)) are.are_ports in
        let need_is = are.need_is in
        let have_is = are.have_is in
        omega (arith, few, many, need_is, have_is, less)

  -- ---- and nothing is

  in-order-plan : (p : Plan) → IsInOrder m d n p → IsPlan m d n p
  in-order-plan p is = plan_is m d n p is.free_tables is.free_pins is.are_tables is.are_pins is.tables_met is.pins_met (record { tables_are = is.tables_are; inputs_are = is.inputs_are; outputs_are = is.outputs_are })

  never : (enough : HasEnough m d n) (tables pins : Need) (s : Short) (r : Resource) → AreNeeds m d n tables pins → InOrderIsShort r m d n tables pins s → ⊥
  never enough tables pins s Tables needs short = tables-met (IsFreeTableOf m d) (length n.tables) (most_ticks m) needs.free_tables tables s enough.tables (few-on m d n parents taps crosses sites enough) needs.are_tables needs.tables_need needs.tables_have short.1
  never enough tables pins s Pins needs short = never-unmet (IsFreePinOf m d) (n.inputs + length n.outputs) needs.free_pins pins s enough.pins needs.are_pins needs.pins_need needs.pins_have short.2
  never enough tables pins s Ports needs short =
      let within : s.node.0 < nodes_of m = short.2.0.2 in
      ports-do short.0 (in-order-plan short.0 short.1) s.node.0 s.need s.have (λ below. enough.ports s.node.0 below within) short.2.1.0 short.2.1.1
  never enough tables pins s Lines needs short =
      let within : s.node.0 < nodes_of m = short.2.0.2 in
      lines-do short.0 (in-order-plan short.0 short.1) s.node.0 s.need s.have s.nets (enough.lines s.node.0 within) short.2.2

  pub enough-room : (s : Short) → HasEnough m d n → IsShortInOrder m d n s → ⊥
  enough-room s enough short = never enough short.tables short.pins s s.resource short.needs short.short

-- ---- what a fair list leaves

module _ (m : Shape) (d : Defects) (f : Faults) (n : Network) (parents : HasParents m) where
  abbrev LeavesLines : Type 0
  LeavesLines = (k w : ℕ) → IsServed m f k → IsLine m k w → IsWholeLine m f w → IsOpenLine m d w

  abbrev LeavesPorts : Type 0
  LeavesPorts = (k w : ℕ) → IsServed m f k → IsPort m k w → IsSoundWire m f w → IsFreeWire d w

  abbrev LeavesPins : Type 0
  LeavesPins = (k : ℕ) → k < pins_of m → IsServed m f 0 → IsSoundWire m f (pin_wire m k) → IsFreeWire d (pin_wire m k)

  abbrev LeavesTables : Type 0
  LeavesTables = (t : ℕ) → t < tables_of m → IsServed m f (hextant_of m t) → IsSoundTable m f t → IsFreeTable m d t

  pub sound-enough : 0 < nodes_of m → LeavesLines → LeavesPorts → LeavesPins → LeavesTables → HasSoundParts m f n → HasEnough m d n
  sound-enough some lines ports pins tables sound = record {
    tables = at-least (IsSoundTableOf m f) (IsFreeTableOf m d) (length n.tables) (λ t is. (is.0, tables t is.0 (sound.served (hextant_of m t) (parents.hextant_within t is.0)) is.1)) sound.tables;
    pins = at-least (IsSoundPinOf m f) (IsFreePinOf m d) (n.inputs + length n.outputs) (λ k is. (is.0, pins k is.0 (sound.served 0 some) is.1)) sound.pins;
    lines = λ k within. at-least (IsWholeLineOf m f k) (IsOpenLineOf m d k) (nets_in n) (λ w is. (is.0, lines k w (sound.served k within) is.0 is.1)) (sound.lines k within);
    ports = λ k below within. at-least (IsSoundPort m f k) (IsFreePort m d k) (nets_in n) (λ w is. (is.0, ports k w (sound.served k within) is.0 is.1)) (sound.ports k below within);
  }

-- ---- what a tight list leaves

module _ (m : Shape) (d : Defects) (f : Faults) (n : Network) where
  abbrev FreesWires : Type 0
  FreesWires = (w : ℕ) → IsStanding m f w → IsFreeWire d w

  abbrev FreesCrosses : Type 0
  FreesCrosses = (x : ℕ) → x < crosses_of m → stuck_cross f x ≡ None → set.contains d.crosses x ≡ false

  abbrev FreesTables : Type 0
  FreesTables = (t : ℕ) → t < tables_of m → IsSoundTable m f t → IsSeated m (IsStanding m f) (IsSoundCrossOf m f) t → IsFreeTable m d t

  pub frees-crosses : IsTight m d f → FreesCrosses
  frees-crosses tight x within sound = false_from_ne_true (set.contains d.crosses x) (λ on. tight.crosses x within on sound)

  open-line : FreesWires → FreesCrosses → (w : ℕ) → IsWholeLine m f w → IsStanding m f w → IsOpenLine m d w
  open-line wires crosses w whole stands = record {
    itself = wires w stands;
    crosses = λ x within at free. record {
      itself = crosses x within (whole.crosses x within at);
      tap = free;
      line = subst (IsFreeWire d) (sym at) (wires w stands);
    };
  }

  pub standing-enough : FreesWires → FreesCrosses → FreesTables → HasStandingRoom m f n → HasEnough m d n
  standing-enough wires crosses tables room = record {
    tables = at-least (IsStandingTableOf m f) (IsFreeTableOf m d) (length n.tables) (λ t is. (is.0, tables t is.0 is.1 is.2)) room.tables;
    pins = at-least (IsSoundPinOf m f) (IsFreePinOf m d) (n.inputs + length n.outputs)
        (λ k is. (is.0, wires (pin_wire m k) (pin_stands k is.0 is.1))) room.pins;
    lines = λ k within. at-least (IsStandingLineOf m f k) (IsOpenLineOf m d k) (nets_in n)
        (λ w is. (is.0, open-line wires crosses w is.1 is.2)) (room.lines k within);
    ports = λ k below within. at-least (IsStandingPort m f k) (IsFreePort m d k) (nets_in n)
        (λ w is. (is.0, wires w is.1)) (room.ports k below within);
  }

-- ---- where each node is served

pub served-room : (m : Shape) (f : Faults) (n : Network) → HasParents m → HasStandingParts m f → HasSoundParts m f n → HasStandingRoom m f n
served-room m f n parents parts sound = record {
  tables = at-least (IsSoundTableOf m f) (IsStandingTableOf m f) (length n.tables)
      (λ t is. (is.0, is.1, parts.tables t is.0 (sound.served (hextant_of m t) (parents.hextant_within t is.0)) is.1)) sound.tables;
  pins = sound.pins;
  lines = λ k within. at-least (IsWholeLineOf m f k) (IsStandingLineOf m f k) (nets_in n)
      (λ w is. (is.0, is.1, parts.whole k w (sound.served k within) is.0 is.1)) (sound.lines k within);
  ports = λ k below within. at-least (IsSoundPort m f k) (IsStandingPort m f k) (nets_in n)
      (λ w is. (is.0, parts.ports k w (sound.served k within) is.0 is.1)) (sound.ports k below within);
}
