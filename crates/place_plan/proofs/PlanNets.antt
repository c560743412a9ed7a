-- The terminals of a plan's nets are wires, and their numbers are small.
use Rattle.std.proofs.Common.{◌≡◌, ◌≢◌, ℕ, ◌+◌, ◌^◌, ◌<◌, ◌≤◌, List, [], ◌++◌, length, get_or, sym, ◌∙◌, subst, arith, length-append, ◌↔◌}
use Rattle.place_plan.proofs.Vocabulary.{All, AllPairs, Contains, range_with_len, get_or_default, length-map, Shape, Defects, All-left}
use Rattle.place_plan.proofs.Vocabulary.{All-right, Network, Source, table_at, no_table, IsNetwork, IsSourceOf, Plan, Terminal, net_of}
use Rattle.std.proofs.lemmas.List.Elements.{All-weaker, All-contains_itself, Contains-get_or}
use Rattle.std.proofs.lemmas.List.FromFn.{length-range_with_len}
use Rattle.machine_shape.specs.Vocabulary.{wires_of, tables_of, pins_of, pin_wire, table_wire, IsNumbered}
use Rattle.map_network.specs.declared.source.Source.TheVariants as source
use Rattle.place_plan.specs.Vocabulary.{nth_of, IsPlan, IsTerminal, drives, reads, shows, net_by, nets_in, number_of, place_of, places, HasTerminal, AreGrouped, ArePlanNets, IsSized, all_terminals, terminal_for}
use Rattle.place_plan.proofs.AllTerminals.{all_are}
use Rattle.place_plan.proofs.Counting.{pigeon}
use Rattle.place_plan.proofs.Ranges.{in_range}

-- different numbers below a count are no more than the count
pub few_below : (xs : List ℕ) (count : ℕ) → All (λ x. x < count) xs → AllPairs (λ x y. x ≢ y) xs → length xs ≤ count
few_below xs count all apart = subst (λ z. length xs ≤ z) (length-range_with_len 0 count) (pigeon xs (range_with_len 0 count) apart (All-weaker (λ x. x < count) (Contains (range_with_len 0 count)) (λ x l. in_range count x l) xs all))

module _ (m : Shape) (d : Defects) (n : Network) (p : Plan) (network : IsNetwork n) (plan : IsPlan m d n p) where
  net_below : (s : Source) → IsSourceOf n s → net_of n s < nets_in n
  net_below (source.Input k) is = let l : k < n.inputs = is in omega arith
  net_below (source.Table j) is = let l : j < length n.tables = is in omega arith

  pub sized_is : tables_of m ≤ 65536 → pins_of m ≤ 16384 → IsSized m n p
  sized_is few_tables few_pins = record {
    tables = sym plan.tables;
    inputs = sym plan.inputs;
    outputs = plan.outputs;
    tables_within = plan.tables_within;
    inputs_within = All-left (λ k. k < pins_of m) p.inputs p.outputs plan.pins_within;
    outputs_within = All-right (λ k. k < pins_of m) p.inputs p.outputs plan.pins_within;
    numbers = small;
    nets = λ j x l. All-weaker (IsSourceOf n) (λ s. net_by n.inputs s < 2 ^ 32) (λ s is. let b : net_of n s < nets_in n = net_below s is in let e = plan.tables in omega (arith, small)) (get_or n.tables j x).ins (network.sources j x l);
    shown = All-weaker (IsSourceOf n) (λ s. net_by n.inputs s < 2 ^ 32) (λ s is. let b : net_of n s < nets_in n = net_below s is in let e = plan.tables in omega (arith, small)) n.outputs network.outputs;
  }
    where
      tables_few : length (places p) ≤ tables_of m
      tables_few = few_below (places p) (tables_of m) plan.tables_within plan.tables_different

      pins_few : length (p.inputs ++ p.outputs) ≤ pins_of m
      pins_few = few_below (p.inputs ++ p.outputs) (pins_of m) plan.pins_within plan.pins_different

      small : n.inputs + length p.tables < 2 ^ 32
      small = omega (arith, tables_few, pins_few, few_tables, few_pins, length-map p.tables number_of, length-append p.inputs p.outputs, plan.inputs)

  module _ (numbered : IsNumbered m) where
    pin_within : (xs : List ℕ) (k : ℕ) → All (λ x. x < pins_of m) xs → k < length xs → pin_wire m (nth_of xs k) < wires_of m
    pin_within xs k all l = numbered.pins (nth_of xs k) (all k 0 l)

    table_within : (j k : ℕ) → j < length n.tables → k < 7 → table_wire m (place_of p j) k < wires_of m
    table_within j k l b = numbered.tables (place_of p j) k (plan.tables_within j 0 (omega (arith, length-map p.tables number_of, plan.tables))) b

    source_in : (j k : ℕ) (s : Source) → j < length n.tables → k < length (table_at n j).ins → get_or (table_at n j).ins k s ≡ s → IsSourceOf n s
    source_in j k s l b e = subst (IsSourceOf n) e (network.sources j no_table l k s b)

    pub terminal_within : (k w : ℕ) → IsTerminal m n p k w → w < wires_of m
    terminal_within k w (drives (source.Input i) is) = pin_within p.inputs i (All-left (λ x. x < pins_of m) p.inputs p.outputs plan.pins_within) (let l : i < n.inputs = is in let e = plan.inputs in omega arith)
    terminal_within k w (drives (source.Table j) is) = table_within j 6 is (omega arith)
    terminal_within k w (reads j i s l b e) = table_within j i l (let f : length (table_at n j).ins ≤ 6 = network.narrow j no_table l in omega arith)
    terminal_within k w (shows o s l e) = pin_within p.outputs o (All-right (λ x. x < pins_of m) p.inputs p.outputs plan.pins_within) (let f = plan.outputs in omega arith)

    pub terminal_net : (k w : ℕ) → IsTerminal m n p k w → k < nets_in n
    terminal_net k w (drives s is) = net_below s is
    terminal_net k w (reads j i s l b e) = net_below s (source_in j i s l b e)
    terminal_net k w (shows o s l e) = net_below s (subst (IsSourceOf n) e (network.outputs o s l))

    listed : (k w : ℕ) → Contains (all_terminals m n p) (terminal_for k w) ↔ IsTerminal m n p k w
    listed = all_are m n p plan.tables plan.inputs plan.outputs

    pub nets_small : (ts : List Terminal) → ts ≡ all_terminals m n p → All (λ t. t.net.0 < nets_in n) ts
    nets_small ts e i t l =
        let x : Terminal = get_or ts i t in
        let c : Contains (all_terminals m n p) x = subst (λ z. Contains z x) e (All-contains_itself ts i t l) in
        terminal_net x.net.0 x.wire.0 ((listed x.net.0 x.wire.0).0 c)

    pub plan_nets : (ts : List Terminal) (nets : List (List ℕ)) (count : ℕ) → ts ≡ all_terminals m n p → count ≡ nets_in n → count < 2 ^ 32 → AreGrouped count ts nets → ArePlanNets m n p nets
    plan_nets ts nets count e f lt are = record {
      sized = are.sized ∙ f;
      few = subst (λ z. z < 2 ^ 32) (sym are.sized) lt;
      same = λ k w. (λ h. there k w h, λ t. (are.same k w).1 (subst (λ z. Contains z (terminal_for k w)) (sym e) ((listed k w).1 t)));
      within = λ k x l i y b. terminal_within k (get_or (get_or nets k x) i y) (there k (get_or (get_or nets k x) i y) (subst (λ z. Contains z (get_or (get_or nets k x) i y)) (get_or_default nets k x [] l) (Contains-get_or (get_or nets k x) i y b)));
    }
      where
        there : (k w : ℕ) → HasTerminal nets k w → IsTerminal m n p k w
        there k w h = (listed k w).0 (subst (λ z. Contains z (terminal_for k w)) e ((are.same k w).0 h))
