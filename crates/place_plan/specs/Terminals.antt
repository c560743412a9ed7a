-- The terminals of a network's nets, as lists.
use Rattle.std.specs.Prelude.{◌≡◌, ◌↔◌, ℕ, ◌+◌, ◌<◌, ◌^◌, List, length, map, ◌++◌, slice_index_or}
use Rattle.std.specs.List.{All, Contains, flat_map, range_with_len}
use Rattle.machine_shape.specs.{declared.Shape.Shape, Shape.tables_of, Shape.pins_of, Shape.pin_wire, Shape.table_wire}
use Rattle.map_network.specs.{declared.network.Network.Network, declared.source.Source.Source, Networks.table_at}
use Rattle.map_network.specs.declared.source.Source.TheVariants as source
use Rattle.place_plan.specs.{declared.plan.Plan.Plan, Choices.AreWires, Lists.nth_of, Room.HasTerminal}
use Rattle.place_plan.specs.{declared.terminals.Terminal.Terminal, Plans.IsTerminal, Plans.net_by, Plans.nets_in, Plans.places}

-- the wire w as a terminal of net k
abbrev pub terminal_for : ℕ → ℕ → Terminal
terminal_for k w = record { net = record { 0 = k }; wire = record { 0 = w } }

abbrev pub first_input : Source
first_input = source.Input 0

abbrev pub source_at : List Source → ℕ → Source
source_at sources k = slice_index_or sources k first_input

-- what a table's k-th pin reads
abbrev pub read_by : Shape → ℕ → ℕ → List Source → ℕ → Terminal
read_by m inputs place sources k = terminal_for (net_by inputs (source_at sources k)) (table_wire m place k)

-- what its first pins read
abbrev pub reads_of : Shape → ℕ → ℕ → List Source → ℕ → List Terminal
reads_of m inputs place sources n = map (read_by m inputs place sources) (range_with_len 0 n)

abbrev pub reads_at : Shape → Network → List ℕ → ℕ → List Terminal
reads_at m n places j = reads_of m n.inputs (nth_of places j) (table_at n j).ins (length (table_at n j).ins)

-- what the first tables of a network read
abbrev pub reads_to : Shape → Network → List ℕ → ℕ → List Terminal
reads_to m n places j = flat_map (reads_at m n places) (range_with_len 0 j)

abbrev pub drive_by : Shape → List ℕ → ℕ → Terminal
drive_by m ins k = terminal_for k (pin_wire m (nth_of ins k))

abbrev pub drive_terminals : Shape → List ℕ → ℕ → List Terminal
drive_terminals m ins n = map (drive_by m ins) (range_with_len 0 n)

abbrev pub give_by : Shape → ℕ → List ℕ → ℕ → Terminal
give_by m inputs places j = terminal_for (inputs + j) (table_wire m (nth_of places j) 6)

abbrev pub gives_of : Shape → ℕ → List ℕ → ℕ → List Terminal
gives_of m inputs places n = map (give_by m inputs places) (range_with_len 0 n)

abbrev pub show_by : Shape → ℕ → List ℕ → List Source → ℕ → Terminal
show_by m inputs outs sources o = terminal_for (net_by inputs (source_at sources o)) (pin_wire m (nth_of outs o))

abbrev pub shows_of : Shape → ℕ → List ℕ → List Source → ℕ → List Terminal
shows_of m inputs outs sources n = map (show_by m inputs outs sources) (range_with_len 0 n)

-- all terminals, net numbers and wires
abbrev pub all_terminals : Shape → Network → Plan → List Terminal
all_terminals m n p = ((drive_terminals m p.inputs (length p.inputs) ++ gives_of m n.inputs (places p) (length p.tables)) ++ reads_to m n
    (places p) (length p.tables)) ++ shows_of m n.inputs p.outputs n.outputs (length p.outputs)

-- the nets of these sources have numbers below the count
abbrev pub NetsBelow : ℕ → ℕ → List Source → Type 0
NetsBelow inputs count sources = All (λ s. net_by inputs s < count) sources

-- the lists have the wires of these terminals by their nets
pub record AreGrouped (count : ℕ) (ts : List Terminal) (nets : List (List ℕ)) : Type 0 where
  pub sized : length nets ≡ count
  pub same : (k w : ℕ) → HasTerminal nets k w ↔ Contains ts (terminal_for k w)

-- what the lists of terminals ask of a plan for a network
pub record IsSized (m : Shape) (n : Network) (p : Plan) : Type 0 where
  pub tables : length n.tables ≡ length p.tables
  pub inputs : n.inputs ≡ length p.inputs
  pub outputs : length p.outputs ≡ length n.outputs
  pub tables_within : All (λ t. t < tables_of m) (places p)
  pub inputs_within : All (λ k. k < pins_of m) p.inputs
  pub outputs_within : All (λ k. k < pins_of m) p.outputs
  pub numbers : n.inputs + length p.tables < 2 ^ 32
  pub nets : All (λ t. NetsBelow n.inputs (2 ^ 32) t.ins) n.tables
  pub shown : NetsBelow n.inputs (2 ^ 32) n.outputs

-- the lists are those of the terminals of the plan's nets
pub record ArePlanNets (m : Shape) (n : Network) (p : Plan) (nets : List (List ℕ)) : Type 0 where
  pub sized : length nets ≡ nets_in n
  pub few : length nets < 2 ^ 32
  pub same : (k w : ℕ) → HasTerminal nets k w ↔ IsTerminal m n p k w
  pub within : All (AreWires m) nets
