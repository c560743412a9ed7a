-- Where a network sits on a machine: the terminals of its nets, the in-order plan, and when a plan fits.
use Rattle.std.specs.Prelude.{◌≡◌, ◌≢◌, ℕ, ◌+◌, ◌<◌, ◌≤◌, ◌++◌, List, map, length, take, drop, min, slice_index_or}
use Rattle.std.specs.List.{All, AllPairs}
use Rattle.machine_shape.specs.{declared.Shape.Shape, Bounds.most_ticks, Shape.tables_of, Shape.pins_of, Shape.pin_wire, Shape.table_wire}
use Rattle.machine_shape.specs.declared.Table.{Table}
use Rattle.machine_meaning.specs.Defects.{Defects, IsFreeWire, IsFreeTable}
use Rattle.map_network.specs.{declared.network.Network.Network, declared.source.Source.Source, Networks.table_at, Networks.IsSourceOf}
use Rattle.map_network.specs.declared.source.Source.TheVariants as source
use Rattle.place_plan.specs.{declared.plan.Plan.Plan, Lists.AreThose, Lists.nth_of, Room.IsMet, Room.IsUnmet, Room.IsShortOf, Room.Suffices}
use Rattle.place_plan.specs.declared.short.{Need.Need, PlaceFail.PlaceFail, Short.Short}
use Rattle.place_plan.specs.declared.short.PlaceFail.TheVariants as fail
use Rattle.place_plan.specs.declared.short.Resource.{Resource, TheVariants.Tables, TheVariants.Pins, TheVariants.Ports, TheVariants.Lines}

abbrev pub number_of : Table → ℕ
number_of t = t.0

-- the tables of the machine on which the tables of the network sit
abbrev pub places : Plan → List ℕ
places p = map number_of p.tables

abbrev pub place_of : Plan → ℕ → ℕ
place_of p j = nth_of (places p) j

-- the wire of the pin or the output that drives a net
abbrev pub driver_of : Shape → Plan → Source → ℕ
driver_of m p (source.Input k) = pin_wire m (nth_of p.inputs k)
driver_of m p (source.Table j) = table_wire m (place_of p j) 6

-- a net belongs to each input, in order, then to each table, in order
abbrev pub net_by : ℕ → Source → ℕ
net_by inputs (source.Input k) = k
net_by inputs (source.Table j) = inputs + j

abbrev pub net_of : Network → Source → ℕ
net_of n s = net_by n.inputs s

-- how many nets there are
abbrev pub nets_in : Network → ℕ
nets_in n = n.inputs + length n.tables

-- The terminals of the nets: what drives each, and the table input pins and output pins that read it.
pub data IsTerminal (m : Shape) (n : Network) (p : Plan) : ℕ → ℕ → Type 0 where
  drives : (s : Source) → IsSourceOf n s → IsTerminal m n p (net_of n s) (driver_of m p s)
  reads : (j k : ℕ) (s : Source) → j < length n.tables → k < length (table_at n j).ins → slice_index_or (table_at n j).ins k s ≡ s →
      IsTerminal m n p (net_of n s) (table_wire m (place_of p j) k)
  shows : (o : ℕ) (s : Source) → o < length n.outputs → slice_index_or n.outputs o s ≡ s →
      IsTerminal m n p (net_of n s) (pin_wire m (nth_of p.outputs o))

-- a plan for the network, on free and different tables and pins of the machine
pub record IsPlan (m : Shape) (d : Defects) (n : Network) (p : Plan) : Type 0 where
  pub tables : length p.tables ≡ length n.tables
  pub inputs : length p.inputs ≡ n.inputs
  pub outputs : length p.outputs ≡ length n.outputs
  pub tables_within : All (λ t. t < tables_of m) (places p)
  pub pins_within : All (λ k. k < pins_of m) (p.inputs ++ p.outputs)
  pub tables_free : All (IsFreeTable m d) (places p)
  pub pins_free : All (λ k. IsFreeWire d (pin_wire m k)) (p.inputs ++ p.outputs)
  pub tables_different : AllPairs (λ t u. t ≢ u) (places p)
  pub pins_different : AllPairs (λ k l. k ≢ l) (p.inputs ++ p.outputs)

-- the free tables and pins of the machine
abbrev pub IsFreeTableOf : Shape → Defects → ℕ → Type 0
IsFreeTableOf m d t = (t < tables_of m) × IsFreeTable m d t

abbrev pub IsFreePin : Shape → Defects → ℕ → Type 0
IsFreePin m d k = IsFreeWire d (pin_wire m k)

abbrev pub IsFreePinOf : Shape → Defects → ℕ → Type 0
IsFreePinOf m d k = (k < pins_of m) × IsFreePin m d k

-- how many tables and pins the network wants, and how many are free; of tables at most as many as may be on
pub record AreNeeds (m : Shape) (d : Defects) (n : Network) (tables pins : Need) : Type 0 where
  pub free_tables : List ℕ
  pub free_pins : List ℕ
  pub are_tables : AreThose (IsFreeTableOf m d) free_tables
  pub are_pins : AreThose (IsFreePinOf m d) free_pins
  pub tables_need : tables.need ≡ length n.tables
  pub tables_have : tables.have ≡ min (length free_tables) (most_ticks m)
  pub pins_need : pins.need ≡ n.inputs + length n.outputs
  pub pins_have : pins.have ≡ length free_pins

-- The k-th table of the network sits on the k-th free table; the inputs, then the outputs, on the free pins in order.
pub record IsInOrder (m : Shape) (d : Defects) (n : Network) (p : Plan) : Type 0 where
  pub free_tables : List ℕ
  pub free_pins : List ℕ
  pub are_tables : AreThose (IsFreeTableOf m d) free_tables
  pub are_pins : AreThose (IsFreePinOf m d) free_pins
  pub tables_met : length n.tables ≤ length free_tables
  pub pins_met : n.inputs + length n.outputs ≤ length free_pins
  pub tables_are : places p ≡ take (length n.tables) free_tables
  pub inputs_are : p.inputs ≡ take n.inputs free_pins
  pub outputs_are : p.outputs ≡ take (length n.outputs) (drop n.inputs free_pins)

-- the plan sits so on these free tables and pins
pub record IsInOrderOf (n : Network) (free_tables free_pins : List ℕ) (p : Plan) : Type 0 where
  pub tables_are : places p ≡ take (length n.tables) free_tables
  pub inputs_are : p.inputs ≡ take n.inputs free_pins
  pub outputs_are : p.outputs ≡ take (length n.outputs) (drop n.inputs free_pins)

-- tables, pins, ports and lines suffice for the plan
pub record Fits (m : Shape) (d : Defects) (n : Network) (p : Plan) : Type 0 where
  pub tables : Need
  pub pins : Need
  pub needs : AreNeeds m d n tables pins
  pub suffices : Suffices m d (nets_in n) (IsTerminal m n p) tables pins

-- the first short resource of the in-order plan, which stands where tables and pins suffice
abbrev pub InOrderIsShort : Resource → Shape → Defects → Network → Need → Need → Short → Type 0
InOrderIsShort Tables m d n tables pins s = (s.node.0 ≡ 0) × IsUnmet tables s
InOrderIsShort Pins m d n tables pins s = IsMet tables × (s.node.0 ≡ 0) × IsUnmet pins s
InOrderIsShort Ports m d n tables pins s = (p : Plan) × IsInOrder m d n p × IsShortOf Ports m d (nets_in n) (IsTerminal m n p) tables pins s
InOrderIsShort Lines m d n tables pins s = (p : Plan) × IsInOrder m d n p × IsShortOf Lines m d (nets_in n) (IsTerminal m n p) tables pins s

pub record IsShortInOrder (m : Shape) (d : Defects) (n : Network) (s : Short) : Type 0 where
  pub tables : Need
  pub pins : Need
  pub needs : AreNeeds m d n tables pins
  pub short : InOrderIsShort s.resource m d n tables pins s

-- why there is no place: room is short, or memory is lacking, of which nothing is said
abbrev pub IsPlaceFail : Shape → Defects → Network → PlaceFail → Type 0
IsPlaceFail m d n (fail.Short s) = IsShortInOrder m d n s
IsPlaceFail m d n fail.Memory = Unit {0}

-- the in-order plan, which fits
pub record FitsInOrder (m : Shape) (d : Defects) (n : Network) (p : Plan) : Type 0 where
  pub plan : IsPlan m d n p
  pub in_order : IsInOrder m d n p
  pub fits : Fits m d n p
