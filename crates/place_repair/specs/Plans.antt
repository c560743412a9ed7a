-- The repair plan: which tables and pins of an image go and whither, which of its nets move, and whether there is room for these.
use Rattle.std.specs.Prelude.{◌≡◌, ◌↔◌, ℕ, ◌<◌, Bool, true, false, not, List, length, ◌++◌, IsSome, None, slice_index_or}
use Rattle.std.specs.List.{Contains, filter}
use Rattle.std.specs.FinSet as set
use Rattle.machine_shape.specs.{declared.Shape.Shape, Shape.ends_of, Shape.pin_wire, Shape.table_wire, Shape.pins_of, Shape.tables_of}
use Rattle.machine_meaning.specs.Defects.{Defects, IsFreeWire, IsFreeTable}
use Rattle.machine_defects.specs.Lists.{is_free_wire}
use Rattle.machine_config.specs.Configuration.{setting_of}
use Rattle.machine_image.specs.Vocabulary.{ImageValue, Uses}
use Rattle.place_plan.specs.declared.short.{Need.Need, Short.Short}
use Rattle.place_plan.specs.declared.short.Resource.{Resource, TheVariants.Tables, TheVariants.Pins, TheVariants.Ports, TheVariants.Lines}
use Rattle.place_plan.specs.Vocabulary.{AreThose, IsNth, IsFreePin, HasTerminal, IsMet, IsUnmet, IsShortOf, Suffices}
use Rattle.place_repair.specs.{declared.seats.Moves.Moves, declared.seats.Seats.Seats, Nets.HasWire, Nets.AreNumbered, Nets.IsKept}

-- ---- tables and pins

-- a free table that is off and has no pin that the image uses
pub record IsSpareTable (d : Defects) (i : ImageValue) (t : ℕ) : Type 0 where
  pub within : t < tables_of i.config.shape
  pub free : IsFreeTable i.config.shape d t
  pub off : setting_of i.config t ≡ None
  pub unused : (k : ℕ) → k < 7 → ¬ Uses i (table_wire i.config.shape t k)

-- a free pin that the image doesn't use
pub record IsSparePin (d : Defects) (i : ImageValue) (p : ℕ) : Type 0 where
  pub within : p < pins_of i.config.shape
  pub free : IsFreePin i.config.shape d p
  pub unused : ¬ Uses i (pin_wire i.config.shape p)

-- a switched-on table that isn't free
abbrev pub IsGoneTable : Defects → ImageValue → ℕ → Type 0
IsGoneTable d i t = IsSome (setting_of i.config t) × ¬ IsFreeTable i.config.shape d t

-- the pin isn't free
abbrev pub is_gone_pin : Shape → Defects → ℕ → Bool
is_gone_pin m d p = not (is_free_wire d (pin_wire m p))

-- Switched-on tables that aren't free go, and pins of the image, inputs before outputs.
pub record AreSeats (d : Defects) (i : ImageValue) (s : Seats) : Type 0 where
  pub tables_gone : AreThose (IsGoneTable d i) s.tables.gone
  pub tables_spare : AreThose (IsSpareTable d i) s.tables.spare
  pub pins_gone : s.pins.gone ≡ filter (is_gone_pin i.config.shape d) (i.inputs ++ i.outputs)
  pub pins_spare : AreThose (IsSparePin d i) s.pins.spare

-- what is at t is at u in the plan: a free one stays, and the k-th that goes goes to the k-th that is spare
pub data SitsAt (IsFree : ℕ → Type 0) (moves : Moves) (t u : ℕ) : Type 0 where
  stays : IsFree t → t ≡ u → SitsAt IsFree moves t u
  goes : (k : ℕ) → IsNth moves.gone k t → IsNth moves.spare k u → SitsAt IsFree moves t u

abbrev pub TableSits : Defects → ImageValue → Seats → ℕ → ℕ → Type 0
TableSits d i s t u = SitsAt (IsFreeTable i.config.shape d) s.tables t u

abbrev pub PinSits : Defects → ImageValue → Seats → ℕ → ℕ → Type 0
PinSits d i s p q = SitsAt (IsFreePin i.config.shape d) s.pins p q

-- so many go, and so many are spare
abbrev pub need_of : Moves → Need
need_of moves = record { need = length moves.gone; have = length moves.spare }

-- ---- nets

-- The wire is a terminal of net k: a pin of the image or of a switched-on table, where it stays or to which it goes.
pub data IsTerminal (d : Defects) (i : ImageValue) (s : Seats) (lowest : List ℕ) (k w : ℕ) : Type 0 where
  at_pin : (p q : ℕ) → Contains (i.inputs ++ i.outputs) p → HasWire i.config lowest k (pin_wire i.config.shape p) → PinSits d i s p q →
      pin_wire i.config.shape q ≡ w → IsTerminal d i s lowest k w
  at_table : (t u j : ℕ) → IsSome (setting_of i.config t) → j < 7 → HasWire i.config lowest k (table_wire i.config.shape t j) →
      TableSits d i s t u → table_wire i.config.shape u j ≡ w → IsTerminal d i s lowest k w

-- the lowest wire of each net, whether it moves, the terminals of those that move, and the defects with what is kept
pub record Nets : Type 0 where
  pub lowest : List ℕ
  pub moves : List Bool
  pub terminals : List (List ℕ)
  pub rest : Defects

-- net k moves, and it stays
abbrev pub IsMoving : Nets → ℕ → Type 0
IsMoving n k = (k < length n.lowest) × (slice_index_or n.moves k false ≡ true)

abbrev pub IsStaying : Nets → ℕ → Type 0
IsStaying n k = (k < length n.lowest) × (slice_index_or n.moves k false ≡ false)

-- a net that stays has the wire
abbrev pub IsKeptWire : ImageValue → Nets → ℕ → Type 0
IsKeptWire i n w = (k : ℕ) × IsStaying n k × HasWire i.config n.lowest k w

-- each net that can't be kept moves
pub record AreMoves (d : Defects) (i : ImageValue) (lowest : List ℕ) (moves : List Bool) : Type 0 where
  pub sized : length moves ≡ length lowest
  pub kept : (k : ℕ) → k < length lowest → slice_index_or moves k false ≡ false → IsKept d i lowest k
  pub moving : (k : ℕ) → k < length lowest → slice_index_or moves k false ≡ true → ¬ IsKept d i lowest k

-- What a list of defects and the kept nets leave: a wire is free where the list leaves it and no kept net has it, and a
-- crosspoint is listed as before where both its ends are free.
pub record IsRest (d : Defects) (i : ImageValue) (n : Nets) : Type 0 where
  pub wires : (w : ℕ) → IsFreeWire n.rest w ↔ (IsFreeWire d w × ¬ IsKeptWire i n w)
  pub crosses : (x : ℕ) → (set.contains n.rest.crosses x ≡ true)
      ↔ ((set.contains d.crosses x ≡ true) × IsFreeWire n.rest (ends_of i.config.shape x).0 ×
      IsFreeWire n.rest (ends_of i.config.shape x).1)
  pub tables : n.rest.tables ≡ set.empty

pub record AreNets (d : Defects) (i : ImageValue) (s : Seats) (n : Nets) : Type 0 where
  pub numbered : AreNumbered i.config n.lowest
  pub moves_are : AreMoves d i n.lowest n.moves
  pub sized : length n.terminals ≡ length n.lowest
  pub terminals_are : (k w : ℕ) → HasTerminal n.terminals k w ↔ (IsMoving n k × IsTerminal d i s n.lowest k w)
  pub rest_is : IsRest d i n

-- ---- room

-- there is room for the plan: for the tables and pins that go, and for the nets that move beside those that are kept
abbrev pub HasRoom : ImageValue → Seats → Nets → Type 0
HasRoom i s n = Suffices i.config.shape n.rest (length n.lowest) (HasTerminal n.terminals) (need_of s.tables) (need_of s.pins)

-- by the resource
abbrev pub IsShortHere : Resource → ImageValue → Seats → Nets → Short → Type 0
IsShortHere r i s n short =
    IsShortOf r i.config.shape n.rest (length n.lowest) (HasTerminal n.terminals) (need_of s.tables) (need_of s.pins) short

-- the first short resource of the plan; nets are looked at only where tables and pins suffice
abbrev pub IsFirstShortBy : Resource → Defects → ImageValue → Seats → Short → Type 0
IsFirstShortBy Tables d i s short = (short.node.0 ≡ 0) × IsUnmet (need_of s.tables) short
IsFirstShortBy Pins d i s short = IsMet (need_of s.tables) × (short.node.0 ≡ 0) × IsUnmet (need_of s.pins) short
IsFirstShortBy Ports d i s short = (n : Nets) × AreNets d i s n × IsShortHere Ports i s n short
IsFirstShortBy Lines d i s short = (n : Nets) × AreNets d i s n × IsShortHere Lines i s n short

pub record IsShortPlan (d : Defects) (i : ImageValue) (short : Short) : Type 0 where
  pub seats : Seats
  pub seats_are : AreSeats d i seats
  pub first : IsFirstShortBy short.resource d i seats short
