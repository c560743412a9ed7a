-- What the steps of a repair have made.
use Rattle.std.specs.Prelude.{◌≡◌, ◌≢◌, ◌⊎◌, ◌↔◌, ℕ, ◌<◌, ◌≤◌, Bool, true, false, List, ◌++◌, length, map, IsSome, slice_index_or}
use Rattle.std.specs.List.{Contains, AllPairs}
use Rattle.std.specs.FinSet as set
use Rattle.machine_shape.specs.declared.{Cross.Cross, Shape.Shape, Table.Table}
use Rattle.machine_shape.specs.Shape.{ends_of, wires_of, pins_of, pin_wire, table_wire, tables_of}
use Rattle.machine_meaning.specs.Defects.{Defects, IsFreeCross, IsFreeTable, IsFreeWire}
use Rattle.machine_defects.specs.Lists.{DefectList}
use Rattle.machine_config.specs.Configuration.{Configuration, is_closed, setting_of, with_ticks}
use Rattle.machine_image.specs.Images.{ImageValue, IsImage}
use Rattle.place_plan.specs.declared.short.{Need.Need, Port.Port, Room.Room, Visit.Visit}
use Rattle.place_plan.specs.Vocabulary.{AreThose, nth_of, HasTerminal, IsRoom}
use Rattle.place_route.specs.Vocabulary.{Closes, IsJoined}
use Rattle.place_repair.specs.{declared.nets.NetList.NetList, Marks.AreMarks, Marks.HasMark, Nets.HasWire, Nets.IsEnd, Nets.IsLowest}
use Rattle.place_repair.specs.{declared.plan.Plan.Plan, declared.seats.Moves.Moves, declared.seats.Seats.Seats, Groups.AreLowest}
use Rattle.place_repair.specs.Plans.{AreMoves}

-- ---- wires that are used

-- the wire is one of the crosspoint's, of these pins, of the first pins of a table, of a switched-on table
abbrev pub IsEndOf : Shape → ℕ → ℕ → Type 0
IsEndOf m x w = ((ends_of m x).0 ≡ w) ⊎ ((ends_of m x).1 ≡ w)

abbrev pub IsPinOf : Shape → List ℕ → ℕ → Type 0
IsPinOf m pins w = (k : ℕ) × Contains pins k × (pin_wire m k ≡ w)

abbrev pub IsTablePin : Shape → ℕ → ℕ → ℕ → Type 0
IsTablePin m t n w = (j : ℕ) × (j < n) × (table_wire m t j ≡ w)

abbrev pub IsOnPin : Configuration → ℕ → Type 0
IsOnPin g w = (t : ℕ) × (IsSome (setting_of g t)) × IsTablePin g.shape t 7 w

-- one of the image's pins, or one of a switched-on table
abbrev pub IsSeatPin : ImageValue → ℕ → Type 0
IsSeatPin i w = IsPinOf i.config.shape (i.inputs ++ i.outputs) w ⊎ IsOnPin i.config w

-- ---- nets

-- each of these wires has its place among them
abbrev pub AreNumbers : List ℕ → List ℕ → Type 0
AreNumbers wires numbers = (k : ℕ) → k < length wires → slice_index_or numbers (nth_of wires k) 0 ≡ k

-- so it is for the first ones
pub record AreNumbersTo (n : ℕ) (wires numbers : List ℕ) : Type 0 where
  pub each : (k : ℕ) → k < n → slice_index_or numbers (nth_of wires k) 0 ≡ k

pub record AreNetsOf (g : Configuration) (n : NetList) : Type 0 where
  pub lows_are : AreLowest g n.lows.items
  pub touched_are : AreMarks (wires_of g.shape) (IsEnd g) n.touched.items
  pub lowest_are : AreThose (IsLowest g) n.lowest
  pub numbered : length n.numbers.items ≡ wires_of g.shape
  pub numbers_are : AreNumbers n.lowest n.numbers.items
  pub few : length n.lowest ≤ wires_of g.shape

-- ---- nets that move

-- net k has a closed crosspoint that isn't free
abbrev pub IsUnfreeCrossOf : Defects → Configuration → List ℕ → ℕ → ℕ → Type 0
IsUnfreeCrossOf d g lowest x k = (¬ IsFreeCross g.shape d x) × HasWire g lowest k (ends_of g.shape x).0

abbrev pub IsUnfreeCross : Defects → Configuration → List ℕ → ℕ → Type 0
IsUnfreeCross d g lowest k = (x : ℕ) × (is_closed g x ≡ true) × IsUnfreeCrossOf d g lowest x k

-- one of the first pins of a table, and a table that isn't free
abbrev pub IsBrokenBy : Configuration → List ℕ → ℕ → ℕ → ℕ → Type 0
IsBrokenBy g lowest t n k = (j : ℕ) × (j < n) × HasWire g lowest k (table_wire g.shape t j)

abbrev pub IsBrokenHere : Defects → Configuration → List ℕ → ℕ → ℕ → Type 0
IsBrokenHere d g lowest t k = (¬ IsFreeTable g.shape d t) × IsBrokenBy g lowest t 7 k

abbrev pub IsUnfreeTable : Defects → Configuration → List ℕ → ℕ → Type 0
IsUnfreeTable d g lowest k = (t : ℕ) × (IsSome (setting_of g t)) × IsBrokenHere d g lowest t k

abbrev pub IsBroken : Defects → Configuration → List ℕ → ℕ → Type 0
IsBroken d g lowest k = IsUnfreeCross d g lowest k ⊎ IsUnfreeTable d g lowest k

-- ---- seats

-- the first pins of a table aren't used
abbrev pub IsUnusedTo : List Bool → Shape → ℕ → ℕ → Type 0
IsUnusedTo used m t n = (j : ℕ) → j < n → slice_index_or used (table_wire m t j) false ≡ false

-- the first that go have their places, and of the others nothing changes
pub record IsPut (gone spare : List ℕ) (n : ℕ) (old new : List ℕ) : Type 0 where
  pub sized : length new ≡ length old
  pub put : (k : ℕ) → k < n → nth_of new (nth_of gone k) ≡ nth_of spare k
  pub others : (t : ℕ) → ((k : ℕ) → k < n → nth_of gone k ≢ t) → nth_of new t ≡ nth_of old t

-- what goes has its place, and of so many the others stay
pub record ArePlaces (count : ℕ) (moves : Moves) (places : List ℕ) : Type 0 where
  pub sized : length places ≡ count
  pub put : (k : ℕ) → k < length moves.gone → nth_of places (nth_of moves.gone k) ≡ nth_of moves.spare k
  pub others : (t : ℕ) → t < count → ((k : ℕ) → k < length moves.gone → nth_of moves.gone k ≢ t) → nth_of places t ≡ t

-- ---- the plan

pub record IsPlanOf (d : Defects) (i : ImageValue) (s : Seats) (p : Plan) : Type 0 where
  pub nets_are : AreNetsOf i.config p.nets
  pub moves_are : AreMoves d i p.nets.lowest p.moves.items
  pub tables_are : ArePlaces (tables_of i.config.shape) s.tables p.tables.items
  pub pins_are : ArePlaces (pins_of i.config.shape) s.pins p.pins.items

-- it has a place for each table and pin, on the machine
pub record AreSizedFor (g : Configuration) (p : Plan) : Type 0 where
  pub nets_are : AreNetsOf g p.nets
  pub moves_sized : length p.moves.items ≡ length p.nets.lowest
  pub tables_sized : length p.tables.items ≡ tables_of g.shape
  pub tables_within : (t : ℕ) → t < tables_of g.shape → nth_of p.tables.items t < tables_of g.shape
  pub pins_sized : length p.pins.items ≡ pins_of g.shape
  pub pins_within : (k : ℕ) → k < pins_of g.shape → nth_of p.pins.items k < pins_of g.shape

-- ---- terminals

-- this net claims this wire
abbrev pub IsNetWire : ℕ → ℕ → ℕ → ℕ → Type 0
IsNetWire net wire k w = (net ≡ k) × (wire ≡ w)

-- what nets claim is added to their lists
pub record IsAdded (claims : ℕ → ℕ → Type 0) (old new : List (List ℕ)) : Type 0 where
  pub sized : length new ≡ length old
  pub only : (k w : ℕ) → HasTerminal new k w → HasTerminal old k w ⊎ claims k w
  pub each : (k w : ℕ) → claims k w → HasTerminal new k w
  pub kept : (k w : ℕ) → HasTerminal old k w → HasTerminal new k w

-- net k moves and has the first wire, and the second is w
abbrev pub IsMovedTo : Configuration → Plan → ℕ → ℕ → ℕ → ℕ → Type 0
IsMovedTo g p from to k w = HasMark p.moves.items k × HasWire g p.nets.lowest k from × (to ≡ w)

-- so for one of these pins, for one of the first pins of a table that stands at u, and for a switched-on table
abbrev pub IsPinTerminal : Configuration → Plan → List ℕ → ℕ → ℕ → Type 0
IsPinTerminal g p pins k w = (q : ℕ) × Contains pins q × IsMovedTo g p (pin_wire g.shape q) (pin_wire g.shape (nth_of p.pins.items q)) k w

abbrev pub IsTablePinTerminal : Configuration → Plan → ℕ → ℕ → ℕ → ℕ → ℕ → Type 0
IsTablePinTerminal g p t u n k w = (j : ℕ) × (j < n) × IsMovedTo g p (table_wire g.shape t j) (table_wire g.shape u j) k w

abbrev pub IsTableTerminal : Configuration → Plan → ℕ → ℕ → Type 0
IsTableTerminal g p k w = (t : ℕ) × (IsSome (setting_of g t)) × IsTablePinTerminal g p t (nth_of p.tables.items t) 7 k w

pub record AreTerminalsOf (i : ImageValue) (p : Plan) (lists : List (List ℕ)) : Type 0 where
  pub sized : length lists ≡ length p.nets.lowest
  pub only : (k w : ℕ) → HasTerminal lists k w → IsPinTerminal i.config p (i.inputs ++ i.outputs) k w ⊎ IsTableTerminal i.config p k w
  pub by_pin : (k w : ℕ) → IsPinTerminal i.config p (i.inputs ++ i.outputs) k w → HasTerminal lists k w
  pub by_table : (k w : ℕ) → IsTableTerminal i.config p k w → HasTerminal lists k w

-- ---- what is left free

-- a net that stays has the wire
abbrev pub HasStayingWire : Configuration → Plan → ℕ → Type 0
HasStayingWire g p w = (k : ℕ) × (slice_index_or p.moves.items k false ≡ false) × HasWire g p.nets.lowest k w

abbrev pub IsTaken : Defects → Configuration → Plan → ℕ → Type 0
IsTaken d g p w = (set.contains d.wires w ≡ true) ⊎ HasStayingWire g p w

-- of the first wires those are listed that are taken, and nothing else
pub record IsWireRest (d : Defects) (g : Configuration) (p : Plan) (n : ℕ) (rest : DefectList) : Type 0 where
  pub shape : rest.shape ≡ g.shape
  pub only : (w : ℕ) → set.contains rest.list.wires w ≡ true → (w < n) × IsTaken d g p w
  pub each : (w : ℕ) → w < n → IsTaken d g p w → set.contains rest.list.wires w ≡ true
  pub crosses : (x : ℕ) → set.contains rest.list.crosses x ≡ false
  pub tables : (t : ℕ) → set.contains rest.list.tables t ≡ false

-- of the first crosspoints those are listed besides that the one list holds not free and whose ends the other leaves free
pub record IsCrossRest (d old : DefectList) (n : ℕ) (new : DefectList) : Type 0 where
  pub shape : new.shape ≡ old.shape
  pub wires : new.list.wires ≡ old.list.wires
  pub tables : new.list.tables ≡ old.list.tables
  pub only : (x : ℕ) → set.contains new.list.crosses x ≡ true → (set.contains old.list.crosses x ≡ true)
      ⊎ ((x < n) × (¬ IsFreeCross d.shape d.list x) × IsFreeWire old.list (ends_of d.shape x).0 × IsFreeWire old.list (ends_of d.shape x).1)
  pub each : (x : ℕ) → x < n → ¬ IsFreeCross d.shape d.list x → IsFreeWire old.list (ends_of d.shape x).0 →
      IsFreeWire old.list (ends_of d.shape x).1 → set.contains new.list.crosses x ≡ true

-- a wire is free where the list leaves it and no net that stays has it
pub record IsRestOf (d : Defects) (g : Configuration) (p : Plan) (rest : DefectList) : Type 0 where
  pub shape : rest.shape ≡ g.shape
  pub wires : (w : ℕ) → IsFreeWire rest.list w ↔ (IsFreeWire d w × ¬ HasStayingWire g p w)
  pub crosses : (x : ℕ) → (set.contains rest.list.crosses x ≡ true)
      ↔ ((set.contains d.crosses x ≡ true) × IsFreeWire rest.list (ends_of g.shape x).0 × IsFreeWire rest.list (ends_of g.shape x).1)
  pub tables : rest.list.tables ≡ set.empty

-- there is room for these lists on what is left, or this is short
pub record IsRoomBeside (d : Defects) (g : Configuration) (p : Plan) (lists : List (List ℕ)) (tables pins : Need) (room : Room) : Type 0 where
  pub rest : DefectList
  pub left : IsRestOf d g p rest
  pub is : IsRoom g.shape rest.list (length lists) (HasTerminal lists) tables pins room

-- ---- what is drawn

-- the closed crosspoint is of a net that stays
abbrev pub IsKeptCrossOf : Configuration → Plan → ℕ → ℕ → Type 0
IsKeptCrossOf g p x y = (x ≡ y) × HasStayingWire g p (ends_of g.shape x).0

abbrev pub IsKeptCross : Configuration → Plan → ℕ → Type 0
IsKeptCross g p x = (is_closed g x ≡ true) × HasStayingWire g p (ends_of g.shape x).0

-- no two switched-on tables stand at one place
abbrev pub AreApart : Configuration → Plan → Type 0
AreApart g p = (t u : ℕ) → IsSome (setting_of g t) → IsSome (setting_of g u) → nth_of p.tables.items t ≡ nth_of p.tables.items u → t ≡ u

-- these tables are on where they stand, with their settings, and the others stay
pub record AreSeated (g : Configuration) (p : Plan) (are : ℕ → Type 0) (old new : Configuration) : Type 0 where
  pub sized : length new.tables ≡ length old.tables
  pub on : (t : ℕ) → are t → setting_of new (nth_of p.tables.items t) ≡ setting_of g t
  pub others : (u : ℕ) → IsSome (setting_of new u) → IsSome (setting_of old u) ⊎ ((t : ℕ) × are t × (nth_of p.tables.items t ≡ u))
  pub rest : new ≡ record old { tables = new.tables }

abbrev pub IsOn : Configuration → ℕ → Type 0
IsOn g t = IsSome (setting_of g t)

-- nets that move are joined, what stays is closed besides, and the tables are on
pub record IsDrawn (g : Configuration) (p : Plan) (nets : List (List ℕ)) (ports : List Port) (visits : List Visit)
    (new : Configuration) : Type 0 where
  pub moved : Configuration
  pub joined : IsJoined g.shape nets ports visits moved
  pub closed : Configuration
  pub closes : Closes (IsKeptCross g p) (set.len g.closed) moved closed
  pub seated : Configuration
  pub seats : AreSeated g p (IsOn g) closed seated
  pub whole : new ≡ with_ticks seated g.ticks

-- the image has that configuration, and its pins stand where the plan says
pub record IsRedrawn (i : ImageValue) (p : Plan) (nets : List (List ℕ)) (ports : List Port) (visits : List Visit)
    (new : ImageValue) : Type 0 where
  pub right : IsImage new
  pub drawn : IsDrawn i.config p nets ports visits new.config
  pub inputs : new.inputs ≡ map (nth_of p.pins.items) i.inputs
  pub outputs : new.outputs ≡ map (nth_of p.pins.items) i.outputs

-- no two pins of an image stand at one place
abbrev pub ArePinsApart : ImageValue → Plan → Type 0
ArePinsApart i p = AllPairs (λ a b. a ≢ b) (map (nth_of p.pins.items) (i.inputs ++ i.outputs))

-- ---- the first of a list

abbrev pub no_cross : Cross
no_cross = record { 0 = 0 }

abbrev pub no_table : Table
no_table = record { 0 = 0 }

abbrev pub IsCross : Cross → ℕ → Type 0
IsCross c x = c.0 ≡ x

abbrev pub IsTable : Table → ℕ → Type 0
IsTable c t = c.0 ≡ t

-- so for one of the first pins, and of the first tables
abbrev pub IsFirstPinTerminal : Configuration → Plan → List ℕ → ℕ → ℕ → ℕ → Type 0
IsFirstPinTerminal g p pins n k w = (j : ℕ) × (j < n)
    × IsMovedTo g p (pin_wire g.shape (nth_of pins j)) (pin_wire g.shape (nth_of p.pins.items (nth_of pins j))) k w

abbrev pub IsFirstTableTerminal : Configuration → Plan → List Table → ℕ → ℕ → ℕ → Type 0
IsFirstTableTerminal g p tables n k w = (j : ℕ) × (j < n)
    × IsTablePinTerminal g p (slice_index_or tables j no_table).0 (nth_of p.tables.items (slice_index_or tables j no_table).0) 7 k w
