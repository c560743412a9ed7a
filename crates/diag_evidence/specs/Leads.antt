-- Walks that branch from a forest, from tree to tree, many at once.
use Rattle.std.specs.Prelude.{◌≡◌, ◌≢◌, ℕ, ◌<◌, ◌==◌, Bool, true, false, ◌&&◌, ◌||◌, not, Option, Some, None, List, [], ◌∷◌, ◌++◌, All}
use Rattle.std.specs.Prelude.{map, flat_map, length, slice_index_or}
use Rattle.std.specs.List.{list_any, list_all, filter, IsDistinct}
use Rattle.machine_shape.specs.{declared.Shape.Shape, Shape.pins_of, Shape.crosses_of}
use Rattle.machine_meaning.specs.Vocabulary.{Pins, Faults, stuck_cross}
use Rattle.machine_config.specs.Vocabulary.{Configuration, is_closed, among, AreOff, LeadsTo}
use Rattle.base_bits.specs.Numbers.{has_number}
use Rattle.diag_tests.specs.Routes.{cross_numbers}
use Rattle.diag_evidence.specs.{declared.leads.Lead.Lead, Looks.IsLook, Looks.LogsLook, Looks.parts}
use Rattle.diag_evidence.specs.Kept.{Kept, Gain, Gains, HoldsFor, nothing, keeps_cross, keeps_wire, keeps_pair}
use Rattle.diag_evidence.specs.Forests.{Trees, HangsOn, KeepsForest, pin_of, is_hung, is_laid}
use Rattle.rig.specs.Rig.{RigState}

-- the wires of a walk, in order, and its crosspoints
abbrev pub wires_along : Lead → List ℕ
wires_along l = map (λ w. w.0) l.wires.items

abbrev pub crosses_along : Lead → List ℕ
crosses_along l = cross_numbers l.crosses.items

-- those of all walks
abbrev pub wires_of_leads : List Lead → List ℕ
wires_of_leads ls = flat_map (λ l. wires_along l) ls

abbrev pub crosses_of_leads : List Lead → List ℕ
crosses_of_leads ls = flat_map (λ l. crosses_along l) ls

-- A walk over a crosspoint at least. Its first wire hangs on the one pin, its last wire on the other, and those between hang nowhere.
pub record IsLead (trees : Trees) (l : Lead) : Type 0 where
  pub first : ℕ
  pub between : List ℕ
  pub last : ℕ
  pub wires : wires_along l ≡ first ∷ (between ++ last ∷ [])
  pub leads : LeadsTo trees.shape first (crosses_along l) (wires_along l) last
  pub begins : HangsOn trees first l.from
  pub ends : HangsOn trees last l.to
  pub loose : (w : ℕ) → among between w ≡ true → pin_of trees w ≡ None

-- its pins and its crosspoints are some of the machine
pub record IsLeadOf (m : Shape) (l : Lead) : Type 0 where
  pub from : l.from < pins_of m
  pub to : l.to < pins_of m
  pub crosses : (x : ℕ) → among (crosses_along l) x ≡ true → x < crosses_of m

-- the wires of a walk that hang nowhere
abbrev pub loose_along : Trees → Lead → List ℕ
loose_along trees l = filter (λ w. not (is_hung trees w)) (wires_along l)

-- the pin of a walk's last wire is one on which an end of the other walk hangs
abbrev pub ends_on : Lead → Lead → Bool
ends_on other l = (l.to == other.from) || (l.to == other.to)

-- Walks, in their order, branch from a forest: each leads from a wire that hangs to a wire that hangs, over wires that hang nowhere. No
-- wire that hangs nowhere stands in two walks or in one twice. The pin of each walk's last wire is neither the pin of its first wire nor
-- one on which an end of an earlier walk hangs.
pub record BranchFrom (trees : Trees) (ls : List Lead) : Type 0 where
  pub walks : All (IsLead trees) ls
  pub once : IsDistinct (λ a b. a == b) (flat_map (loose_along trees) ls)
  pub own : All (λ l. l.to ≢ l.from) ls
  pub later : (i j : ℕ) (d : Lead) → i < j → j < length ls → ends_on (slice_index_or ls i d) (slice_index_or ls j d) ≡ false

-- a wire hangs, or stands in a walk
abbrev pub is_met : Trees → List Lead → ℕ → Bool
is_met trees ls w = is_hung trees w || among (wires_of_leads ls) w

-- The forest's crosspoints are kept, and so are all wires that hang and all wires of the walks, each two of them a kept pair.
pub record KnowsLeads (k : Kept) (trees : Trees) (ls : List Lead) : Type 0 where
  pub keeps : KeepsForest k trees
  pub wires : (w : ℕ) → is_met trees ls w ≡ true → keeps_wire k w ≡ true
  pub pairs : (w u : ℕ) → is_met trees ls w ≡ true → is_met trees ls u ≡ true → w ≢ u → keeps_pair k w u ≡ true

-- the crosspoints of the forest and of the walks
abbrev pub closes_along : Trees → List Lead → ℕ → Bool
closes_along trees ls x = is_laid trees x || among (crosses_of_leads ls) x

-- just these are closed, nothing is on, and a cycle has one tick
pub record ClosesAlong (trees : Trees) (ls : List Lead) (g : Configuration) : Type 0 where
  pub shape : g.shape ≡ trees.shape
  pub closed : (x : ℕ) → is_closed g x ≡ closes_along trees ls x
  pub off : AreOff g
  pub ticks : g.ticks ≡ 1

-- the pins of the two ends of a walk don't part
abbrev pub arrives : List Pins → Lead → Bool
arrives rows l = not (parts rows l.from l.to)

-- the crosspoints of the walks whose ends don't part
abbrev pub led_over : List Pins → List Lead → ℕ → Bool
led_over rows ls x = list_any (λ l. arrives rows l && among (crosses_along l) x) ls

-- of these crosspoints it is the one that isn't kept
abbrev pub is_only_unkept : Kept → List ℕ → ℕ → Bool
is_only_unkept k xs x = among xs x && (not (keeps_cross k x) && list_all (λ y. (y == x) || keeps_cross k y) xs)

-- the crosspoints that are the only one of a walk that isn't kept, where its ends part
abbrev pub held_up_at : Kept → List Pins → List Lead → ℕ → Bool
held_up_at k rows ls x = list_any (λ l. not (arrives rows l) && is_only_unkept k (crosses_along l) x) ls

-- facts of crosspoints alone
abbrev pub these_crosses : (ℕ → Bool) → Gain
these_crosses p = record nothing { crosses = p }

-- What the look at the forest and the walks shows: the crosspoints of the walks whose ends don't part are kept, and of each other walk
-- the one crosspoint that isn't kept, where there is one alone, is marked.
pub record HasLed (told : Option Faults) (trees : Trees) (ls : List Lead) (old new : Kept) (was is : List Bool) : Type 0 where
  pub rows : List Pins
  pub look : IsLook told trees.shape (closes_along trees ls) rows
  pub gains : Gains (these_crosses (led_over rows ls)) old new
  pub marks : (x : ℕ) → has_number is x ≡ (held_up_at old rows ls x || has_number was x)

-- the session of such a look is new in the log, and its readings show so
pub record ShowsLed (trees : Trees) (ls : List Lead) (earlier later : RigState) (old new : Kept) (was is : List Bool) : Type 0 where
  pub rows : List Pins
  pub look : LogsLook trees.shape (closes_along trees ls) rows earlier later
  pub gains : Gains (these_crosses (led_over rows ls)) old new
  pub marks : (x : ℕ) → has_number is x ≡ (held_up_at old rows ls x || has_number was x)

-- a crosspoint that is newly marked is stuck, where the faults are told and what is kept is true of them
abbrev pub MarksStuck : Option Faults → Kept → List Bool → List Bool → Type 0
MarksStuck told k was is = (f : Faults) → told ≡ Some f → HoldsFor k f → (x : ℕ) → has_number was x ≡ false → has_number is x ≡ true →
    stuck_cross f x ≢ None

-- .. and all marked crosspoints are
abbrev pub StuckIf : Option Faults → Kept → List Bool → Type 0
StuckIf told k marks = (f : Faults) → told ≡ Some f → HoldsFor k f → (x : ℕ) → has_number marks x ≡ true → stuck_cross f x ≢ None
