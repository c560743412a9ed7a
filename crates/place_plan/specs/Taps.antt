-- The taps by which nets come to a node, by lists of the nets that cross and of free ports.
use Rattle.std.specs.Prelude.{◌≡◌, ◌↔◌, ℕ, ◌<◌, List, Option, Some, None, map, length}
use Rattle.std.specs.List.{All, AllPairs, Contains}
use Rattle.machine_shape.specs.{declared.Shape.Shape, Shape.nodes_of, Shape.IsLine}
use Rattle.machine_meaning.specs.Defects.{Defects, IsFreeWire}
use Rattle.place_plan.specs.declared.search.Ask.{Ask}
use Rattle.place_plan.specs.declared.tree.NetSide.{NetSide, TheVariants.Own, TheVariants.Child, TheVariants.Outside}
use Rattle.place_plan.specs.{Lists.AreThose, Lists.AreLists, Lists.IsNth, Lists.IsAmongFirst, Lists.nth_of, Strands.IsAt, Strands.Visits}
use Rattle.place_plan.specs.{Room.HasTerminal, Room.CrossesAt, Room.VisitsAt, Room.IsFreePort, Touches.list_at, Touches.with_last}

-- the j-th net that crosses node c is net k, and t is the j-th free port of it
abbrev pub IsHeld : List (List ℕ) → List (List ℕ) → ℕ → ℕ → ℕ → Type 0
IsHeld crossing ports c k t = (j : ℕ) × IsNth (list_at crossing c) j k × IsNth (list_at ports c) j t

-- net k comes to node n by the tap t for this strand
abbrev pub IsTapBy : List (List ℕ) → List (List ℕ) → ℕ → ℕ → NetSide → ℕ → Type 0
IsTapBy crossing ports n k (Own w) t = w ≡ t
IsTapBy crossing ports n k (Child c) t = IsHeld crossing ports c k t
IsTapBy crossing ports n k Outside t = IsHeld crossing ports n k t

-- for this wire
abbrev pub IsTapFor : Shape → List (List ℕ) → List (List ℕ) → ℕ → ℕ → ℕ → ℕ → Type 0
IsTapFor m crossing ports n k w t = (s : NetSide) × IsAt m n w s × IsTapBy crossing ports n k s t

-- for one of these wires
abbrev pub IsTapAmong : Shape → List (List ℕ) → List (List ℕ) → ℕ → ℕ → List ℕ → ℕ → Type 0
IsTapAmong m crossing ports n k ws t = (w : ℕ) × Contains ws w × IsTapFor m crossing ports n k w t

-- the only number with P, if there is one
abbrev pub IsFound : (ℕ → Type 0) → Option ℕ → Type 0
IsFound P None = (t : ℕ) → ¬ P t
IsFound P (Some t) = P t × ((u : ℕ) → P u → u ≡ t)

-- the taps are those for these wires
abbrev pub AreTaps : Shape → List (List ℕ) → List (List ℕ) → ℕ → ℕ → List ℕ → List ℕ → Type 0
AreTaps m crossing ports n k ws taps = (t : ℕ) → Contains taps t ↔ IsTapAmong m crossing ports n k ws t

-- the numbers of each list ascend
abbrev pub AreAscending : ℕ → List (List ℕ) → Type 0
AreAscending count lists = (n : ℕ) → n < count → AllPairs (λ a b. a < b) (list_at lists n)

-- the list with the number at its end, if there is one
abbrev pub with_option : List ℕ → Option ℕ → List ℕ
with_option xs None = xs
with_option xs (Some t) = with_last xs t

abbrev pub net_of : Ask → ℕ
net_of a = a.net.0

-- by the list of each net's terminals, net k visits the node
abbrev pub VisitsIn : Shape → List (List ℕ) → ℕ → ℕ → Type 0
VisitsIn m nets n k = Visits m (HasTerminal nets k) n

-- the ask has the taps of its net
abbrev pub IsAskOf : Shape → List (List ℕ) → List (List ℕ) → List (List ℕ) → ℕ → Ask → Type 0
IsAskOf m nets crossing ports n a = AreTaps m crossing ports n a.net.0 (list_at nets a.net.0) a.taps

-- one ask for each net of the first that visits the node, ascending
pub record AreAsksOf (m : Shape) (nets crossing ports : List (List ℕ)) (n : ℕ) (touched : List ℕ) (i : ℕ) (asks : List Ask) : Type 0 where
  pub nets_are : AreThose (IsAmongFirst (nth_of touched) i (VisitsIn m nets n)) (map net_of asks)
  pub each : All (IsAskOf m nets crossing ports n) asks

-- so for all nets
pub record AreAsks (m : Shape) (nets crossing ports : List (List ℕ)) (n : ℕ) (asks : List Ask) : Type 0 where
  pub nets_are : AreThose (VisitsAt m (length nets) (HasTerminal nets) n) (map net_of asks)
  pub each : All (IsAskOf m nets crossing ports n) asks

-- the nets that cross each node, and its free ports
pub record IsBoard (m : Shape) (d : Defects) (nets crossing ports : List (List ℕ)) : Type 0 where
  pub crossing_are : AreLists (nodes_of m) (CrossesAt m (length nets) (HasTerminal nets)) crossing
  pub ports_are : AreLists (nodes_of m) (IsFreePort m d) ports

-- a free line of a node
abbrev pub IsFreeLine : Shape → Defects → ℕ → ℕ → Type 0
IsFreeLine m d n w = IsLine m n w × IsFreeWire d w
