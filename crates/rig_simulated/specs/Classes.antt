-- Wires in classes: each class has a root, to which the parents of its wires lead.
use Rattle.std.specs.Prelude.{◌≡◌, ◌≢◌, ◌⊎◌, ℕ, ◌+◌, ◌^◌, ◌<◌, ◌≤◌, Bool, true, false, Option, Some, None, List, length, slice_index_or}
use Rattle.machine_shape.specs.Shape.{Ends}
use Rattle.machine_meaning.specs.Joined.{Net, Linked, Joined}
use Rattle.rig_simulated.specs.declared.classes.{ClassNode.ClassNode, Tie.Tie}

-- the knot of a wire; beyond the list each wire is alone
abbrev pub knot_at : List ClassNode → ℕ → ClassNode
knot_at knots w = slice_index_or knots w (record { parent = w; rank = 0; held = None })

-- each wire has the root of its parent, and a wire that is its own parent is a root
pub record HasRoots (knots : List ClassNode) (most : ℕ) (root : ℕ → ℕ) : Type 0 where
  pub within : (w : ℕ) → w < length knots → (knot_at knots w).parent < length knots
  pub up : (w : ℕ) → root (knot_at knots w).parent ≡ root w
  pub top : (w : ℕ) → (knot_at knots w).parent ≡ w → root w ≡ w
  pub itself : (w : ℕ) → root (root w) ≡ root w
  pub rises : (w : ℕ) → (knot_at knots w).parent ≢ w → (knot_at knots w).rank < (knot_at knots (knot_at knots w).parent).rank
  pub few : (w : ℕ) → (knot_at knots w).rank ≤ most

-- two wires have one root exactly where they are joined
pub record AreClasses (net : Net) (root : ℕ → ℕ) : Type 0 where
  pub joined : (a b : ℕ) → root a ≡ root b → Joined net a b
  pub same : (a b : ℕ) → Joined net a b → root a ≡ root b

-- a wire of the class is stuck at the value
pub record HoldsAt (stuck : ℕ → Option Bool) (root : ℕ → ℕ) (r : ℕ) (value : Bool) : Type 0 where
  pub place : ℕ
  pub member : root place ≡ r
  pub stuck_at : stuck place ≡ Some value

-- how a class is held: at 0 if one of its wires is stuck at 0, else at 1 if one is stuck at 1
abbrev pub IsHeldAs : (ℕ → Option Bool) → (ℕ → ℕ) → ℕ → Option Bool → Type 0
IsHeldAs stuck root r None = (¬ HoldsAt stuck root r false) × (¬ HoldsAt stuck root r true)
IsHeldAs stuck root r (Some false) = HoldsAt stuck root r false
IsHeldAs stuck root r (Some true) = (¬ HoldsAt stuck root r false) × HoldsAt stuck root r true

-- the knots are those of a net whose wires are stuck so
pub record AreKnots (net : Net) (stuck : ℕ → Option Bool) (knots : List ClassNode) (most : ℕ) (root : ℕ → ℕ) : Type 0 where
  pub roots : HasRoots knots most root
  pub classes : AreClasses net root
  pub held : (r : ℕ) → root r ≡ r → IsHeldAs stuck root r (knot_at knots r).held

-- some roots there are
pub record AreRooted (knots : List ClassNode) : Type 0 where
  pub most : ℕ
  pub low : most + 1 < 2 ^ 64
  pub root : ℕ → ℕ
  pub roots : HasRoots knots most root

pub record AreTied (net : Net) (stuck : ℕ → Option Bool) (knots : List ClassNode) (most : ℕ) : Type 0 where
  pub root : ℕ → ℕ
  pub knots_are : AreKnots net stuck knots most root

-- the second net has one link more
pub record HasLink (old new : Net) (a b : ℕ) : Type 0 where
  pub kept : (u v : ℕ) → Linked old u v → Linked new u v
  pub more : Linked new a b
  pub only : (u v : ℕ) → Linked new u v → Linked old u v ⊎ Ends (a, b) u v

-- both nets have the same links
pub record HaveSameLinks (old new : Net) : Type 0 where
  pub to : (u v : ℕ) → Linked old u v → Linked new u v
  pub from : (u v : ℕ) → Linked new u v → Linked old u v

-- one value holds over another: 0 over 1, and either over none
abbrev pub stronger : Option Bool → Option Bool → Option Bool
stronger None b = b
stronger (Some false) b = Some false
stronger (Some true) (Some false) = Some false
stronger (Some true) (Some true) = Some true
stronger (Some true) None = Some true

-- one root is put below another
pub record IsHung (old new : List ClassNode) (low high : ℕ) : Type 0 where
  pub len : length new ≡ length old
  pub parent : (knot_at new low).parent ≡ high
  pub rank : (knot_at new low).rank ≡ (knot_at old low).rank
  pub low_held : (knot_at new low).held ≡ (knot_at old low).held
  pub top : (knot_at new high).parent ≡ high
  pub higher : (knot_at old low).rank < (knot_at new high).rank
  pub no_lower : (knot_at old high).rank ≤ (knot_at new high).rank
  pub one_more : (knot_at new high).rank ≤ (knot_at old high).rank + 1
  pub held : (knot_at new high).held ≡ stronger (knot_at old low).held (knot_at old high).held
  pub others : (w : ℕ) → w ≢ low → w ≢ high → knot_at new w ≡ knot_at old w

-- which of two roots is put below the other, and what is kept of the higher one
pub record IsTieOf (knots : List ClassNode) (a b : ℕ) (tie : Tie) : Type 0 where
  pub ends : ((tie.low ≡ a) × (tie.high ≡ b)) ⊎ ((tie.low ≡ b) × (tie.high ≡ a))
  pub ranks : (knot_at knots tie.low).rank ≤ (knot_at knots tie.high).rank
  pub rank : tie.rank ≡ (knot_at knots tie.high).rank
  pub held : tie.held ≡ (knot_at knots tie.high).held

-- two wires of so many are tied
pub record IsWithinKnots (tie : Tie) (wires : ℕ) : Type 0 where
  pub low : tie.low < wires
  pub high : tie.high < wires
  pub apart : tie.low ≢ tie.high

-- the knots as they were before the tie
pub record IsUntied (tie : Tie) (tied before : List ClassNode) : Type 0 where
  pub within : IsWithinKnots tie (length tied)
  pub len : length before ≡ length tied
  pub low : knot_at before tie.low ≡ record { parent = tie.low; rank = (knot_at tied tie.low).rank; held = (knot_at tied tie.low).held }
  pub high : knot_at before tie.high ≡ record { parent = tie.high; rank = tie.rank; held = tie.held }
  pub others : (w : ℕ) → w ≢ tie.low → w ≢ tie.high → knot_at before w ≡ knot_at tied w

-- the knots before a crosspoint was closed, which may have tied two wires
abbrev pub IsOpenedBy : Option Tie → List ClassNode → List ClassNode → Type 0
IsOpenedBy None tied before = before ≡ tied
IsOpenedBy (Some tie) tied before = IsUntied tie tied before
