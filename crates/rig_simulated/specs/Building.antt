-- How the classes of a machine are built, link by link.
use Rattle.std.specs.Prelude.{◌≡◌, ℕ, ◌+◌, ◌<◌, ◌≤◌, Bool, false, ◌==◌, ◌&&◌, nat_lt, Option, List, [], ◌∷◌, ◌++◌, length, map}
use Rattle.std.specs.{Prelude.take, Prelude.slice_index_or, Prelude.unwrap_or, List.list_any}
use Rattle.std.specs.FinSet as set
use Rattle.machine_shape.specs.{declared.Shape.Shape, declared.Cross.Cross, declared.Wire.Wire, Shape.wires_of}
use Rattle.machine_meaning.specs.Vocabulary.{Faults, stuck_wire, stuck_cross, is_bridge, pair_cmp, Net, net_of}
use Rattle.machine_faults.specs.Stored.{pair_of}
use Rattle.rig_simulated.specs.{declared.classes.ClassNode.ClassNode, Classes.AreTied, Classes.HasLink, Classes.IsOpenedBy}
use Rattle.rig_simulated.specs.declared.classes.{Closed.Closed, Classes.Classes}

-- nothing is linked but by these bridges
abbrev pub bridged_net : Shape → List (Wire × Wire) → Net
bridged_net m pairs = record {
  shape = m;
  conducts = λ _. false;
  is_bridge = λ p. set.contains
      (set.from_list {R = pair_cmp} (map pair_of pairs)) p;
}

-- all bridges, and the crosspoints below n that are stuck closed
abbrev pub stuck_net : Shape → Faults → ℕ → Net
stuck_net m f n = record { shape = m; conducts = λ x. nat_lt x n && unwrap_or (stuck_cross f x) false; is_bridge = is_bridge f }

-- these crosspoints
abbrev pub is_among : List Cross → ℕ → Bool
is_among crosses x = list_any (λ c. c.0 == x) crosses

-- all bridges, the crosspoints that are stuck closed, and these that aren't stuck open
abbrev pub closed_net : Shape → Faults → List Cross → Net
closed_net m f crosses = net_of m f (is_among crosses)

-- no rank of what the faults alone join is higher
abbrev pub base_most : ℕ
base_most = 8589934592

-- the classes of what the faults alone join
pub record AreBase (m : Shape) (f : Faults) (base : List ClassNode) : Type 0 where
  pub len : length base ≡ wires_of m
  pub tied : AreTied (closed_net m f []) (stuck_wire f) base base_most

-- what was closed can be opened again, the last first: over each beginning of the list the knots were these
pub record AreOpenable (closed : List Closed) (knots : List ClassNode) : Type 0 where
  pub stage : ℕ → List ClassNode
  pub back : (n : ℕ) (d : Closed) → n < length closed → IsOpenedBy (slice_index_or closed n d).tie (stage (n + 1)) (stage n)
  pub now : stage (length closed) ≡ knots

abbrev pub cross_of : Closed → Cross
cross_of c = c.cross

-- over each beginning of the list the knots were those of closing it
pub record AreClosedBy (m : Shape) (f : Faults) (closed : List Closed) (knots : List ClassNode) : Type 0 where
  pub openable : AreOpenable closed knots
  pub len : (n : ℕ) → n ≤ length closed → length (openable.stage n) ≡ wires_of m
  pub tied : (n : ℕ) → n ≤ length closed →
      AreTied (closed_net m f (map cross_of (take n closed))) (stuck_wire f) (openable.stage n) (base_most + n)

-- whatever it was that was closed, it is so still
abbrev pub StaysClosed : Classes → Classes → Type 0
StaysClosed old new = (m : Shape) (f : Faults) → AreClosedBy m f old.closed.items old.knots.items →
    AreClosedBy m f new.closed.items new.knots.items

-- one crosspoint more was closed, which links two wires
pub record HasClosed (cross : Cross) (a b : ℕ) (old new : Classes) : Type 0 where
  pub step : Closed
  pub is : step.cross ≡ cross
  pub closed : new.closed.items ≡ old.closed.items ++ step ∷ []
  pub back : IsOpenedBy step.tie new.knots.items old.knots.items
  pub len : length new.knots.items ≡ length old.knots.items
  pub joined : (net more : Net) (stuck : ℕ → Option Bool) (most : ℕ) → AreTied net stuck old.knots.items most → HasLink net more a b →
      AreTied more stuck new.knots.items (most + 1)
