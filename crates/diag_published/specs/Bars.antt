-- The wires of a crossbar, and its field.
use Rattle.std.specs.Prelude.{◌≡◌, ◌≢◌, ◌⊎◌, ℕ, ◌+◌, ◌*◌, ◌<◌, ◌≤◌, true, Option, Some, IsSome, List}
use Rattle.base_bits.specs.Numbers.{has_number, size_of}
use Rattle.machine_shape.specs.declared.Shape.{Shape}
use Rattle.machine_shape.specs.Shape.{ends_of, pin_wire, crosses_of, node_of_cross, taps_of, lines_of, IsTap, IsLine}
use Rattle.machine_meaning.specs.Vocabulary.{Faults, IsSoundWire, HasTwo}
use Rattle.machine_config.specs.Groups.{among}
use Rattle.diag_tests.specs.Routes.{Walk}
use Rattle.diag_evidence.specs.Kept.{Kept, HoldsFor, keeps_cross}
use Rattle.diag_known.specs.{Vocabulary.IsFieldOf, Vocabulary.KnownWires, Vocabulary.HasWire, declared.field.Field.Field}
use Rattle.diag_published.specs.Held.{Findings, IsTrunkEnd, IsHeldTrunk}

-- these are the wires with P
pub record IsListOf (P : ℕ → Type 0) (ws : List ℕ) : Type 0 where
  pub each : (w : ℕ) → among ws w ≡ true → P w
  pub all : (w : ℕ) → P w → among ws w ≡ true

-- one of the wires at the first n positions
pub record IsAtOneOf (at : ℕ → ℕ) (n w : ℕ) : Type 0 where
  pub position : ℕ
  pub early : position < n
  pub is : w ≡ at position

-- one of these wires that is known
abbrev pub IsKnownOf : KnownWires → List ℕ → ℕ → Type 0
IsKnownOf known ws w = (among ws w ≡ true) × HasWire known.steps w

-- two different ones of these wires
pub record AreTwoOf (ws : List ℕ) (x y : ℕ) : Type 0 where
  pub first : among ws x ≡ true
  pub second : among ws y ≡ true
  pub differ : x ≢ y

-- the crosspoints of the line to all these taps are kept
abbrev pub KeepsAll : Kept → List ℕ → ℕ → Type 0
KeepsAll k taps line = (x : ℕ) → x < crosses_of k.shape → (ends_of k.shape x).1 ≡ line → among taps (ends_of k.shape x).0 ≡ true →
    keeps_cross k x ≡ true

-- one of these lines whose crosspoints to all these taps are kept
abbrev pub IsOpenOf : Kept → List ℕ → List ℕ → ℕ → Type 0
IsOpenOf k taps lines w = (among lines w ≡ true) × KeepsAll k taps w

-- two routes that are a trunk of each node at which a trunk may end at both these wires
pub record IsTrunkTo (k : Kept) (known : KnownWires) (a b : ℕ) (left right : Walk) : Type 0 where
  pub left_end : left.end ≡ a
  pub held : (n : ℕ) → IsTrunkEnd k.shape n a → IsTrunkEnd k.shape n b → IsHeldTrunk k known n left right

-- .. at all of these wires
pub record IsTrunkOf (k : Kept) (known : KnownWires) (ws : List ℕ) (left right : Walk) : Type 0 where
  pub left_end : among ws left.end ≡ true
  pub held : (n : ℕ) → ((w : ℕ) → among ws w ≡ true → IsTrunkEnd k.shape n w) → IsHeldTrunk k known n left right

-- of the first pins no two are sound, where faults are told
pub record FewPins (told : Option Faults) (k : Kept) (count : ℕ) : Type 0 where
  pub at : (f : Faults) → told ≡ Some f → HoldsFor k f → ¬ HasTwo (λ j. (j < count) × IsSoundWire k.shape f (pin_wire k.shape j))

-- .. and those of them that are sound are known
pub record SoundPinsAreKnown (told : Option Faults) (k : Kept) (known : KnownWires) (count : ℕ) : Type 0 where
  pub at : (f : Faults) → told ≡ Some f → HoldsFor k f → (j : ℕ) → j < count → IsSoundWire k.shape f (pin_wire k.shape j) →
      HasWire known.steps (pin_wire k.shape j)

-- the taps and the lines of a node's crossbar
pub record AreBarOf (m : Shape) (n : ℕ) (ts ls : List ℕ) : Type 0 where
  pub taps : IsListOf (IsTap m n) ts
  pub lines : IsListOf (IsLine m n) ls

-- from the one number on, and below the other
abbrev pub IsFrom : ℕ → ℕ → ℕ → Type 0
IsFrom first end x = (first ≤ x) × (x < end)

-- a crosspoint of the node
abbrev pub IsCrossOfNode : Shape → ℕ → ℕ → Type 0
IsCrossOfNode m n x = (x < crosses_of m) × (node_of_cross m x ≡ n)

-- the field that is a node's crossbar, and no more
pub record IsBarField (m : Shape) (n : ℕ) (a : Field) : Type 0 where
  pub field : IsFieldOf m a
  pub taps : (w : ℕ) → IsTap m n w → has_number a.wires w ≡ true
  pub lines : (w : ℕ) → IsLine m n w → has_number a.wires w ≡ true
  pub crosses : (x : ℕ) → x < crosses_of m → node_of_cross m x ≡ n → has_number a.crosses x ≡ true
  pub few_wires : size_of a.wires ≤ taps_of m n + lines_of m n
  pub few_crosses : size_of a.crosses ≤ taps_of m n * lines_of m n

-- It has all taps and lines of its crossbar that are known, and an open pair where two of these lines are such.
pub record HasKnown (k : Kept) (known : KnownWires) (t : Findings) : Type 0 where
  pub taps : (w : ℕ) → IsTap k.shape t.node w → HasWire known.steps w → among t.taps w ≡ true
  pub lines : (w : ℕ) → IsLine k.shape t.node w → HasWire known.steps w → among t.lines w ≡ true
  pub open_pair : IsSome t.open_pair ⊎ ((x y : ℕ) → IsOpenOf k t.taps t.lines x → IsOpenOf k t.taps t.lines y → x ≡ y)
