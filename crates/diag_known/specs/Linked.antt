-- The links of a wire in a field: crosspoints that lead to it, with their other ends.
use Rattle.std.specs.Prelude.{◌≡◌, ◌≢◌, ◌⊎◌, ℕ, ◌+◌, ◌*◌, ◌<◌, true, Some, List, slice_get}
use Rattle.base_bits.specs.Numbers.{has_number}
use Rattle.machine_shape.specs.{declared.Shape.Shape, Shape.Ends, Shape.ends_of, Shape.crosses_of, Shape.node_of_cross}
use Rattle.diag_known.specs.Around.{across_at, across_of, ends_by}
use Rattle.diag_known.specs.declared.{field.Field.Field, links.Row.Row, looks.Across.Across, verified_wire.Support.Support}

-- a crosspoint of the field leads from the one wire to the other
pub record IsInField (m : Shape) (a : Field) (x u w : ℕ) : Type 0 where
  pub within : x < crosses_of m
  pub has : has_number a.crosses x ≡ true
  pub at : Ends (ends_of m x) u w

-- one of these links
pub record HasLink (links : List Support) (x u : ℕ) : Type 0 where
  pub place : ℕ
  pub link : Support
  pub here : slice_get links place ≡ Some link
  pub cross : link.cross.0 ≡ x
  pub wire : link.wire.0 ≡ u

-- each leads to the wire
abbrev pub AreInField : Shape → Field → ℕ → List Support → Type 0
AreInField m a w links = (j : ℕ) (link : Support) → slice_get links j ≡ Some link → IsInField m a link.cross.0 link.wire.0 w

-- a crosspoint is of a node before that of another one, or of the same node and has a number below
pub data Precedes (m : Shape) (x y : ℕ) : Type 0 where
  by_node : node_of_cross m x < node_of_cross m y → Precedes m x y
  by_number : node_of_cross m x ≡ node_of_cross m y → x < y → Precedes m x y

-- node by node, and within one by number
abbrev pub AreInOrder : Shape → List Support → Type 0
AreInOrder m links = (i j : ℕ) (a b : Support) → i < j → slice_get links i ≡ Some a → slice_get links j ≡ Some b → Precedes m a.cross.0 b.cross.0

-- the crosspoints of the field that lead to a wire, with their other ends, each once and in order
pub record AreLinksOf (m : Shape) (a : Field) (w : ℕ) (links : List Support) : Type 0 where
  pub right : AreInField m a w links
  pub whole : (x u : ℕ) → IsInField m a x u w → HasLink links x u
  pub ordered : AreInOrder m links

-- links that were listed still are
abbrev pub HasMore : List Support → List Support → Type 0
HasMore old new = (x u : ℕ) → HasLink old x u → HasLink new x u

-- each crosspoint of the field with the first lines or taps of a node is listed
abbrev pub AreListed : Shape → Field → List Support → Across → ℕ → ℕ → ℕ → Type 0
AreListed m a links c u n count = (i x : ℕ) → i < count → x < crosses_of m → ends_of m x ≡ ends_by c u (across_at m c n i) → has_number a.crosses x ≡ true →
    HasLink links x (across_at m c n i)

-- each is of a node before this one
abbrev pub AreOfEarlier : Shape → List Support → ℕ → Type 0
AreOfEarlier m links n = (j : ℕ) (link : Support) → slice_get links j ≡ Some link → node_of_cross m link.cross.0 < n

-- .. or of this one, with a number below
abbrev pub AreBelow : Shape → List Support → ℕ → ℕ → Type 0
AreBelow m links n x = (j : ℕ) (link : Support) → slice_get links j ≡ Some link →
    (node_of_cross m link.cross.0 < n) ⊎ ((node_of_cross m link.cross.0 ≡ n) × (link.cross.0 < x))

-- The crosspoints of a wire with the lines or taps of a node stand so far apart from this one on; or there are none.
pub record IsRow (m : Shape) (c : Across) (u n : ℕ) (r : Row) : Type 0 where
  pub ascends : 0 < r.step
  pub node : (i : ℕ) → i < across_of m c n → node_of_cross m (r.first + i * r.step) ≡ n
  pub within : (i : ℕ) → i < across_of m c n → r.first + i * r.step < crosses_of m
  pub ends : (i : ℕ) → i < across_of m c n → ends_of m (r.first + i * r.step) ≡ ends_by c u (across_at m c n i)

abbrev pub MissesRow : Shape → Across → ℕ → ℕ → Type 0
MissesRow m c u n = (i x : ℕ) → i < across_of m c n → x < crosses_of m → ends_of m x ≢ ends_by c u (across_at m c n i)
