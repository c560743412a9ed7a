-- Trunks and tested crossbars, and when a proof and the known wires hold them.
use Rattle.std.specs.Prelude.{◌≡◌, ◌≢◌, ◌⊎◌, ℕ, ◌+◌, ◌*◌, ◌<◌, ◌≤◌, true, false, Option, Some, IfSome, IsSome, List, AllPairs, slice_get}
use Rattle.std.specs.Prelude.{map, option_map, refl}
use Rattle.std.specs.Coded.{Coded, code_by, coded×, coded_ℕ, coded_list, coded_option}
use Rattle.machine_shape.specs.declared.{Shape.Shape, Wire.Wire}
use Rattle.machine_shape.specs.Shape.{ends_of, pin_wire, pins_of, crosses_of, nodes_of, node_of_cross, taps_of, lines_of, IsTap, IsLine}
use Rattle.machine_shape.specs.Shape.{IsPort}
use Rattle.machine_meaning.specs.Vocabulary.{Faults, IsFaultless, IsSoundWire, IsSoundCross, HasTwo, IsServed, IsOfUse}
use Rattle.machine_config.specs.Groups.{among}
use Rattle.diag_tests.specs.Routes.{Walk, IsRoute, coded_walk}
use Rattle.diag_evidence.specs.Kept.{Kept, HoldsFor, IsMore, keeps_cross}
use Rattle.diag_known.specs.Known.{KnownWires, HasWire}

-- a crossbar that was tested: its node, the two routes of its trunk, which of its lines and taps are good, and two lines
-- that are good at all of these taps
pub record Findings : Type 0 where
  pub node : ℕ
  pub left : Walk
  pub right : Walk
  pub lines : List ℕ
  pub taps : List ℕ
  pub open_pair : Option (ℕ × ℕ)

-- the numbers of wires, and of two
abbrev pub wire_numbers : List Wire → List ℕ
wire_numbers ws = map (λ w. w.0) ws

abbrev pub pair_numbers : Option (Wire × Wire) → Option (ℕ × ℕ)
pair_numbers o = option_map (λ p. (p.0.0, p.1.0)) o

-- a wire at which a trunk of the node ends: a pin of the machine for the root, and a port of the node otherwise
pub data IsTrunkEnd (m : Shape) (n w : ℕ) : Type 0 where
  at_pin : (k : ℕ) → n ≡ 0 → k < pins_of m → w ≡ pin_wire m k → IsTrunkEnd m n w
  at_port : IsPort m n w → IsTrunkEnd m n w

-- a route over known wires, by kept crosspoints, on which no wire stands twice
pub record IsHeldRoute (k : Kept) (known : KnownWires) (r : Walk) : Type 0 where
  pub route : IsRoute k.shape r
  pub once : AllPairs (λ w u. w ≢ u) r.wires
  pub crosses : (x : ℕ) → among r.crosses x ≡ true → keeps_cross k x ≡ true
  pub wires : (w : ℕ) → among r.wires w ≡ true → HasWire known.steps w

-- Two such routes without a common wire, both with an end at the node, are a trunk of the node.
pub record IsHeldTrunk (k : Kept) (known : KnownWires) (n : ℕ) (left right : Walk) : Type 0 where
  pub left_route : IsHeldRoute k known left
  pub right_route : IsHeldRoute k known right
  pub apart : (w : ℕ) → among left.wires w ≡ true → among right.wires w ≡ false
  pub left_end : IsTrunkEnd k.shape n left.end
  pub right_end : IsTrunkEnd k.shape n right.end

-- two different lines, whose crosspoints to all these taps are kept
pub record IsOpenPair (k : Kept) (t : Findings) (x y : ℕ) : Type 0 where
  pub differ : x ≢ y
  pub first : among t.lines x ≡ true
  pub second : among t.lines y ≡ true
  pub crosses : (c : ℕ) → c < crosses_of k.shape → ((ends_of k.shape c).1 ≡ x) ⊎ ((ends_of k.shape c).1 ≡ y) →
      among t.taps (ends_of k.shape c).0 ≡ true → keeps_cross k c ≡ true

-- The tested crossbar is held: its trunk; the ends of that are among its taps; its taps and lines are known, and are of its
-- node's crossbar; each line has kept crosspoints to two of the taps; and its open pair is one.
pub record IsHeld (k : Kept) (known : KnownWires) (t : Findings) : Type 0 where
  pub node : t.node < nodes_of k.shape
  pub trunk : IsHeldTrunk k known t.node t.left t.right
  pub left_tap : among t.taps t.left.end ≡ true
  pub right_tap : among t.taps t.right.end ≡ true
  pub taps : (w : ℕ) → among t.taps w ≡ true → IsTap k.shape t.node w
  pub lines : (w : ℕ) → among t.lines w ≡ true → IsLine k.shape t.node w
  pub known_taps : (w : ℕ) → among t.taps w ≡ true → HasWire known.steps w
  pub known_lines : (w : ℕ) → among t.lines w ≡ true → HasWire known.steps w
  pub joined : (w : ℕ) → among t.lines w ≡ true →
      HasTwo (λ c. (c < crosses_of k.shape) × ((ends_of k.shape c).1 ≡ w) × (among t.taps (ends_of k.shape c).0 ≡ true)
      × (keeps_cross k c ≡ true))
  pub open_pair : IfSome t.open_pair (λ p. IsOpenPair k t p.0 p.1)

-- It has every sound tap of its crossbar and every sound line with two sound crosspoints, the sound crosspoints between
-- these are kept, and it has an open pair.
pub record HasAll (k : Kept) (f : Faults) (t : Findings) : Type 0 where
  pub taps : (w : ℕ) → IsTap k.shape t.node w → IsSoundWire k.shape f w → among t.taps w ≡ true
  pub lines : (w : ℕ) → IsLine k.shape t.node w → IsSoundWire k.shape f w → IsOfUse k.shape f w → among t.lines w ≡ true
  pub crosses : (c : ℕ) → c < crosses_of k.shape → node_of_cross k.shape c ≡ t.node → IsSoundCross k.shape f c →
      IsOfUse k.shape f (ends_of k.shape c).1 → keeps_cross k c ≡ true
  pub open_pair : IsSome t.open_pair

-- full, where its node is served; one whose node isn't is full as it is
abbrev pub IsFull : Kept → Faults → Findings → Type 0
IsFull k f t = IsServed k.shape f t.node → HasAll k f t

-- under no faults under which it is full is this node served
abbrev pub IsUnserved : Kept → Findings → ℕ → Type 0
IsUnserved k t n = (f : Faults) → IsFull k f t → ¬ IsServed k.shape f n

-- full, where faults are told of which it is true what was kept before
pub record FullIf (told : Option Faults) (k l : Kept) (t : Findings) : Type 0 where
  pub at : (f : Faults) → told ≡ Some f → HoldsFor k f → IsFull l f t

-- where such faults are told, the node isn't served
pub record UnservedIf (told : Option Faults) (k : Kept) (n : ℕ) : Type 0 where
  pub at : (f : Faults) → told ≡ Some f → HoldsFor k f → ¬ IsServed k.shape f n

-- where no faults are told, at most so many loads were made
pub record LoadsAtMost (told : Option Faults) (k : Kept) (before after most : ℕ) : Type 0 where
  pub at : (f : Faults) → told ≡ Some f → IsFaultless f → HoldsFor k f → after ≤ before + most

-- at most eight loads for each crosspoint of the node's crossbar, and three for each of its taps and lines
abbrev pub LoadsForBar : Shape → ℕ → ℕ → ℕ → Type 0
LoadsForBar m n before after = after ≤ before + (8 * (taps_of m n * lines_of m n) + 3 * (taps_of m n + lines_of m n))

-- .. and where no faults are told two and three
abbrev pub FewLoadsForBar : Option Faults → Kept → ℕ → ℕ → ℕ → Type 0
FewLoadsForBar told k n before after = LoadsAtMost told k before after
    (2 * (taps_of k.shape n * lines_of k.shape n) + 3 * (taps_of k.shape n + lines_of k.shape n))

-- what was kept still is, and what was known still is
pub record IsLater (k l : Kept) (old new : KnownWires) : Type 0 where
  pub kept : IsMore k l
  pub known : (w : ℕ) → HasWire old.steps w → HasWire new.steps w

-- a wire of a tested crossbar: one of its taps or lines, or of the two routes of its trunk
pub data IsWireOf (t : Findings) (w : ℕ) : Type 0 where
  of_tap : among t.taps w ≡ true → IsWireOf t w
  of_line : among t.lines w ≡ true → IsWireOf t w
  of_left : among t.left.wires w ≡ true → IsWireOf t w
  of_right : among t.right.wires w ≡ true → IsWireOf t w

-- a wire of one of these
pub record IsWireOfSome (ts : List Findings) (w : ℕ) : Type 0 where
  pub place : ℕ
  pub findings : Findings
  pub here : slice_get ts place ≡ Some findings
  pub is : IsWireOf findings w

-- codes, by which a proof tells these values apart
abbrev pub coded_findings : Coded Findings
coded_findings = code_by ((ℕ × Option (ℕ × ℕ)) × ((Walk × Walk) × (List ℕ × List ℕ)))
    (coded× (coded× coded_ℕ (coded_option (coded× coded_ℕ coded_ℕ)))
    (coded× (coded× coded_walk coded_walk) (coded× (coded_list coded_ℕ) (coded_list coded_ℕ))))
    (λ t. ((t.node, t.open_pair), ((t.left, t.right), (t.lines, t.taps))))
    (λ p. record { node = p.0.0; left = p.1.0.0; right = p.1.0.1; lines = p.1.1.0; taps = p.1.1.1; open_pair = p.0.1 }) (λ _. refl)
