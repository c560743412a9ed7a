-- Offers of a crosspoint: from a known wire to one that isn't known, to which others lead from other known wires.
use Rattle.std.specs.Prelude.{◌≡◌, ◌≢◌, ◌⊎◌, ℕ, ◌<◌, true, false, Option, Some, None, List, [], ◌∷◌, slice_get, slice_index_or}
use Rattle.machine_shape.specs.{declared.Shape.Shape, declared.Wire.Wire, Shape.wires_of}
use Rattle.machine_meaning.specs.Vocabulary.{Pins, Faults, stuck_cross}
use Rattle.machine_config.specs.Groups.{among}
use Rattle.diag_tests.specs.Routes.{Walk}
use Rattle.diag_evidence.specs.Kept.{Kept, HoldsUntried, keeps_cross}
use Rattle.diag_known.specs.{Known.HasWire, Ways.ReachesAll, declared.offers.Offer.Offer}
use Rattle.diag_known.specs.{Reaches.reach_at, Reaches.IsReached, Reaches.AreTrees, Reaches.AreWalks, Trials.IsLinkTo, Trials.IsFit}
use Rattle.diag_known.specs.declared.{beside.Reach.Reach, verified_wire.Support.Support, verified_wire.VerifiedWire.VerifiedWire}
use Rattle.diag_known.specs.declared.beside.Reach.TheVariants as reach

-- The wire isn't known. The crosspoint leads to it from a known one, and the others from other known ones.
pub record IsOffer (m : Shape) (ss : List VerifiedWire) (o : Offer) : Type 0 where
  pub within : o.wire.0 < wires_of m
  pub new : ¬ HasWire ss o.wire.0
  pub foot : IsLinkTo m ss o.wire.0 o.foot
  pub others : (j : ℕ) (a : Support) → slice_get o.others.items j ≡ Some a → IsLinkTo m ss o.wire.0 a
  pub differ : (j : ℕ) (a : Support) → slice_get o.others.items j ≡ Some a → a.wire.0 ≢ o.foot.wire.0

-- where what is kept is true of the faults, one of the two crosspoints is stuck, or the wire isn't fit
pub record AreLost (told : Option Faults) (k : Kept) (ss : List VerifiedWire) (w x y : ℕ) : Type 0 where
  pub at : (f : Faults) → told ≡ Some f → HoldsUntried k f → IsFit k.shape f ss w → stuck_cross f x ≡ None → stuck_cross f y ≡ None → ⊥

-- the crosspoint and each other one are lost
pub record HasNoSecond (told : Option Faults) (k : Kept) (ss : List VerifiedWire) (o : Offer) : Type 0 where
  pub lost : (j : ℕ) (a : Support) → slice_get o.others.items j ≡ Some a → AreLost told k ss o.wire.0 o.foot.cross.0 a.cross.0

-- .. each other one whose known end is reached beside the route
pub record HasNoneBeside (told : Option Faults) (k : Kept) (ss : List VerifiedWire) (o : Offer) (q : Walk) : Type 0 where
  pub rs : List Reach
  pub all : ReachesAll ss q (IsReached rs)
  pub lost : (j : ℕ) (a : Support) → slice_get o.others.items j ≡ Some a → IsReached rs a.wire.0 →
      AreLost told k ss o.wire.0 o.foot.cross.0 a.cross.0

-- it is so of one of these
pub record InSome {X : Type 0} (items : List X) (is_so : X → ℕ → Type 0) (x : ℕ) : Type 0 where
  pub place : ℕ
  pub item : X
  pub here : slice_get items place ≡ Some item
  pub so : is_so item x

-- these numbers, and no others, are put behind the old ones
pub record Adds (these : ℕ → Type 0) (old new : List ℕ) : Type 0 where
  pub stays : (x : ℕ) → among old x ≡ true → among new x ≡ true
  pub has : (x : ℕ) → these x → among new x ≡ true
  pub only : (x : ℕ) → among new x ≡ true → (among old x ≡ true) ⊎ these x

-- the crosspoint is one of the route
abbrev pub IsOn : Walk → ℕ → Type 0
IsOn r x = among r.crosses x ≡ true

-- it is that of a link whose known end is reached
abbrev pub IsHung : List Reach → Support → ℕ → Type 0
IsHung rs a x = IsReached rs a.wire.0 × (a.cross.0 ≡ x)

-- the known end of one of the links is reached
pub record HangsOnSome (rs : List Reach) (links : List Support) : Type 0 where
  pub place : ℕ
  pub link : Support
  pub here : slice_get links place ≡ Some link
  pub reached : IsReached rs link.wire.0

-- .. of none
abbrev pub HangsOnNone : List Reach → List Support → Type 0
HangsOnNone rs links = (j : ℕ) (a : Support) → slice_get links j ≡ Some a → ¬ IsReached rs a.wire.0

-- beside the route the wire of the offer hangs on nothing
pub record HangsNot (ss : List VerifiedWire) (o : Offer) (q : Walk) : Type 0 where
  pub rs : List Reach
  pub all : ReachesAll ss q (IsReached rs)
  pub none : HangsOnNone rs o.others.items

-- Beside the route the wire of the offer hangs on what is reached there: walks over the known ends of the other crosspoints, and
-- the crosspoints of these walks, these others and the one that is offered.
pub record IsHanging (k : Kept) (ss : List VerifiedWire) (o : Offer) (q : Walk) (routes : List Walk) (ties : List ℕ) : Type 0 where
  pub rs : List Reach
  pub on : (w : ℕ) → among q.wires w ≡ true → reach_at rs w ≡ reach.OnRoute
  pub trees : AreTrees ss rs
  pub all : ReachesAll ss q (IsReached rs)
  pub some : HangsOnSome rs o.others.items
  pub ends : List Wire
  pub wanted : (j : ℕ) (a : Support) → slice_get o.others.items j ≡ Some a → slice_get ends j ≡ Some a.wire
  pub walks : AreWalks k rs ends routes
  pub laid : Adds (λ x. InSome routes IsOn x ⊎ InSome o.others.items (IsHung rs) x) (o.foot.cross.0 ∷ []) ties

-- the pins of these routes, and no others, are driven 0
pub record ArePulled (routes : List Walk) (drive : Pins) : Type 0 where
  pub low : (j : ℕ) (r : Walk) → slice_get routes j ≡ Some r → slice_index_or drive r.pin true ≡ false
  pub only : (p : ℕ) → slice_index_or drive p true ≡ false → InSome routes (λ r p. r.pin ≡ p) p

-- a link is one of these, and its crosspoint kept
pub record IsPlaced (links : List Support) (a : Support) : Type 0 where
  pub place : ℕ
  pub here : slice_get links place ≡ Some a

pub record IsKeptOther (k : Kept) (links : List Support) (a : Support) : Type 0 where
  pub placed : IsPlaced links a
  pub kept : keeps_cross k a.cross.0 ≡ true

-- the crosspoint of the offer and this other one are kept
pub record IsSecond (k : Kept) (o : Offer) (a : Support) : Type 0 where
  pub own : keeps_cross k o.foot.cross.0 ≡ true
  pub other : IsKeptOther k o.others.items a
