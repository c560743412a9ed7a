-- What keeps a further wire apart from the known ones.
use Rattle.std.specs.Prelude.{◌≡◌, ◌⊎◌, ℕ, true, Some, List, [], slice_get}
use Rattle.machine_shape.specs.declared.Wire.{Wire}
use Rattle.machine_config.specs.Groups.{among}
use Rattle.diag_tests.specs.Routes.{Walk}
use Rattle.diag_evidence.specs.Kept.{CanSettle, Kept, keeps_pair, keeps_wire}
use Rattle.diag_known.specs.Vocabulary.{IsAt, HasWire, Adds, InSome, IsOn, reach_at, IsReached, AreTrees, AreWalks, ReachesAll}
use Rattle.diag_known.specs.declared.{beside.Reach.Reach, verified_wire.VerifiedWire.VerifiedWire}
use Rattle.diag_known.specs.declared.beside.Reach.TheVariants as reach

-- the wire is one of these
pub record IsListed (ends : List Wire) (u : ℕ) : Type 0 where
  pub place : ℕ
  pub wire : Wire
  pub here : slice_get ends place ≡ Some wire
  pub is : wire.0 ≡ u

-- each known wire is kept apart from this one, or among these
abbrev pub AreLeft : Kept → List VerifiedWire → ℕ → List Wire → Type 0
AreLeft k ss w ends = (u : ℕ) → HasWire ss u → (keeps_pair k w u ≡ true) ⊎ IsListed ends u

-- .. the known wire at this place
abbrev pub LeavesAt : Kept → List VerifiedWire → ℕ → List Wire → ℕ → Type 0
LeavesAt k ss w ends i = (u : ℕ) → IsAt ss i u → (keeps_pair k w u ≡ true) ⊎ IsListed ends u

-- walks over all that is reached beside the route and not kept apart from the wire, and their crosspoints
pub record IsParting (k : Kept) (ss : List VerifiedWire) (w : ℕ) (q : Walk) (routes : List Walk) (ties : List ℕ) : Type 0 where
  pub rs : List Reach
  pub on : (u : ℕ) → among q.wires u ≡ true → reach_at rs u ≡ reach.OnRoute
  pub trees : AreTrees ss rs
  pub all : ReachesAll ss q (IsReached rs)
  pub ends : List Wire
  pub wanted : AreLeft k ss w ends
  pub walks : AreWalks k rs ends routes
  pub laid : Adds (InSome routes IsOn) [] ties

-- the wire is kept and on trial, and its row has all other wires of the set
pub record IsParted (k : Kept) (w : ℕ) : Type 0 where
  pub kept : keeps_wire k w ≡ true
  pub can : CanSettle k
  pub this : can.wire ≡ w

-- the wire is kept apart from all that is reached beside the route
pub record IsApartBeside (k : Kept) (ss : List VerifiedWire) (w : ℕ) (q : Walk) : Type 0 where
  pub rs : List Reach
  pub all : ReachesAll ss q (IsReached rs)
  pub apart : (u : ℕ) → HasWire ss u → IsReached rs u → keeps_pair k w u ≡ true
