-- Two ways to a wire, and what is reached beside a route.
use Rattle.std.specs.Prelude.{◌≡◌, ◌≢◌, ◌⊎◌, ℕ, true, false, Some, List, slice_get}
use Rattle.machine_config.specs.Groups.{among}
use Rattle.diag_tests.specs.Routes.{Walk, IsRoute}
use Rattle.diag_evidence.specs.Kept.{Kept, keeps_cross}
use Rattle.diag_known.specs.{Known.IsFoot, declared.verified_wire.VerifiedWire.VerifiedWire}
use Rattle.diag_known.specs.{Routes.IsPin, Routes.HasFootOn, Routes.RestsOn, Routes.IsEarly, declared.verified_wire.Support.Support}

-- A route to the wire by kept crosspoints. Each wire on it but this one is known, and a pin or on a foot that is on the route
-- and isn't this one.
pub record IsWay (k : Kept) (ss : List VerifiedWire) (w : ℕ) (r : Walk) : Type 0 where
  pub route : IsRoute k.shape r
  pub crosses : (x : ℕ) → among r.crosses x ≡ true → keeps_cross k x ≡ true
  pub end : r.end ≡ w
  pub wires : (u : ℕ) → among r.wires u ≡ true → u ≢ w → RestsOn ss (λ v. (among r.wires v ≡ true) × (v ≢ w)) u

-- two ways to the wire that have it alone in common
pub record AreWays (k : Kept) (ss : List VerifiedWire) (w : ℕ) (p q : Walk) : Type 0 where
  pub first : IsWay k ss w p
  pub second : IsWay k ss w q
  pub meet : (u : ℕ) → among p.wires u ≡ true → among q.wires u ≡ true → u ≡ w

-- Two feet of a wire to different known ones, before which the wire didn't come.
pub record AreFeetOf (k : Kept) (ss : List VerifiedWire) (w : ℕ) (a b : Support) : Type 0 where
  pub n : ℕ
  pub one : IsFoot k ss n w a
  pub other : IsFoot k ss n w b
  pub differ : a.wire.0 ≢ b.wire.0
  pub late : ¬ IsEarly ss n w

-- Of the known wires beside the route all pins are among these, and each that has a foot to one of these.
pub record ReachesAll (ss : List VerifiedWire) (q : Walk) (reached : ℕ → Type 0) : Type 0 where
  pub all : (i : ℕ) (s : VerifiedWire) → slice_get ss i ≡ Some s → among q.wires s.wire.0 ≡ false → IsPin s.stand ⊎ HasFootOn reached s.stand →
      reached s.wire.0
