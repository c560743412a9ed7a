-- Routes over known wires.
use Rattle.std.specs.Prelude.{◌≡◌, ◌≢◌, ◌⊎◌, ℕ, ◌<◌, true, false, List, AllPairs}
use Rattle.machine_config.specs.Groups.{among}
use Rattle.diag_tests.specs.Routes.{Walk, IsRoute}
use Rattle.diag_evidence.specs.Kept.{Kept, keeps_cross}
use Rattle.diag_known.specs.Known.{IsAt}
use Rattle.diag_known.specs.declared.verified_wire.{Support.Support, SupportedBy.SupportedBy, VerifiedWire.VerifiedWire}
use Rattle.diag_known.specs.declared.verified_wire.SupportedBy.TheVariants as stand

-- the stand is a pin
pub data IsPin : SupportedBy → Type 0 where
  is_pin : {n : ℕ} → IsPin (stand.Pin n)

-- a foot of the stand leads to one of these wires
pub data HasFootOn (on : ℕ → Type 0) : SupportedBy → Type 0 where
  first : {a b : Support} → on a.wire.0 → HasFootOn on (stand.Feet a b)
  second : {a b : Support} → on b.wire.0 → HasFootOn on (stand.Feet a b)

-- A known wire is a pin, or has a foot to one of these wires.
pub record RestsOn (ss : List VerifiedWire) (on : ℕ → Type 0) (w : ℕ) : Type 0 where
  pub place : ℕ
  pub at : IsAt ss place w
  pub rests : IsPin at.step.stand ⊎ HasFootOn on at.step.stand

-- A known wire is a pin, or came before this place.
pub record IsEarly (ss : List VerifiedWire) (n w : ℕ) : Type 0 where
  pub place : ℕ
  pub at : IsAt ss place w
  pub early : IsPin at.step.stand ⊎ (place < n)

-- a route over known wires by kept crosspoints, each wire of which is a pin or has a foot on it
pub record IsKnownRoute (k : Kept) (ss : List VerifiedWire) (r : Walk) : Type 0 where
  pub route : IsRoute k.shape r
  pub crosses : (x : ℕ) → among r.crosses x ≡ true → keeps_cross k x ≡ true
  pub wires : (w : ℕ) → among r.wires w ≡ true → RestsOn ss (λ u. among r.wires u ≡ true) w

-- two such routes without a common wire
pub record AreRoutes (k : Kept) (ss : List VerifiedWire) (p q : Walk) : Type 0 where
  pub left : IsKnownRoute k ss p
  pub right : IsKnownRoute k ss q
  pub apart : (w : ℕ) → among p.wires w ≡ true → among q.wires w ≡ false

-- Two such routes, to these wires. No wire stands in one of them twice and, but for pins, none came later than both of these.
pub record AreRoutesTo (k : Kept) (ss : List VerifiedWire) (a b : ℕ) (p q : Walk) : Type 0 where
  pub routes : AreRoutes k ss p q
  pub left_end : p.end ≡ a
  pub right_end : q.end ≡ b
  pub left_once : AllPairs (λ w u. w ≢ u) p.wires
  pub right_once : AllPairs (λ w u. w ≢ u) q.wires
  pub early : (n : ℕ) → IsEarly ss n a → IsEarly ss n b → (w : ℕ) → (among p.wires w ≡ true) ⊎ (among q.wires w ≡ true) → IsEarly ss n w
