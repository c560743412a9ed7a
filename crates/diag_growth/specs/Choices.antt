-- What a search for a place of a table chooses from.
use Rattle.std.specs.Prelude.{◌≡◌, ◌⊎◌, ℕ, Some, List, IfSome, IfNone, length, slice_get}
use Rattle.machine_shape.specs.Shape.{table_wire, hextant_of, IsLine}
use Rattle.diag_evidence.specs.Kept.{Kept}
use Rattle.diag_known.specs.{Known.HasWire, declared.verified_wire.VerifiedWire.VerifiedWire}
use Rattle.diag_growth.specs.Seating.{IsArmTo, IsFreeArm, IsFarPort, IsMeeting, IsPlaceAt}
use Rattle.diag_growth.specs.declared.{choices.Arms.Arms, choices.Fars.Fars, seats.Out.Out}

-- An arm from the port to the input, and another one over a different line; or none is over a different line.
pub record AreArmsOf (k : Kept) (ss : List VerifiedWire) (h near input : ℕ) (a : Arms) : Type 0 where
  pub first : IsArmTo k ss h near input near a.first
  pub second : IfSome a.second (IsArmTo k ss h near input a.first.line.0)
  pub none : IfNone a.second ((line : ℕ) → ¬ IsFreeArm k ss h near input a.first.line.0 line)

-- such arms to the first n inputs of the table
pub record AreInputArms (k : Kept) (ss : List VerifiedWire) (t near n : ℕ) (arms : List Arms) : Type 0 where
  pub count : length arms ≡ n
  pub each : (j : ℕ) (a : Arms) → slice_get arms j ≡ Some a → AreArmsOf k ss (hextant_of k.shape t) near (table_wire k.shape t j) a

-- A port of the hextant that stands without it and meets the line, and another one; or no other one does.
pub record AreFarsOf (k : Kept) (without : List VerifiedWire) (h line : ℕ) (f : Fars) : Type 0 where
  pub first : IsFarPort k without h line line f.first.0.0
  pub meets : IsMeeting k f.first.0.0 line f.first.1.0
  pub second : IfSome f.second (λ g. IsFarPort k without h f.first.0.0 line g.0.0 × IsMeeting k g.0.0 line g.1.0)
  pub none : IfNone f.second ((far : ℕ) → ¬ IsFarPort k without h f.first.0.0 line far)

-- a known line of the hextant that meets the output of the table, and such ports
pub record IsOut (k : Kept) (ss without : List VerifiedWire) (t : ℕ) (o : Out) : Type 0 where
  pub is_line : IsLine k.shape (hextant_of k.shape t) o.line.0
  pub known : HasWire ss o.line.0
  pub output : IsMeeting k (table_wire k.shape t 6) o.line.0 o.output.0
  pub fars : AreFarsOf k without (hextant_of k.shape t) o.line.0 o.fars

pub record AreOuts (k : Kept) (ss without : List VerifiedWire) (t : ℕ) (outs : List Out) : Type 0 where
  pub each : (j : ℕ) (o : Out) → slice_get outs j ≡ Some o → IsOut k ss without t o

-- the line is one of these
pub record IsOutLine (outs : List Out) (line : ℕ) : Type 0 where
  pub place : ℕ
  pub out : Out
  pub here : slice_get outs place ≡ Some out
  pub is : out.line.0 ≡ line

-- the line is one of these, or over it there is no place
abbrev pub IsTold : Kept → List VerifiedWire → List VerifiedWire → ℕ → List Out → ℕ → Type 0
IsTold k ss without t outs line = IsOutLine outs line ⊎ ((near : ℕ) → ¬ IsPlaceAt k ss without t near line)
