-- A rig that turns a bit of one reading.
use Rattle.std.specs.Prelude.{◌≡◌, ◌⊎◌, ℕ, zero, suc, ◌+◌, ◌-◌, ◌^◌, ◌<◌, min, not, List, [], ◌∷◌, length, slice_index_or, slice_set}
use Rattle.std.specs.Prelude.{Option, None, Some, IsSome, IfSome, flat_map, option_map}
use Rattle.machine_meaning.specs.Circuit.{Pins}
use Rattle.rig.specs.Rig.{Exchange, Session, Past, RigState, cycles_of, standing}
use Rattle.example_rigs.specs.declared.turn.Turn.{Turn}

-- the reading with its first bit turned
abbrev pub turned : Pins → Pins
turned [] = []
turned (bit ∷ bits) = not bit ∷ bits

-- the cycles with the reading of one of them turned
abbrev pub turned_at : ℕ → List Exchange → List Exchange
turned_at k [] = []
turned_at zero (c ∷ cs) = record { drive = c.drive; reading = turned c.reading } ∷ cs
turned_at (suc k) (c ∷ cs) = c ∷ turned_at k cs

abbrev pub turned_in : Option ℕ → List Exchange → List Exchange
turned_in None cycles = cycles
turned_in (Some k) cycles = turned_at k cycles

-- one of these readings was turned, and so many were made before it in the session
pub record IsTurned (old new : Turn) (before after : List Pins) : Type 0 where
  pub k : ℕ
  pub within : k < length before
  pub first : old.place ≡ None
  pub place : new.place ≡ Some (old.made + k)
  pub counted : old.made < 2 ^ 64 - 1
  pub reads : after ≡ slice_set before k (turned (slice_index_or before k []))

-- these readings were passed on, one of them turned or none
pub record Passes (old new : Turn) (before after : List Pins) : Type 0 where
  pub made : new.made ≡ min (old.made + length before) (2 ^ 64 - 1)
  pub reads : ((new.place ≡ old.place) × (after ≡ before)) ⊎ IsTurned old new before after

-- a rig, and the place in its session of the reading that was turned
pub record TurnedRig (I : Type 0) : Type 0 where
  pub inner : I
  pub place : Option ℕ

-- a rig that turns, as its rig with that place, and both as they stood when each session ended
pub record Turning (I : Type 0) : Type 0 where
  pub inner : I
  pub place : Option ℕ
  pub past : List (TurnedRig I)

-- the session but for the reading that was turned
abbrev pub turned_session : Option Session → Option ℕ → Option Session
turned_session session place = option_map (λ (s : Session). record s { cycles = turned_in place s.cycles }) session

-- the sessions that have ended, by what each rig means
abbrev pub turned_past : {I : Type 0} → (I → RigState) → List (TurnedRig I) → List Past
turned_past state past = flat_map (λ t. standing (turned_session (state t.inner).session t.place)) past

-- what it means: what its inner rig does, but for the readings that were turned, and it tells no faults
abbrev pub turn_state : RigState → Option ℕ → List Past → RigState
turn_state inner place past = record inner {
  machine = record inner.machine { faults = None };
  session = turned_session inner.session place;
  past = past;
}

-- these cycles are counted, and the one that was turned is among them
pub record CountsCycles (t : Turn) (cycles : List Exchange) : Type 0 where
  pub made : t.made ≡ min (length cycles) (2 ^ 64 - 1)
  pub place : IfSome t.place (λ k. k < length cycles)

-- the cycles of a session are counted
abbrev pub IsTurning : Turn → RigState → Type 0
IsTurning t inner = IsSome inner.session → CountsCycles t (cycles_of inner)
