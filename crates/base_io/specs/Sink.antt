-- A sink of bytes, as callers see it.
use Rattle.std.specs.Prelude.{◌≡◌, ℕ, List, ◌++◌, take, Option, Bool, IsTrue, option_map}
use Rattle.base_io.specs.Counts.{Rose}
use Rattle.base_io.specs.declared.sink.SinkFail.{SinkFail, TheVariants.Failed, TheVariants.Memory}

-- what a sink means
pub record SinkState : Type 0 where
  -- the bytes written, where they are told
  pub written : Option (List ℕ)
  -- a count that never falls
  pub failures : ℕ
  -- whether it can answer a lack of memory at all: no call changes it
  pub can_lack : Bool

-- the bytes written grew by these, where they are told
abbrev pub Wrote : Option (List ℕ) → Option (List ℕ) → List ℕ → Type 0
Wrote old new bytes = new ≡ option_map (λ w. w ++ bytes) old

-- what a refusal of `put` says: a failure is counted and leaves a prefix, lack of memory changes nothing
abbrev pub PutFails : SinkFail → List ℕ → SinkState → SinkState → Type 0
PutFails Failed bytes old new = Rose old.failures new.failures × ((n : ℕ) × Wrote old.written new.written (take n bytes))
PutFails Memory bytes old new = IsTrue old.can_lack × (new ≡ old)
