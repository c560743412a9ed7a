-- What one change changes.
use Rattle.std.specs.Prelude.{◌≡◌, ℕ, Bool, not, false, slice_set}
use Rattle.map_network.specs.{declared.network.Network.Network, Merging.Reads}
use Rattle.map_eval.specs.{declared.state.State.State, Marks.differs, States.value_in}

-- whether a table differs from what it gives
abbrev pub differs_in : State → ℕ → Bool
differs_in state t = differs state.masks.items state.addresses.items t

-- tables that don't read it differ as before
abbrev pub AreOthersAsBefore : Network → ℕ → (old new : State) → Type 0
AreOthersAsBefore n table old new = (t : ℕ) → (t ≡ table → ⊥) → (Reads n t table → ⊥) → differs_in new t ≡ differs_in old t

-- the table gives the other value
pub record IsTurnedAt (n : Network) (table : ℕ) (old new : State) : Type 0 where
  pub inputs : new.inputs.items ≡ old.inputs.items
  pub values : new.values.items ≡ slice_set old.values.items table (not (value_in old.values.items table))
  pub this : (Reads n table table → ⊥) → differs_in new table ≡ not (differs_in old table)
  pub others : AreOthersAsBefore n table old new

-- the table doesn't differ any more, and the others give what they gave
pub record IsEvaluated (n : Network) (table : ℕ) (old new : State) : Type 0 where
  pub inputs : new.inputs.items ≡ old.inputs.items
  pub values : (t : ℕ) → (t ≡ table → ⊥) → value_in new.values.items t ≡ value_in old.values.items t
  pub this : (Reads n table table → ⊥) → differs_in new table ≡ false
  pub others : AreOthersAsBefore n table old new
