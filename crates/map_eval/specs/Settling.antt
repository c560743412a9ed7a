-- Combinational tables that have the cells of their addresses.
use Rattle.std.specs.Prelude.{◌≡◌, ◌<◌, ℕ, List, false, true}
use Rattle.map_network.specs.{declared.network.Network.Network, Networks.IsCombinational, Networks.IsLatched}
use Rattle.map_eval.specs.{declared.state.State.State, Marks.is_marked, States.value_in, Changes.differs_in}

-- inputs and latched tables give what they gave
pub record AreGivenBefore (n : Network) (old new : State) : Type 0 where
  pub inputs : new.inputs.items ≡ old.inputs.items
  pub latched : (t : ℕ) → IsLatched n t → value_in new.values.items t ≡ value_in old.values.items t

-- no combinational table differs from what it gives
abbrev pub AreSettled : Network → State → Type 0
AreSettled n state = (t : ℕ) → IsCombinational n t → differs_in state t ≡ false

-- no table of the gates is marked
abbrev pub AreClear : (gates marks : List ℕ) → Type 0
AreClear gates marks = (t : ℕ) → is_marked gates t ≡ true → is_marked marks t ≡ false
