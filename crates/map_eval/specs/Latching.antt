-- Latched tables that take what they read.
use Rattle.std.specs.Prelude.{◌≡◌, ◌+◌, ◌*◌, ◌<◌, ℕ, List, true, false, length}
use Rattle.map_network.specs.{declared.network.Network.Network, Vocabulary.IsLatched, Vocabulary.cell_at, Vocabulary.flip}
use Rattle.map_eval.specs.{declared.plan.Plan.Plan, declared.state.State.State, Marks.number_at, Marks.is_marked, Changes.differs_in}
use Rattle.map_eval.specs.States.{value_in}

-- the bits of a word: a table is due if it is latched and differs from what it gives
pub record AreDueIn (plan : Plan) (state : State) (word due : ℕ) : Type 0 where
  pub latched : (bit : ℕ) → bit < 64 → IsLatched plan.network (64 * word + bit) → cell_at due bit ≡ differs_in state (64 * word + bit)
  pub within : (bit : ℕ) → bit < 64 → cell_at due bit ≡ true → IsLatched plan.network (64 * word + bit)

-- and those of the first m words
abbrev pub AreDue : Plan → State → ℕ → List ℕ → Type 0
AreDue plan state m due = (word : ℕ) → word < m → AreDueIn plan state word (number_at due word)

-- what the tables of a word give is turned where the bits say so, and nothing else
pub record AreTurnedBy (word due : ℕ) (old new : State) : Type 0 where
  pub inputs : new.inputs.items ≡ old.inputs.items
  pub turned : (bit : ℕ) → bit < 64 →
      value_in new.values.items (64 * word + bit) ≡ flip (cell_at due bit) (value_in old.values.items (64 * word + bit))
  pub others : (t : ℕ) → ((bit : ℕ) → bit < 64 → t ≡ 64 * word + bit → ⊥) → value_in new.values.items t ≡ value_in old.values.items t

-- each latched table gives the other value exactly where it differed
pub record HaveTaken (n : Network) (old new : State) : Type 0 where
  pub inputs : new.inputs.items ≡ old.inputs.items
  pub latched : (t : ℕ) → IsLatched n t → value_in new.values.items t ≡ flip (differs_in old t) (value_in old.values.items t)
