-- Which pins each signal leads to.
use Rattle.std.specs.Prelude.{◌≡◌, ◌+◌, ◌^◌, ◌<◌, ◌≤◌, ◌⊎◌, ◌∷◌, ℕ, List, [], length, slice_index_or}
use Rattle.map_network.specs.{declared.source.Source.Source, Networks.table_at, Networks.IsSourceOf}
use Rattle.map_network.specs.declared.{source.Source.TheVariants.Input, source.Source.TheVariants.Table, network.Network.Network}
use Rattle.map_eval.specs.declared.pins.Pin.{Pin}

-- signals are the tables, and then the inputs
abbrev pub signal_of : ℕ → Source → ℕ
signal_of tables (Table j) = j
signal_of tables (Input k) = tables + k

abbrev pub source_at : Network → ℕ → ℕ → Source
source_at n t p = slice_index_or (table_at n t).ins p (Input 0)

-- the signal that pin p of table t reads
abbrev pub signal_at : Network → ℕ → ℕ → ℕ
signal_at n t p = signal_of (length n.tables) (source_at n t p)

-- tables have at most six pins, which read inputs and tables of the network
pub record AreInRange (n : Network) : Type 0 where
  pub few : (t : ℕ) → t < length n.tables → length (table_at n t).ins ≤ 6
  pub sources : (t p : ℕ) → t < length n.tables → p < length (table_at n t).ins → IsSourceOf n (source_at n t p)

-- pin p of table t
abbrev pub pin_of : ℕ → ℕ → Pin
pin_of t p = record { table = t; bit = 2 ^ p }

abbrev pub no_pin : Pin
no_pin = record { table = 0; bit = 0 }

abbrev pub pin_at : List Pin → ℕ → Pin
pin_at pins k = slice_index_or pins k no_pin

abbrev pub pins_at : List (List Pin) → ℕ → List Pin
pins_at lists s = slice_index_or lists s []

-- one of the first m of them is pin p of table t
abbrev pub IsAmong : List Pin → ℕ → ℕ → ℕ → Type 0
IsAmong pins m t p = (k : ℕ) × (k < m) × (pin_at pins k ≡ pin_of t p)

-- no pin stands there twice
abbrev pub AreApart : List Pin → Type 0
AreApart pins = (i k : ℕ) → i < k → k < length pins → pin_at pins i ≡ pin_at pins k → ⊥

-- pin p of table u is one of the first q pins of table t, or of a table before it
abbrev pub IsBefore : (t q u p : ℕ) → Type 0
IsBefore t q u p = (u < t) ⊎ ((u ≡ t) × (p < q))

-- a pin of the network that is before, and reads the signal
pub record ReadsSignal (n : Network) (t q s : ℕ) (pin : Pin) : Type 0 where
  pub table : ℕ
  pub place : ℕ
  pub before : IsBefore t q table place
  pub within : table < length n.tables
  pub pins : place < length (table_at n table).ins
  pub reads : signal_at n table place ≡ s
  pub is : pin ≡ pin_of table place

-- the first q pins of table t, and those of the tables before it, stand in the lists of what they read, each once, and nothing else
pub record ArePinsTo (n : Network) (t q : ℕ) (lists : List (List Pin)) : Type 0 where
  pub len : length lists ≡ length n.tables + n.inputs
  pub listed : (u p : ℕ) → IsBefore t q u p → u < length n.tables → p < length (table_at n u).ins →
      IsAmong (pins_at lists (signal_at n u p)) (length (pins_at lists (signal_at n u p))) u p
  pub right : (s k : ℕ) → k < length (pins_at lists s) → ReadsSignal n t q s (pin_at (pins_at lists s) k)
  pub apart : (s : ℕ) → AreApart (pins_at lists s)

-- each pin stands once in the list of what it reads, and nothing else does
abbrev pub ArePins : Network → List (List Pin) → Type 0
ArePins n lists = ArePinsTo n (length n.tables) 0 lists
