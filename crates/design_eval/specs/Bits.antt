-- Bits of signals, in a list by their numbers, and what is kept of a design between two vectors.
use Rattle.std.specs.Prelude.{◌≡◌, ℕ, ◌<◌, List, [], ◌∷◌, Bool, false, length, map, slice_set, slice_index_or}
use Rattle.design_netlist.specs.{declared.netlist_data.NetlistData.NetlistData, Vocabulary.IsDriven, Vocabulary.bit_at}
use Rattle.design_eval.specs.declared.wiring.Wiring.{Wiring}

-- the list with these bits at these signals
unfoldable pub bits_put : List Bool → List ℕ → List Bool → List Bool
bits_put values [] bits = values
bits_put values (s ∷ ss) [] = values
bits_put values (s ∷ ss) (b ∷ bs) = bits_put (slice_set values s b) ss bs

-- signals are below a number
abbrev pub AreBelow : ℕ → List ℕ → Type 0
AreBelow count signals = (k : ℕ) → k < length signals → slice_index_or signals k 0 < count

-- signals that are all different
abbrev pub AreApart : List ℕ → Type 0
AreApart ss = (j k : ℕ) → j < k → k < length ss → slice_index_or ss j 0 ≡ slice_index_or ss k 0 → ⊥

-- the signals of a design that are written and read at each vector
pub record IsWiring (d : NetlistData) (w : Wiring) : Type 0 where
  pub inputs : w.inputs.items ≡ map (λ p. p.signal) d.inputs
  pub outputs : w.outputs.items ≡ map (λ p. p.signal) d.outputs
  pub drives : w.drives.items ≡ map (λ l. l.out) d.latches
  pub reads : w.reads.items ≡ map (λ l. l.from) d.latches

-- what is kept between two vectors: a bit for each signal, 0 where nothing drives it, and a bit for each latch
pub record AreReady (d : NetlistData) (values state : List Bool) : Type 0 where
  pub signals : length values ≡ length d.names
  pub latches : length state ≡ length d.latches
  pub others : (s : ℕ) → (IsDriven d s → ⊥) → bit_at values s ≡ false
