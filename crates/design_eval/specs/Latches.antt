-- What latches give, and what they gave last.
use Rattle.std.specs.Prelude.{◌≡◌, ℕ, ◌<◌, List, Bool, length}
use Rattle.design_netlist.specs.Valuations.{number_at, bit_at}
use Rattle.design_eval.specs.{declared.readers.Readers.Readers, Bits.bits_put, Marks.StillKept, Marks.StillTaken}

-- signals have these bits
abbrev pub HaveBits : List ℕ → List Bool → List Bool → Type 0
HaveBits signals bits values = (k : ℕ) → k < length signals → bit_at values (number_at signals k) ≡ bit_at bits k

-- some of what latches drive was given its bit
pub record HavePut (r : Readers) (drives : List ℕ) (state last marks values last' marks' values' : List Bool) : Type 0 where
  pub len : length values' ≡ length values
  pub marks_len : length marks' ≡ length marks
  pub last_len : length last' ≡ length last
  pub given : HaveBits drives last values → HaveBits drives last' values'
  pub whole : bits_put values' drives state ≡ bits_put values drives state
  pub stays : (k : ℕ) → bit_at last k ≡ bit_at state k → bit_at last' k ≡ bit_at state k
  pub kept : StillKept r drives marks values marks' values'
  pub taken : StillTaken 0 r marks values marks' values'
