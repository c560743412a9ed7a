-- A sink that has room for so many bytes.
use Rattle.std.specs.Prelude.{ℕ, List, Some, false}
use Rattle.base_io.specs.Sink.{SinkState}

-- what it means
pub record CutBytes : Type 0 where
  pub bytes : List ℕ
  -- how many bytes there is room for in all
  pub most : ℕ
  pub failures : ℕ

-- what it means as a sink: its bytes are told, and it never wants memory
abbrev pub cut_sink_state : CutBytes → SinkState
cut_sink_state s = record { written = Some s.bytes; failures = s.failures; can_lack = false }
