-- A sink in memory.
use Rattle.std.specs.Prelude.{ℕ, List, Some, true}
use Rattle.base_io.specs.Sink.{SinkState}

-- what a sink in memory means
pub record MemoryBytes : Type 0 where
  pub bytes : List ℕ
  -- the numbers of the calls that fail
  pub fails : List ℕ
  -- how many calls there were
  pub calls : ℕ
  pub failures : ℕ

-- what it means as a sink: its bytes are told
abbrev pub memory_sink_state : MemoryBytes → SinkState
memory_sink_state s = record { written = Some s.bytes; failures = s.failures; can_lack = true }
