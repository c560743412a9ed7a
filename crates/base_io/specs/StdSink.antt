-- Standard output.
use Rattle.std.specs.Prelude.{ℕ, None, false}
use Rattle.base_io.specs.Sink.{SinkState}

-- what it means as a sink, by its count of failures: no bytes are told, and it never wants memory
abbrev pub std_sink_state : ℕ → SinkState
std_sink_state failures = record { written = None; failures = failures; can_lack = false }
