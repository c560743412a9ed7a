-- A recorded talk as a port.
use Rattle.std.specs.Prelude.{◌≡◌, ℕ, ◌≤◌, List, ◌++◌, length, drop, flat_map}
use Rattle.rig_port.specs.{FilePorts.IsLine, Said.Said, Said.Sent, Said.answered}

-- a request stood in front of all that was left of a recording, and then a line; what is left now stood behind them
pub record HasReplayed (old new request line : List ℕ) : Type 0 where
  pub asked : IsLine request
  pub replied : IsLine line
  pub left : old ≡ request ++ line ++ new

-- a request stands there, and behind it a line of at most so many bytes
pub record IsDue (left request : List ℕ) (room : ℕ) : Type 0 where
  pub line : List ℕ
  pub rest : List ℕ
  pub asked : IsLine request
  pub replied : IsLine line
  pub few : length line ≤ room
  pub left_is : left ≡ request ++ line ++ rest

-- what was said, as it is recorded
abbrev pub recorded_of : List Said → List ℕ
recorded_of talk = flat_map (λ s. s.request ++ s.line) talk

-- a recording begins with what was asked and answered, and the rest is left
abbrev pub BeginsWith : List ℕ → ℕ → List Sent → Type 0
BeginsWith recorded at talk = recorded ≡ recorded_of (answered talk) ++ drop at recorded
