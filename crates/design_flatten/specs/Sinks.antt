-- What is known of the lines so far.
use Rattle.std.specs.Prelude.{ℕ, ◌≡◌, ◌+◌, false, List, [], ◌∷◌, ◌++◌, None, map}
use Rattle.std.specs.List.{flat_map}
use Rattle.design_flatten.specs.{declared.model.Signal.Signal, declared.refusal.Refusal.Refusal, Signals.signals_of, Signals.size_of}
use Rattle.design_flatten.specs.{declared.sink.Sink.Sink, Netlists.control_on, Placed.placed_line, Substitution.is_left, Clocks.AreClocks}
use Rattle.design_flatten.specs.{Lines.Line, Words.drives_in, Drives.AreDrives, Refusals.IsOver}

-- of these lines, where names are those of the first model; they are held while no signal is driven twice
pub record IsSink (names : List (List ℕ)) (lines : List (Line Signal)) (s : Sink) : Type 0 where
  pub signals : s.signals ≡ signals_of lines
  pub room : s.room + size_of lines ≡ 16777216
  pub none_left : is_left lines ≡ false
  pub drives : AreDrives (drives_in lines) s.drives
  pub clocks : AreClocks names (flat_map (control_on names) lines) s.clocks
  pub held : s.drives.doubled ≡ None → map placed_line s.placed.items ≡ lines

-- whatever lines there were, this one is put behind them
abbrev pub IsPut : Sink → Line Signal → Sink → Type 0
IsPut old l new = (names : List (List ℕ)) (lines : List (Line Signal)) → IsSink names lines old → IsSink names (lines ++ l ∷ []) new

-- with this line they are beyond a limit
abbrev pub IsOverWith : Sink → Line Signal → Refusal → Type 0
IsOverWith old l e = (names : List (List ℕ)) (lines : List (Line Signal)) → IsSink names lines old → IsOver (lines ++ l ∷ []) e
