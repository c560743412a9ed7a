-- The signals of the substituted design, and its size.
use Rattle.std.specs.Prelude.{ℕ, ◌==◌, ◌+◌, ◌&&◌, ◌||◌, nat_lt, Bool, List, [], ◌∷◌, ◌++◌, fold, length, if◌then◌else◌}
use Rattle.std.specs.List.{list_any, flat_map, position_or_len, sum_by}
use Rattle.design_netlist.specs.declared.netlist_data.Lit.{Lit}
use Rattle.design_flatten.specs.declared.model.Signal.{Signal}
use Rattle.design_flatten.specs.Lines.{Part, InputPart, OutputPart, CoverPart, LatchPart, UsePart, Line}

abbrev pub same_signal : Signal → Signal → Bool
same_signal s t = (s.used == t.used) && (s.own == t.own)

-- the signals after one more stands: a new one goes last
abbrev pub with_signal : List Signal → Signal → List Signal
with_signal signals s = if list_any (same_signal s) signals then signals else signals ++ s ∷ []

abbrev pub with_signals : List Signal → List Signal → List Signal
with_signals signals more = fold with_signal signals more

-- the number of a signal
abbrev pub signal_number : List Signal → Signal → ℕ
signal_number signals s = position_or_len (same_signal s) signals

-- the signals that stand on a line, from left to right; those that are only given to a model are none of them
abbrev pub words_in : Part Signal → List Signal
words_in (InputPart s) = s ∷ []
words_in (OutputPart s) = s ∷ []
words_in (CoverPart out ins rows off) = ins ++ out ∷ []
words_in (LatchPart from out init control) = from ∷ out ∷ []
words_in (UsePart m pairs way) = []

abbrev pub words_on : Line Signal → List Signal
words_on l = words_in l.part

-- by first appearance
abbrev pub signals_of : List (Line Signal) → List Signal
signals_of lines = with_signals [] (flat_map words_on lines)

-- the characters of a row, its output character among them
abbrev pub row_size : List Lit → ℕ
row_size row = length row + 1

abbrev pub size_in : Part Signal → ℕ
size_in (CoverPart out ins rows off) = sum_by row_size rows
size_in _ = 0

-- the characters of all rows
abbrev pub size_of : List (Line Signal) → ℕ
size_of lines = sum_by (λ l. size_in l.part) lines

-- more signals or more characters of rows than are allowed
abbrev pub is_over : List (Line Signal) → Bool
is_over lines = nat_lt 65535 (length (signals_of lines)) || nat_lt 16777216 (size_of lines)
