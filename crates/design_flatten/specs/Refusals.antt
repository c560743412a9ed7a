-- Which limits are passed.
use Rattle.std.specs.Prelude.{◌≡◌, ◌<◌, true, List, length}
use Rattle.design_flatten.specs.{declared.model.Signal.Signal, Lines.Line, Signals.is_over}
use Rattle.design_flatten.specs.declared.refusal.Refusal.{Refusal, TheVariants.Memory, TheVariants.Limit}

-- more signals than are allowed. Lack of memory says nothing
abbrev pub IsPast : List Signal → Refusal → Type 0
IsPast signals Memory = Unit {0}
IsPast signals Limit = 65535 < length signals

-- more signals than are allowed, or more characters of rows
abbrev pub IsOver : List (Line Signal) → Refusal → Type 0
IsOver lines Memory = Unit {0}
IsOver lines Limit = is_over lines ≡ true
