-- The substituted design.
use Rattle.std.specs.Prelude.{ℕ, zero, suc, Bool, false, ◌≡◌, List, [], ◌∷◌, ◌++◌, map, Option, Some, None, option_map, if◌then◌else◌}
use Rattle.std.specs.{Prelude.slice_index_or, List.list_any, Option.option_or, Option.unwrap_or, Str.bytes_eq}
use Rattle.design_flatten.specs.declared.model.{Model.Model, Signal.Signal}
use Rattle.design_flatten.specs.Lines.{Pair, Control, GivenControl, NamedControl, Part, InputPart, OutputPart, CoverPart, LatchPart, UsePart, Line}
use Rattle.design_flatten.specs.Lines.{no_model, lines_of_model, is_port, is_use}

-- what a name becomes, if it is given
abbrev pub given : List (Pair Signal) → List ℕ → Option Signal
given [] w = None
given (p ∷ pairs) w = option_or (given pairs w) (if bytes_eq p.formal w then Some p.actual else None)

-- where a model replaces a line: the number of that line, the way to it, and what it gives
pub record ModelPlace : Type 0 where
  pub used : ℕ
  pub way : List ℕ
  pub actuals : List ℕ → Option Signal

-- a given formal becomes its actual and every other signal becomes a new one
abbrev pub becomes : ModelPlace → List (List ℕ) → ℕ → Signal
becomes at names s = unwrap_or (at.actuals (slice_index_or names s [])) (record { used = at.used; own = s })

-- a control that is a given formal becomes its actual; another keeps its name
abbrev pub control_becomes : ModelPlace → Control ℕ → Control Signal
control_becomes at (GivenControl s) = GivenControl (record { used = at.used; own = s })
control_becomes at (NamedControl w) = by (at.actuals w)
  where
    by : Option Signal → Control Signal
    by None = NamedControl w
    by (Some s) = GivenControl s

abbrev pub pair_through : (ℕ → Signal) → Pair ℕ → Pair Signal
pair_through f p = record { formal = p.formal; actual = f p.actual }

abbrev pub part_through : ModelPlace → (ℕ → Signal) → Part ℕ → Part Signal
part_through at f (InputPart s) = InputPart (f s)
part_through at f (OutputPart s) = OutputPart (f s)
part_through at f (CoverPart out ins rows off) = CoverPart (f out) (map f ins) rows off
part_through at f (LatchPart from out init control) = LatchPart (f from) (f out) init (option_map (control_becomes at) control)
part_through at f (UsePart m pairs way) = UsePart m (map (pair_through f) pairs) (at.way ++ way)

-- a line keeps its number
abbrev pub through : ModelPlace → List (List ℕ) → Line ℕ → Line Signal
through at names l = record { number = l.number; part = part_through at (becomes at names) l.part }

abbrev pub lines_at : Model → ModelPlace → List (Line Signal)
lines_at m at = map (through at m.names) (lines_of_model m)

-- the `.names` lines with their rows, the `.latch` and the `.subckt` lines
abbrev pub without_ports : List (Line Signal) → List (Line Signal)
without_ports [] = []
without_ports (l ∷ lines) = if is_port l.part then without_ports lines else l ∷ without_ports lines

abbrev pub first_model : List Model → Model
first_model [] = no_model
first_model (m ∷ models) = m

-- the model with this name
abbrev pub model_named : List Model → List ℕ → Model
model_named [] w = no_model
model_named (m ∷ models) w = if bytes_eq m.name w then m else model_named models w

-- what stands for line k: a line that uses a model is replaced by the lines of that model
abbrev pub replace : List Model → ℕ → Line Signal → Part Signal → List (Line Signal) → List (Line Signal) → List (Line Signal)
replace models k l (UsePart m pairs way) lines later =
    without_ports (lines_at (model_named models m) (record { used = k; way = way; actuals = given pairs })) ++ lines
replace models k l _ lines later = l ∷ later

-- the first line that uses a model is replaced, as line k
abbrev pub replace_first : List Model → ℕ → List (Line Signal) → List (Line Signal)
replace_first models k [] = []
replace_first models k (l ∷ lines) = replace models k l l.part lines (replace_first models k lines)

-- where the first model stands
abbrev pub at_first : ModelPlace
at_first = record { used = 0; way = []; actuals = λ w. None }

-- the lines of the first model, after the first line that uses a model was replaced k times
unfoldable pub after : List Model → ℕ → List (Line Signal)
after models zero = lines_at (first_model models) at_first
after models (suc k) = replace_first models (suc k) (after models k)

-- a line that uses a model is left
abbrev pub is_left : List (Line Signal) → Bool
is_left lines = list_any (λ l. is_use l.part) lines

-- the substituted design, which took k replacements
pub record IsSubstituted (models : List Model) (k : ℕ) (lines : List (Line Signal)) : Type 0 where
  pub reached : lines ≡ after models k
  pub none_left : is_left lines ≡ false
