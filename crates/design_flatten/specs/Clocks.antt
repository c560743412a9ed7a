-- Controls of latches, and whether they are one.
use Rattle.std.specs.Prelude.{ℕ, ◌≡◌, Bool, false, nat_lt, List, [], Option, Some, None, length, slice_index_or, if◌then◌else◌}
use Rattle.std.specs.{List.list_any, List.position_or_len, HashMap.get_by, Str.bytes_eq}
use Rattle.design_flatten.specs.declared.{model.Signal.Signal, clocks.Clock.Clock, clocks.Places.Places}
use Rattle.design_netlist.specs.Orders.{IsFirst}
use Rattle.design_flatten.specs.{declared.clocks.Clocks.Clocks, Lines.Control, Lines.GivenControl, Lines.NamedControl, Signals.same_signal}
use Rattle.design_flatten.specs.Placed.{control_of}
use Rattle.design_flatten.specs.{Netlists.Clocked, Netlists.no_control, Netlists.control_at, Netlists.AreOneControl, Faults.IsFirstOther}

abbrev pub same_control : Control Signal → Control Signal → Bool
same_control (GivenControl s) (GivenControl t) = same_signal s t
same_control (NamedControl v) (NamedControl w) = bytes_eq v w
same_control _ _ = false

abbrev pub clocked_in : Clock → Clocked
clocked_in c = record { number = c.number; control = control_of c.control }

abbrev pub number_in : List Clocked → ℕ → ℕ
number_in controls k = (slice_index_or controls k no_control).number

abbrev pub control_in : List Clocked → ℕ → Control Signal
control_in controls k = control_at controls k

-- where a name stands first
abbrev pub place_in : List (List ℕ) → List ℕ → Option ℕ
place_in names w = if list_any (bytes_eq w) names then Some (position_or_len (bytes_eq w) names) else None

abbrev pub at_name : Places → List ℕ → Option ℕ
at_name p w = get_by (λ k. bytes_eq w k.now) p.map

-- the first control that is another than this, by the number of its line
abbrev pub IsUnlike : List Clocked → Control Signal → ℕ → Type 0
IsUnlike controls one k = same_control one (control_in controls k) ≡ false

abbrev pub IsFirstUnlike : List Clocked → Control Signal → Option ℕ → Type 0
IsFirstUnlike controls one None = IsFirst (number_in controls) (length controls) (IsUnlike controls one) None
IsFirstUnlike controls one (Some line) =
    (k : ℕ) × IsFirst (number_in controls) (length controls) (IsUnlike controls one) (Some k) × (line ≡ number_in controls k)

-- the first control
abbrev pub IsFirstClock : List Clocked → Clocked → Type 0
IsFirstClock controls f =
    (k : ℕ) × IsFirst (number_in controls) (length controls) (λ k. Unit {0}) (Some k) × (f ≡ slice_index_or controls k no_control)

-- and the line of the first that is another
abbrev pub AreFirstClocks : List Clocked → Option Clock → Option ℕ → Type 0
AreFirstClocks controls None other = (controls ≡ []) × (other ≡ None)
AreFirstClocks controls (Some f) other = IsFirstClock controls (clocked_in f) × IsFirstUnlike controls (clocked_in f).control other

-- what is kept of these controls, where names are those of the first model
pub record AreClocks (names : List (List ℕ)) (controls : List Clocked) (c : Clocks) : Type 0 where
  pub places : (w : List ℕ) → at_name c.places w ≡ place_in names w
  pub firsts : AreFirstClocks controls c.first c.other

-- ---- a control more

-- the lower of two lines, of which the first may be wanting
abbrev pub nearer_line : Option ℕ → ℕ → ℕ
nearer_line None line = line
nearer_line (Some o) line = if nat_lt line o then line else o

-- the line of the first that is another
abbrev pub other_with : Clocked → Option ℕ → Clocked → Option ℕ
other_with f other c =
    if same_control f.control c.control then other
    else if nat_lt c.number f.number then Some f.number
    else Some (nearer_line other c.number)

-- of two the one on the lower line
abbrev pub earlier_clock : Clock → Clock → Clock
earlier_clock f c = if nat_lt c.number f.number then c else f

-- all controls are one, or the line is the first with another
abbrev pub IsControlAnswer : List Clocked → Option ℕ → Type 0
IsControlAnswer controls None = AreOneControl controls
IsControlAnswer controls (Some line) = (k : ℕ) × IsFirstOther controls (Some k) × (line ≡ number_in controls k)
