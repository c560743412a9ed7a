-- A rig as the other end of a port.
use Rattle.std.specs.Prelude.{◌≡◌, ℕ, ◌+◌, ◌-◌, ◌^◌, ◌<◌, min, Bool, true, false, if◌then◌else◌}
use Rattle.std.specs.Prelude.{List, [], ◌++◌, map, length, All, Option, Some, None, is_some, option_map}
use Rattle.std.specs.Option.{option_map_or}
use Rattle.machine_shape.specs.declared.Shape.{Shape}
use Rattle.machine_meaning.specs.Circuit.{Pins}
use Rattle.machine_config.specs.Configuration.{Configuration, cleared}
use Rattle.rig.specs.Rig.{RigState, Exchange, shape_of, config_of, cycles_of, drives_of, readings_of, IsTold, KeepLengths}
use Rattle.rig_board.specs.Device.{Device, WhereTold}
use Rattle.rig_port.specs.{Answers.Answers, declared.check.Check.Check, Checks.after, Ports.PortState, declared.wanted.Wanted.Wanted}
use Rattle.rig_port.specs.{Lines.line_of, Lines.counts_body, Lines.reading_body, Lines.reading_line, declared.wanted.Change.Change}
use Rattle.rig_port.specs.Requests.{Edit, Close, Open, On, Off, Tick, IsEditOf, AreWide, AreDrivesOf}
use Rattle.rig_port.specs.Requests.{load_body, drives_text, attach_line, load_line, drives_line}
use Rattle.rig_port.specs.Said.{Sent}
use Rattle.rig_port.specs.declared.wanted.Change.TheVariants as change

-- a change as an edit
abbrev pub edit_of : Change → Edit
edit_of (change.Close c) = Close c.0
edit_of (change.Open c) = Open c.0
edit_of (change.On t s) = On t.0 s
edit_of (change.Off t) = Off t.0
edit_of (change.Ticks n) = Tick n

abbrev pub edits_of : List Change → List Edit
edits_of changes = map edit_of changes

-- the line that asks it
abbrev pub wanted_body : Wanted → List ℕ
wanted_body w = if w.loads then load_body w.anew (edits_of w.changes.items) w.drives.items else drives_text w.drives.items

abbrev pub wanted_line : Check → Wanted → List ℕ
wanted_line c w = line_of c (wanted_body w)

-- its numbers are in range; without a load there is a drive
pub record IsWantedOf (m : Shape) (w : Wanted) : Type 0 where
  pub edits : All (λ c. IsEditOf m (edit_of c)) w.changes.items
  pub drives : AreWide m w.drives.items
  pub some : w.loads ≡ false → 0 < length w.drives.items

-- a rig, the shape that it is to be, what is set while the port is open, whether that was loaded, the running check, what it was asked,
-- and failures
pub record RigEnd (I : Type 0) : Type 0 where
  pub inner : I
  pub shape : Shape
  pub set : Option Configuration
  pub running : Bool
  pub check : Check
  pub talk : List Sent
  pub failures : ℕ

-- the machine that it tells
abbrev pub rig_device : Shape → Configuration → Bool → RigState → Option Device
rig_device m g running rig =
    option_map (λ f. record { shape = m; faults = f; set = g; session = if running then rig.session else None }) rig.machine.faults

abbrev pub set_or_cleared : Shape → Option Configuration → Configuration
set_or_cleared m set = option_map_or (λ g. g) set (cleared m)

abbrev pub rig_port_state : {I : Type 0} → RigState → RigEnd I → PortState
rig_port_state rig e = record {
  is_open = is_some e.set;
  device = rig_device e.shape (set_or_cleared e.shape e.set) e.running rig;
  check = e.check;
  talk = e.talk;
  failures = min e.failures (2 ^ 64 - 1);
}

-- what is set is of the attached machine, and what runs there is a session of it
pub record IsReady (m : Shape) (g : Configuration) (running : Bool) (rig : RigState) : Type 0 where
  pub attached : shape_of rig ≡ Some m
  pub shape : g.shape ≡ m
  pub session : running ≡ true → (option_map (λ h. h.shape) (config_of rig) ≡ Some m) × IsTold rig

-- these drives went behind the cycles of a session of this configuration, and this line says what was read
pub record IsDriven (c : Check) (pins : ℕ) (g : Configuration) (before : List Exchange) (drives : List Pins) (line : List ℕ) (now : Check)
    (rig : RigState) : Type 0 where
  pub pairs : List Exchange
  pub driven : drives_of pairs ≡ drives
  pub wide : All (λ row. length row ≡ pins) (readings_of pairs)
  pub line_is : line ≡ reading_line c (readings_of pairs)
  pub check : now ≡ after c (reading_body (readings_of pairs))
  pub config : config_of rig ≡ Some g
  pub cycles : cycles_of rig ≡ before ++ pairs
  pub told : IsTold rig

-- where a load's changes begin
abbrev pub start_from : Bool → Configuration → Configuration
start_from true g = cleared g.shape
start_from false g = g

-- what was asked is answered: by this line the machine that is told went from one state to another
abbrev pub IsAnswered : Shape → Check → List ℕ → List ℕ → Check → Configuration → Bool → RigState → Configuration → Bool → RigState → Type 0
IsAnswered m c request line now g running old h runs new =
    WhereTold (λ d e. Answers d c request line e now) (rig_device m g running old) (rig_device m h runs new)

-- it is none of the four requests of a machine of this shape, as they are spelled behind this check
pub record IsNoRequest (m : Shape) (c : Check) (request : List ℕ) : Type 0 where
  pub attach : (n : ℕ) → n < 2 ^ 32 → request ≡ attach_line n → ⊥
  pub load : (anew : Bool) (edits : List Edit) (drives : List Pins) → All (IsEditOf m) edits → AreWide m drives →
      request ≡ load_line c anew edits drives → ⊥
  pub drives : (drives : List Pins) → AreDrivesOf m drives → request ≡ drives_line c drives → ⊥

-- it is one of the four requests of a machine of this shape, and a line that answers it has more bytes than these; all that answer it
-- have as many
pub data IsShort (m : Shape) (c : Check) (request : List ℕ) (room : ℕ) : Type 0 where
  asks_counts : (n : ℕ) → n < 2 ^ 32 → request ≡ attach_line n → room < length (counts_body n m.counts) + 6 → IsShort m c request room
  asks_load : (anew : Bool) (edits : List Edit) (drives readings : List Pins) → All (IsEditOf m) edits → AreWide m drives →
      request ≡ load_line c anew edits drives → KeepLengths drives readings → room < length (reading_body readings) + 6 →
      IsShort m c request room
  asks_cycles : (drives readings : List Pins) → AreDrivesOf m drives → request ≡ drives_line c drives → KeepLengths drives readings →
      room < length (reading_body readings) + 6 → IsShort m c request room
