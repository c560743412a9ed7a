-- What a machine behind a port answers, and how it then stands.
use Rattle.std.specs.Prelude.{◌≡◌, ℕ, ◌^◌, ◌<◌, Bool, true, false, List, [], ◌++◌, None, All, IfSome, length}
use Rattle.machine_shape.specs.{declared.Shape.Shape, Shape.pins_of}
use Rattle.machine_meaning.specs.Circuit.{Pins}
use Rattle.machine_config.specs.Configuration.{Configuration, cleared}
use Rattle.rig.specs.Rig.{Exchange, drives_of, readings_of}
use Rattle.rig_board.specs.Device.{Device, IsInSession, HasRunSession}
use Rattle.rig_port.specs.declared.check.Check.{Check}
use Rattle.rig_port.specs.{Checks.fresh_check, Checks.after, Lines.counts_body, Lines.counts_line, Lines.reading_body, Lines.reading_line}
use Rattle.rig_port.specs.Requests.{Edit, edited, IsEditOf, AreWide, AreDrivesOf, attach_body, load_body, drives_text}
use Rattle.rig_port.specs.Requests.{attach_line, load_line, drives_line}

-- the reply has a reading for each drive, the session goes on by these pairs, and its readings are the run; the check goes on from
-- that of the request
pub record Reads (c : Check) (g : Configuration) (cycles : List Exchange) (drives : List Pins) (reply : List ℕ) (e : Device)
    (now : Check) : Type 0 where
  pub pairs : List Exchange
  pub driven : drives_of pairs ≡ drives
  pub wide : All (λ pins. length pins ≡ pins_of e.shape) (readings_of pairs)
  pub reply_is : reply ≡ reading_line c (readings_of pairs)
  pub check : now ≡ after c (reading_body (readings_of pairs))
  pub session : IsInSession g (cycles ++ pairs) e
  pub run : HasRunSession e

-- the reply says what the machine is, nothing is set, and nothing is loaded; the check began with the request
pub record IsFresh (n : ℕ) (m : Shape) (reply : List ℕ) (e : Device) (now : Check) : Type 0 where
  pub reply_is : reply ≡ counts_line (after fresh_check (attach_body n)) n m.counts
  pub check : now ≡ after (after fresh_check (attach_body n)) (counts_body n m.counts)
  pub cleared : e.set ≡ cleared m
  pub session : e.session ≡ None

-- what is set before the edits of a load
abbrev pub start_of : Bool → Device → Configuration
start_of true d = cleared d.shape
start_of false d = d.set

-- what is set after them is loaded, and driven
pub record Loads (c : Check) (start : Configuration) (edits : List Edit) (drives : List Pins) (reply : List ℕ) (e : Device)
    (now : Check) : Type 0 where
  pub set : e.set ≡ edited start edits
  pub reads : Reads c e.set [] drives reply e now

-- what is set stays, and the session is driven on
pub record Drives (c : Check) (d : Device) (g : Configuration) (cycles : List Exchange) (drives : List Pins) (reply : List ℕ)
    (e : Device) (now : Check) : Type 0 where
  pub set : e.set ≡ d.set
  pub reads : Reads c g cycles drives reply e now

-- a device and its check, a request, the reply that came, and the device and its check then; of other requests, so also of lines with
-- another check, and of drives where nothing is loaded, nothing is said
pub record Answers (d : Device) (c : Check) (request reply : List ℕ) (e : Device) (now : Check) : Type 0 where
  pub shape : e.shape ≡ d.shape
  pub faults : e.faults ≡ d.faults
  pub attaches : (n : ℕ) → n < 2 ^ 32 → request ≡ attach_line n → IsFresh n d.shape reply e now
  pub loads : (anew : Bool) (edits : List Edit) (drives : List Pins) → All (IsEditOf d.shape) edits → AreWide d.shape drives →
      request ≡ load_line c anew edits drives →
      Loads (after c (load_body anew edits drives)) (start_of anew d) edits drives reply e now
  pub goes_on : (drives : List Pins) → AreDrivesOf d.shape drives → request ≡ drives_line c drives →
      IfSome d.session (λ s. Drives (after c (drives_text drives)) d s.config s.cycles drives reply e now)
