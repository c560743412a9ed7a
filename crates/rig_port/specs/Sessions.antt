-- What a board over a port keeps of its session, to ask it again.
use Rattle.std.specs.Prelude.{◌≡◌, ℕ, ◌≤◌, Bool, true, List, [], ◌∷◌, ◌++◌, All, length, take, Option, IfSome}
use Rattle.machine_shape.specs.Shape.{pins_of}
use Rattle.machine_meaning.specs.Circuit.{Pins}
use Rattle.machine_config.specs.Configuration.{Configuration, cleared}
use Rattle.rig.specs.Rig.{Exchange}
use Rattle.rig_board.specs.Device.{Device, IsInSession, HasRunSession}
use Rattle.rig_port.specs.declared.{again.Again.Again, link.Link.Link}
use Rattle.rig_port.specs.{Requests.Edit, Requests.edited, Requests.IsEditOf, Requests.edits_text, Requests.start_text, Linked.told_with}

-- these words clear all, and then set this configuration
pub record SetsAnew (set : Configuration) (whole : List ℕ) : Type 0 where
  pub edits : List Edit
  pub right : All (IsEditOf set.shape) edits
  pub line_is : whole ≡ start_text true ++ edits_text edits
  pub set_is : set ≡ edited (cleared set.shape) edits

-- rows of so many pins, as many of each kind, of which the first are kept
pub record HasRows (pins : ℕ) (a : Again) : Type 0 where
  pub drives : All (λ row. length row ≡ pins) a.drives.items
  pub readings : All (λ row. length row ≡ pins) a.readings.items
  pub spare : All (λ row. length row ≡ pins) a.spare.items
  pub many : length a.readings.items ≡ length a.drives.items
  pub many_spare : length a.spare.items ≡ length a.drives.items
  pub made : a.made ≤ length a.drives.items

-- what was driven and read in the cycles that are kept
abbrev pub kept_drives : Again → List Pins
kept_drives a = take a.made a.drives.items

abbrev pub kept_reads : Again → List Pins
kept_reads a = take a.made a.readings.items

-- these are all drives and readings that are kept, where these cover the session
pub record IsOf (a : Again) (drives readings : List Pins) : Type 0 where
  pub driven : a.covers ≡ true → kept_drives a ≡ drives
  pub read : a.covers ≡ true → kept_reads a ≡ readings

-- drives and readings as pairs
abbrev pub pair : Pins → Pins → Exchange
pair d r = record { drive = d; reading = r }

abbrev pub paired : List Pins → List Pins → List Exchange
paired [] rs = []
paired (d ∷ ds) [] = []
paired (d ∷ ds) (r ∷ rs) = pair d r ∷ paired ds rs

abbrev pub kept_pairs : Again → List Exchange
kept_pairs a = paired (kept_drives a) (kept_reads a)

-- while something is loaded, its words are kept, and its cycles where they are covered
pub record CanResume (device : Option Device) (l : Link) (a : Again) : Type 0 where
  pub rows : HasRows (pins_of l.set.config.shape) a
  pub whole : l.running ≡ true → SetsAnew l.set.config a.whole.items
  pub kept : l.running ≡ true → a.covers ≡ true →
      IfSome (told_with l.due l.set.config device) (IsInSession l.set.config (kept_pairs a))

-- a told machine has a session of this configuration with these pairs, which is a run of it
abbrev pub HasMade : Configuration → List Exchange → Bool → Option Device → Type 0
HasMade g cycles due device = IfSome (told_with due g device) (λ d. IsInSession g cycles d × HasRunSession d)

-- what is kept of a session stays
pub record KeepsSession (old new : Again) : Type 0 where
  pub whole : new.whole ≡ old.whole
  pub drives : new.drives ≡ old.drives
  pub readings : new.readings ≡ old.readings
  pub made : new.made ≡ old.made
  pub covers : new.covers ≡ old.covers

-- whatever came, the configuration and what is known of it stay
pub record StaysLoaded (old new : Link) : Type 0 where
  pub set : new.set.config ≡ old.set.config
  pub lost : new.lost ≡ old.lost
  pub running : new.running ≡ old.running

-- all stays but the check, the reply and what is expected
pub record StaysPosted (old new : Link) : Type 0 where
  pub set : new.set ≡ old.set
  pub line : new.line ≡ old.line
  pub anew : new.anew ≡ old.anew
  pub running : new.running ≡ old.running
  pub due : new.due ≡ old.due
  pub lost : new.lost ≡ old.lost
