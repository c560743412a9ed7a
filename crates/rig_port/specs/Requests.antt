-- What is asked of a machine behind a port.
use Rattle.std.specs.Prelude.{◌≡◌, ℕ, ◌+◌, ◌*◌, ◌^◌, ◌<◌, ◌≤◌, Bool, true, false}
use Rattle.std.specs.Prelude.{List, [], ◌∷◌, ◌++◌, Some, None, All, fold, flat_map, length, decimal, codes}
use Rattle.std.specs.{Int.to_be_bytes, Int.w64, List.join_by}
use Rattle.hex.specs.Hex.{encode_lower}
use Rattle.machine_shape.specs.{declared.Shape.Shape, Bounds.most_ticks, Shape.crosses_of, Shape.tables_of, Shape.pins_of}
use Rattle.machine_meaning.specs.Circuit.{Pins}
use Rattle.machine_config.specs.declared.Setting.{Setting}
use Rattle.machine_config.specs.Configuration.{Configuration, with_closed, with_open, with_setting, with_ticks}
use Rattle.rig_port.specs.{declared.check.Check.Check, Checks.fresh_check, Lines.line_of, Lines.pin_bit, Lines.pin_text}

-- a change of what is set
pub data Edit : Type 0 where
  -- a crosspoint is closed, is open
  Close : (x : ℕ) → Edit
  Open : (x : ℕ) → Edit
  -- a table is on and does this, is off
  On : (t : ℕ) (s : Setting) → Edit
  Off : (t : ℕ) → Edit
  -- a cycle has so many ticks
  Tick : (n : ℕ) → Edit

-- what it makes of a configuration; what it doesn't name stays
abbrev pub edited_by : Configuration → Edit → Configuration
edited_by g (Close x) = with_closed g x
edited_by g (Open x) = with_open g x
edited_by g (On t s) = with_setting g t (Some s)
edited_by g (Off t) = with_setting g t None
edited_by g (Tick n) = with_ticks g n

-- after each of these, in order
abbrev pub edited : Configuration → List Edit → Configuration
edited g edits = fold edited_by g edits

-- its numbers are in range
abbrev pub IsEditOf : Shape → Edit → Type 0
IsEditOf m (Close x) = x < crosses_of m
IsEditOf m (Open x) = x < crosses_of m
IsEditOf m (On t s) = (t < tables_of m) × (s.cells < 2 ^ 64)
IsEditOf m (Off t) = t < tables_of m
IsEditOf m (Tick n) = (1 ≤ n) × (n ≤ most_ticks m)

-- the flags of a table: bit 0 says that it is latched, bit 1 is its initial bit
abbrev pub flag_digit : Setting → ℕ
flag_digit s = 48 + pin_bit s.latched + 2 * pin_bit s.init

-- how it is spelled
abbrev pub edit_text : Edit → List ℕ
edit_text (Close x) = 99 ∷ [] ++ decimal x
edit_text (Open x) = 111 ∷ [] ++ decimal x
edit_text (On t s) = 116 ∷ [] ++ decimal t ++ 44 ∷ [] ++ encode_lower (to_be_bytes w64 s.cells) ++ 44 ∷ [] ++ flag_digit s ∷ []
edit_text (Off t) = 120 ∷ [] ++ decimal t
edit_text (Tick n) = 107 ∷ [] ++ decimal n

abbrev pub edits_text : List Edit → List ℕ
edits_text edits = flat_map (λ e. edit_text e ++ 32 ∷ []) edits

-- a drive for each cycle
abbrev pub drives_text : List Pins → List ℕ
drives_text drives = join_by (λ pins. 100 ∷ [] ++ pin_text pins) (32 ∷ []) drives

abbrev pub AreWide : Shape → List Pins → Type 0
AreWide m drives = All (λ pins. length pins ≡ pins_of m) drives

-- at least one
abbrev pub AreDrivesOf : Shape → List Pins → Type 0
AreDrivesOf m drives = (0 < length drives) × AreWide m drives

-- the words before edits that are made on a machine where all is cleared first, and on it as it stands
abbrev pub start_text : Bool → List ℕ
start_text true = 122 ∷ 32 ∷ []
start_text false = []

-- the drives behind the word of a load, each with a space in front, if there are any
abbrev pub led_drives : List Pins → List ℕ
led_drives [] = []
led_drives (drive ∷ drives) = 32 ∷ drives_text (drive ∷ drives)

-- what the four requests say: attach, under a number; edits, a load and drives, anew or not; drives
abbrev pub attach_body : ℕ → List ℕ
attach_body n = codes "a " ++ decimal n

abbrev pub load_body : Bool → List Edit → List Pins → List ℕ
load_body anew edits drives = start_text anew ++ edits_text edits ++ 108 ∷ [] ++ led_drives drives

-- their lines; with the first the check begins
abbrev pub attach_line : ℕ → List ℕ
attach_line n = line_of fresh_check (attach_body n)

abbrev pub load_line : Check → Bool → List Edit → List Pins → List ℕ
load_line c anew edits drives = line_of c (load_body anew edits drives)

abbrev pub drives_line : Check → List Pins → List ℕ
drives_line c drives = line_of c (drives_text drives)

-- it is one of the four requests to a machine of this shape, and no byte more: its numbers are in range, its drives are as wide as the
-- machine, and some check is behind it
pub data IsRequestOf (m : Shape) (request : List ℕ) : Type 0 where
  sends_attach : (n : ℕ) → n < 2 ^ 32 → request ≡ attach_line n → IsRequestOf m request
  sends_load : (c : Check) (anew : Bool) (edits : List Edit) (drives : List Pins) → All (IsEditOf m) edits → AreWide m drives →
      request ≡ load_line c anew edits drives → IsRequestOf m request
  sends_drives : (c : Check) (drives : List Pins) → AreDrivesOf m drives → request ≡ drives_line c drives → IsRequestOf m request
