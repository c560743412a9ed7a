-- The words that drive, as they come: the first of each signal, and the first that has the signal of an earlier one.
use Rattle.std.specs.Prelude.{ℕ, ◌≡◌, Bool, ◌==◌, ◌&&◌, ◌||◌, nat_lt, List, Option, None, Some, option_map, map, length, slice_index_or}
use Rattle.std.specs.Prelude.{if◌then◌else◌}
use Rattle.design_netlist.specs.declared.netlist_data.PortDef.{PortDef}
use Rattle.design_netlist.specs.Vocabulary.{IsFirst, word_at, signal_at, line_at, IsDoubledIn}
use Rattle.design_flatten.specs.declared.drives.{Driver.Driver, Drives.Drives}

-- the first of the words with a property, and its place; or none has it
abbrev pub IsFirstWord : List PortDef → (ℕ → Type 0) → Option Driver → Type 0
IsFirstWord words P None = IsFirst (line_at words) (length words) P None
IsFirstWord words P (Some d) = IsFirst (line_at words) (length words) P (Some d.place) × (d.word ≡ word_at words d.place)

-- what is kept for a signal
abbrev pub first_at : List (Option Driver) → ℕ → Option Driver
first_at firsts s = slice_index_or firsts s None

pub record AreDrives (words : List PortDef) (d : Drives) : Type 0 where
  pub count : d.count ≡ length words
  pub firsts : (s : ℕ) → IsFirstWord words (λ k. signal_at words k ≡ s) (first_at d.firsts.items s)
  pub doubled : IsFirstWord words (IsDoubledIn words) d.doubled

-- the places of the first words
abbrev pub places_of : List (Option Driver) → List (Option ℕ)
places_of firsts = map (λ (f : Option Driver). option_map (λ (d : Driver). d.place) f) firsts

-- ---- a word more

-- on an earlier line, or on the same and in front
abbrev pub is_nearer : Driver → Driver → Bool
is_nearer a b = nat_lt a.word.line b.word.line || ((a.word.line == b.word.line) && nat_lt a.place b.place)

abbrev pub nearest : Option Driver → Option Driver → Option Driver
nearest None b = b
nearest (Some a) None = Some a
nearest (Some a) (Some b) = if is_nearer b a then Some b else Some a

-- of a word and the first of those in front that have its signal, the one that comes first
abbrev pub first_with : Option Driver → Driver → Driver
first_with None d = d
first_with (Some f) d = if nat_lt d.word.line f.word.line then d else f

-- and the other, which is doubled
abbrev pub doubled_with : Option Driver → Driver → Option Driver
doubled_with None d = None
doubled_with (Some f) d = if nat_lt d.word.line f.word.line then Some f else Some d
