-- The words of the substituted design that drive signals and those that read them, and which of them comes first.
use Rattle.std.specs.Prelude.{ℕ, ◌≡◌, ◌<◌, List, [], ◌∷◌, map, length, Option}
use Rattle.std.specs.List.{flat_map}
use Rattle.design_netlist.specs.declared.netlist_data.{Cover.Cover, PortDef.PortDef}
use Rattle.design_netlist.specs.Vocabulary.{IsFirst, cover_line, IsOnCycle, word, signal_at, line_at, IsDoubledIn}
use Rattle.design_flatten.specs.{declared.model.Signal.Signal, Signals.signal_number, Signals.signals_of, Netlists.cover_on}
use Rattle.design_flatten.specs.Lines.{Part, InputPart, OutputPart, CoverPart, LatchPart, UsePart, Line}

-- signals by their numbers
module _ (signals : List Signal) where
  -- an input drives, and so do the output of a cover and that of a latch
  abbrev pub drive_on : Line Signal → List PortDef
  drive_on l = by l.part
    where
      by : Part Signal → List PortDef
      by (InputPart s) = word l.number (signal_number signals s) ∷ []
      by (OutputPart s) = []
      by (CoverPart out ins rows off) = word l.number (signal_number signals out) ∷ []
      by (LatchPart from out init control) = word l.number (signal_number signals out) ∷ []
      by (UsePart m pairs way) = []

  -- an output of the design reads, and so do the inputs of a cover, from left to right, and the input of a latch
  abbrev pub read_on : Line Signal → List PortDef
  read_on l = by l.part
    where
      by : Part Signal → List PortDef
      by (InputPart s) = []
      by (OutputPart s) = word l.number (signal_number signals s) ∷ []
      by (CoverPart out ins rows off) = map (λ s. word l.number (signal_number signals s)) ins
      by (LatchPart from out init control) = word l.number (signal_number signals from) ∷ []
      by (UsePart m pairs way) = []

-- in the order of the lines
abbrev pub drives_in : List (Line Signal) → List PortDef
drives_in lines = flat_map (drive_on (signals_of lines)) lines

abbrev pub reads_in : List (Line Signal) → List PortDef
reads_in lines = flat_map (read_on (signals_of lines)) lines

abbrev pub covers_in : List (Line Signal) → List Cover
covers_in lines = flat_map (cover_on (signals_of lines)) lines

-- no word drives the signal that the word reads
abbrev pub IsUndrivenIn : List PortDef → List PortDef → ℕ → Type 0
IsUndrivenIn drives reads k = ((j : ℕ) × (j < length drives) × (signal_at drives j ≡ signal_at reads k)) → ⊥

-- the first word that drives a signal which an earlier word drives: by line number, and for one number by the order of the lines
abbrev pub IsFirstDoubled : List (Line Signal) → Option ℕ → Type 0
IsFirstDoubled lines found = IsFirst (line_at (drives_in lines)) (length (drives_in lines)) (IsDoubledIn (drives_in lines)) found

-- the first word that reads a signal which no word drives, in the same order
abbrev pub IsFirstUndriven : List (Line Signal) → Option ℕ → Type 0
IsFirstUndriven lines found =
    IsFirst (line_at (reads_in lines)) (length (reads_in lines)) (IsUndrivenIn (drives_in lines) (reads_in lines)) found

-- the first cover on a cycle, in the same order
abbrev pub IsFirstCyclic : List (Line Signal) → Option ℕ → Type 0
IsFirstCyclic lines found = IsFirst (cover_line (covers_in lines)) (length (covers_in lines)) (IsOnCycle (covers_in lines)) found
