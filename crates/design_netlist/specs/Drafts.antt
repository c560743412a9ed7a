-- The words of a design that drive signals and those that read them, and when a design is well made.
use Rattle.std.specs.Prelude.{ℕ, ◌≡◌, ◌<◌, ◌≤◌, ◌+◌, ◌++◌, List, [], slice_index_or, length, map, sum_by}
use Rattle.std.specs.List.{flat_map}
use Rattle.design_netlist.specs.declared.netlist_data.{Cover.Cover, LatchDef.LatchDef, PortDef.PortDef, Lit.Lit}
use Rattle.design_netlist.specs.{declared.netlist_data.NetlistData.NetlistData, Covers.cover_at, Covers.IsCoverOver}

-- a word of a line that names a signal
abbrev pub word : ℕ → ℕ → PortDef
word line signal = record { signal = signal; line = line }

abbrev pub word_at : List PortDef → ℕ → PortDef
word_at words k = slice_index_or words k (word 0 0)

abbrev pub signal_at : List PortDef → ℕ → ℕ
signal_at words k = (word_at words k).signal

abbrev pub line_at : List PortDef → ℕ → ℕ
line_at words k = (word_at words k).line

abbrev pub cover_drive : Cover → PortDef
cover_drive c = word c.line c.out

abbrev pub latch_drive : LatchDef → PortDef
latch_drive l = word l.line l.out

-- inputs, outputs of covers and outputs of latches drive
abbrev pub drive_words : NetlistData → List PortDef
drive_words d = d.inputs ++ map cover_drive d.covers ++ map latch_drive d.latches

abbrev pub cover_reads : Cover → List PortDef
cover_reads c = map (word c.line) c.ins

abbrev pub latch_read : LatchDef → PortDef
latch_read l = word l.line l.from

-- outputs of the design, inputs of covers and inputs of latches read
abbrev pub reads_of : NetlistData → List PortDef
reads_of d = d.outputs ++ flat_map cover_reads d.covers ++ map latch_read d.latches

-- some word drives the signal
abbrev pub IsDriven : NetlistData → ℕ → Type 0
IsDriven d s = (k : ℕ) × (k < length (drive_words d)) × (signal_at (drive_words d) k ≡ s)

abbrev pub name_at : NetlistData → ℕ → List ℕ
name_at d s = slice_index_or d.names s []

-- the characters of a row, the output character among them
abbrev pub row_characters : List Lit → ℕ
row_characters row = length row + 1

abbrev pub cover_characters : Cover → ℕ
cover_characters c = sum_by row_characters c.rows

-- signals are below the number of names, rows as long as the inputs, and nothing is more than is allowed
pub record IsWellMade (d : NetlistData) : Type 0 where
  pub covers : (i : ℕ) → i < length d.covers → IsCoverOver (cover_at d.covers i) (length d.names)
  pub drives : (k : ℕ) → k < length (drive_words d) → signal_at (drive_words d) k < length d.names
  pub reads : (k : ℕ) → k < length (reads_of d) → signal_at (reads_of d) k < length d.names
  pub names : length d.names ≤ 65535
  pub outputs : length d.outputs ≤ 16777216
  pub characters : sum_by cover_characters d.covers ≤ 16777216
