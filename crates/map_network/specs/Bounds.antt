-- What the parts of a plain network need of a design.
use Rattle.std.specs.Prelude.{◌<◌, ◌≤◌, ℕ, List, false, length, sum_by, slice_index_or}
use Rattle.design_netlist.specs.declared.netlist_data.{Cover.Cover, LatchDef.LatchDef, PortDef.PortDef}
use Rattle.design_netlist.specs.Vocabulary.{cover_at, IsCoverOver, cover_characters, word}
use Rattle.map_network.specs.Plain.{cover_size}

-- covers over so many signals, with few enough characters and tables
pub record AreCovers (covers : List Cover) (signals : ℕ) : Type 0 where
  pub made : (i : ℕ) → i < length covers → IsCoverOver (cover_at covers i) signals
  pub characters : sum_by cover_characters covers ≤ 16777216
  pub tables : sum_by cover_size covers < 4294967296

abbrev pub no_latch : LatchDef
no_latch = record { from = 0; out = 0; init = false; line = 0 }

abbrev pub latch_at : List LatchDef → ℕ → LatchDef
latch_at latches k = slice_index_or latches k no_latch

-- the signals of latches are below a number
pub record AreLatches (latches : List LatchDef) (signals : ℕ) : Type 0 where
  pub outs : (k : ℕ) → k < length latches → (latch_at latches k).out < signals
  pub froms : (k : ℕ) → k < length latches → (latch_at latches k).from < signals

-- the signals of ports are below a number
abbrev pub ArePorts : List PortDef → ℕ → Type 0
ArePorts ports signals = (k : ℕ) → k < length ports → (slice_index_or ports k (word 0 0)).signal < signals

-- signals are below a number
abbrev pub AreBelow : ℕ → List ℕ → Type 0
AreBelow count signals = (k : ℕ) → k < length signals → slice_index_or signals k 0 < count
