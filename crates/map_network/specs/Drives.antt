-- What gives the signals, word by word.
use Rattle.std.specs.Prelude.{◌+◌, ◌-◌, ◌++◌, ℕ, List, [], ◌∷◌, sum_by, slice_set, slice_index_or}
use Rattle.design_netlist.specs.declared.netlist_data.{Cover.Cover, NetlistData.NetlistData, LatchDef.LatchDef, PortDef.PortDef}
use Rattle.map_network.specs.declared.source.Source.{Source, TheVariants.Input, TheVariants.Table}
use Rattle.map_network.specs.Plain.{cover_size}

-- a signal and what gives it
pub record Drive : Type 0 where
  pub signal : ℕ
  pub source : Source

abbrev pub input_drives : ℕ → List PortDef → List Drive
input_drives k [] = []
input_drives k (p ∷ ps) = record { signal = p.signal; source = Input k } ∷ input_drives (k + 1) ps

abbrev pub cover_drives : ℕ → List Cover → List Drive
cover_drives first [] = []
cover_drives first (c ∷ cs) = record { signal = c.out; source = Table (first + cover_size c - 1) } ∷ cover_drives (first + cover_size c) cs

abbrev pub latch_drives : ℕ → List LatchDef → List Drive
latch_drives first [] = []
latch_drives first (l ∷ ls) = record { signal = l.out; source = Table first } ∷ latch_drives (first + 1) ls

abbrev pub all_drives : NetlistData → List Drive
all_drives d = input_drives 0 d.inputs ++ cover_drives 0 d.covers ++ latch_drives (sum_by cover_size d.covers) d.latches

-- the list with these sources at these signals
abbrev pub written : List Source → List Drive → List Source
written sources [] = sources
written sources (x ∷ xs) = written (slice_set sources x.signal x.source) xs

-- the source of a signal, from a list by signals
abbrev pub source_in : List Source → ℕ → Source
source_in sources s = slice_index_or sources s (Input 0)
