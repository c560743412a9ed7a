-- The tables of the words that drive, and what is found with them.
use Rattle.std.specs.Prelude.{ℕ, ◌≡◌, ◌<◌, List, Option, None, Some, false, length, slice_index_or, is_some, if◌then◌else◌, nat_lt}
use Rattle.design_netlist.specs.declared.{netlist_data.NetlistData.NetlistData, netlist_data.LatchDef.LatchDef, checks.Found.Found}
use Rattle.design_netlist.specs.{declared.netlist_data.PortDef.PortDef, Checks.IsFirstDoubled, Checks.IsFirstUndriven, Checks.IsFirstCyclic}
use Rattle.design_netlist.specs.declared.checks.Found.TheVariants.{Doubled, Undriven, Cyclic, Order}
use Rattle.design_netlist.specs.{Orders.IsFirst, Covers.cover_at, Valuations.IsOrder}
use Rattle.design_netlist.specs.Drafts.{signal_at, line_at, word_at, drive_words, reads_of, cover_drive, IsDriven, IsWellMade}

abbrev pub place_at : List (Option ℕ) → ℕ → Option ℕ
place_at firsts s = slice_index_or firsts s None

-- for each signal the first of the first n words that have it
abbrev pub AreFirstWords : List PortDef → ℕ → ℕ → List (Option ℕ) → Type 0
AreFirstWords words n count firsts = (s : ℕ) → s < count → IsFirst (line_at words) n (λ k. signal_at words k ≡ s) (place_at firsts s)

-- signals of words are below a number
abbrev pub AreWithin : ℕ → List PortDef → Type 0
AreWithin count words = (k : ℕ) → k < length words → signal_at words k < count

abbrev pub AreBelow : ℕ → List ℕ → Type 0
AreBelow count signals = (k : ℕ) → k < length signals → slice_index_or signals k 0 < count

abbrev pub latch_at : List LatchDef → ℕ → LatchDef
latch_at latches k = slice_index_or latches k (record { from = 0; out = 0; init = false; line = 0 })

-- signals of latches are below a number
abbrev pub AreLatchesBelow : ℕ → List LatchDef → Type 0
AreLatchesBelow count latches = (k : ℕ) → k < length latches → ((latch_at latches k).out < count) × ((latch_at latches k).from < count)

-- of two words the one on the earlier line, or else the one found before
abbrev pub nearer : Option PortDef → PortDef → Option PortDef
nearer None w = Some w
nearer (Some o) w = if nat_lt w.line o.line then Some w else Some o

-- the word counts if its signal has no place in the table
abbrev pub sooner : List (Option ℕ) → Option PortDef → PortDef → Option PortDef
sooner firsts found w = if is_some (place_at firsts w.signal) then found else nearer found w

-- no signal is driven twice, and each that is read is driven
pub record IsDrivenOnce (d : NetlistData) : Type 0 where
  pub made : IsWellMade d
  pub undoubled : IsFirstDoubled d None
  pub once : (j k : ℕ) → j < k → k < length (drive_words d) → signal_at (drive_words d) j ≡ signal_at (drive_words d) k → ⊥
  pub complete : IsFirstUndriven d None
  pub driven : (k : ℕ) → k < length (reads_of d) → IsDriven d (signal_at (reads_of d) k)

-- the word of the first fault, or that there is none
abbrev pub IsFoundIn : NetlistData → Found → Type 0
IsFoundIn d (Doubled w) = (k : ℕ) × IsFirstDoubled d (Some k) × (w ≡ word_at (drive_words d) k)
IsFoundIn d (Undriven w) = IsFirstDoubled d None × (k : ℕ) × IsFirstUndriven d (Some k) × (w ≡ word_at (reads_of d) k)
IsFoundIn d (Cyclic w) = IsDrivenOnce d × (k : ℕ) × IsFirstCyclic d (Some k) × (w ≡ cover_drive (cover_at d.covers k))
IsFoundIn d (Order order) = IsDrivenOnce d × IsFirstCyclic d None × IsOrder d.covers order.items
