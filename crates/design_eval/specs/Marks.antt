-- Covers that are marked: an input may have changed since they were evaluated.
use Rattle.std.specs.Prelude.{◌≡◌, ℕ, ◌+◌, ◌<◌, ◌≤◌, List, Bool, false, true, length, slice_set}
use Rattle.design_netlist.specs.declared.netlist_data.Cover.{Cover}
use Rattle.design_netlist.specs.Vocabulary.{cover_at, truth, number_at, bit_at}
use Rattle.design_eval.specs.{declared.readers.Readers.Readers, Readers.IsListed, Readers.AreListed, Readers.AreReaders}

-- the cover in a turn has the truth of its inputs' bits
abbrev pub HoldsAt : List Cover → List ℕ → (ℕ → Bool) → ℕ → Type 0
HoldsAt covers order given k = given (cover_at covers (number_at order k)).out ≡ truth given (cover_at covers (number_at order k))

-- so has each cover that isn't marked, from a turn on
abbrev pub AreKept : List Cover → List ℕ → ℕ → List Bool → List Bool → Type 0
AreKept covers order m marks values = (k : ℕ) → m ≤ k → k < length order → bit_at marks k ≡ false → HoldsAt covers order (bit_at values) k

-- signals that no cover drives have the same bits
abbrev pub AreOthersSame : List Cover → List Bool → List Bool → Type 0
AreOthersSame covers old new = (s : ℕ) → ((i : ℕ) → i < length covers → (cover_at covers i).out ≡ s → ⊥) → bit_at new s ≡ bit_at old s

-- the readers of a signal are marked, and no mark was taken away
pub record HaveMarked (r : Readers) (signal : ℕ) (old new : List Bool) : Type 0 where
  pub len : length new ≡ length old
  pub kept : (k : ℕ) → bit_at new k ≡ false → bit_at old k ≡ false
  pub listed : (k : ℕ) → IsListed r signal k → bit_at new k ≡ true

-- a signal has a bit, and where it had another one its readers are marked
pub record HasGiven (r : Readers) (signal : ℕ) (bit : Bool) (marks values marks' values' : List Bool) : Type 0 where
  pub len : length marks' ≡ length marks
  pub is : values' ≡ slice_set values signal bit
  pub kept : (k : ℕ) → bit_at marks' k ≡ false → bit_at marks k ≡ false
  pub listed : (k : ℕ) → IsListed r signal k → bit_at marks' k ≡ false → bit_at values signal ≡ bit

-- signals have these bits, where the turns from one on that read them aren't marked
abbrev pub AreTaken : ℕ → List ℕ → List Bool → List Bool → List Bool → Type 0
AreTaken first signals bits marks values =
    (k : ℕ) → k < length signals → bit_at marks (first + k) ≡ false → bit_at values (number_at signals k) ≡ bit_at bits k

-- this stays so, for turns that aren't those of covers
abbrev pub StillTaken : ℕ → Readers → (marks values marks' values' : List Bool) → Type 0
StillTaken least r marks values marks' values' =
    (first : ℕ) (signals : List ℕ) (bits : List Bool) → least ≤ first → first + length signals ≤ 65536 → AreListed r first signals →
    AreTaken first signals bits marks values → AreTaken first signals bits marks' values'

-- signals that no cover drives
abbrev pub AreFree : List Cover → List ℕ → List ℕ → Type 0
AreFree covers order signals =
    (k i : ℕ) → k < length order → i < length signals → number_at signals i ≡ (cover_at covers (number_at order k)).out → ⊥

-- where each cover stands among the readers of its inputs and none drives these signals, all that held of covers that weren't
-- marked holds of those that aren't now
abbrev pub StillKept : Readers → List ℕ → (marks values marks' values' : List Bool) → Type 0
StillKept r signals marks values marks' values' =
    (covers : List Cover) (order : List ℕ) (count : ℕ) → AreReaders covers order count r → AreFree covers order signals →
    AreKept covers order 0 marks values → AreKept covers order 0 marks' values'
