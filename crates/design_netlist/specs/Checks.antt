-- When a design is checked, and which fault of one that is not comes first.
use Rattle.std.specs.Prelude.{ℕ, ◌≡◌, ◌<◌, List, Option, None, Some, length}
use Rattle.design_netlist.specs.declared.netlist_data.{NetlistData.NetlistData, PortDef.PortDef}
use Rattle.design_netlist.specs.declared.fault.DesignKind.{DesignKind, TheVariants.Doubled, TheVariants.Undriven, TheVariants.Cyclic}
use Rattle.design_netlist.specs.declared.fault.DesignFault.{DesignFault, TheVariants.At, TheVariants.Memory}
use Rattle.design_netlist.specs.{Orders.IsBefore, Orders.IsFirst, Covers.cover_at, Covers.cover_line, Covers.IsOnCycle}
use Rattle.design_netlist.specs.Drafts.{drive_words, reads_of, signal_at, line_at, IsDriven, name_at, IsWellMade}

-- none is driven twice, each signal that is read is driven, and no cover is on a cycle
pub record IsChecked (d : NetlistData) : Type 0 where
  pub made : IsWellMade d
  pub once : (j k : ℕ) → j < k → k < length (drive_words d) → signal_at (drive_words d) j ≡ signal_at (drive_words d) k → ⊥
  pub driven : (k : ℕ) → k < length (reads_of d) → IsDriven d (signal_at (reads_of d) k)
  pub acyclic : (i : ℕ) → i < length d.covers → IsOnCycle d.covers i → ⊥

-- the word has the signal of an earlier word
abbrev pub IsDoubledIn : List PortDef → ℕ → Type 0
IsDoubledIn words k = (j : ℕ) × (j < length words) × IsBefore (line_at words) j k × (signal_at words j ≡ signal_at words k)

-- the word drives a signal that an earlier word drives
abbrev pub IsDoubled : NetlistData → ℕ → Type 0
IsDoubled d k = IsDoubledIn (drive_words d) k

-- the word reads a signal that nothing drives
abbrev pub IsUndriven : NetlistData → ℕ → Type 0
IsUndriven d k = IsDriven d (signal_at (reads_of d) k) → ⊥

abbrev pub IsFirstDoubled : NetlistData → Option ℕ → Type 0
IsFirstDoubled d found = IsFirst (line_at (drive_words d)) (length (drive_words d)) (IsDoubled d) found

abbrev pub IsFirstUndriven : NetlistData → Option ℕ → Type 0
IsFirstUndriven d found = IsFirst (line_at (reads_of d)) (length (reads_of d)) (IsUndriven d) found

abbrev pub IsFirstCyclic : NetlistData → Option ℕ → Type 0
IsFirstCyclic d found = IsFirst (cover_line d.covers) (length d.covers) (IsOnCycle d.covers) found

-- the fault that comes first: of all kinds by the order of these lines, of one kind by line and place.
-- The name is the signal's
abbrev pub IsDesignFault : NetlistData → ℕ → DesignKind → Type 0
IsDesignFault d line (Doubled name) =
    (k : ℕ) × IsFirstDoubled d (Some k) × (line ≡ line_at (drive_words d) k) × (name ≡ name_at d (signal_at (drive_words d) k))
IsDesignFault d line (Undriven name) =
    IsFirstDoubled d None × (k : ℕ) × IsFirstUndriven d (Some k) × (line ≡ line_at (reads_of d) k)
    × (name ≡ name_at d (signal_at (reads_of d) k))
IsDesignFault d line (Cyclic name) =
    IsFirstDoubled d None × IsFirstUndriven d None × (k : ℕ) × IsFirstCyclic d (Some k) × (line ≡ cover_line d.covers k)
    × (name ≡ name_at d (cover_at d.covers k).out)
IsDesignFault d line _ = ⊥

-- what a refusal says of the design. Lack of memory says nothing
abbrev pub IsRefusalOf : NetlistData → DesignFault → Type 0
IsRefusalOf d (At line kind) = IsDesignFault d line kind
IsRefusalOf d Memory = Unit {0}
