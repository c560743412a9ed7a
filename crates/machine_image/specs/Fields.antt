-- What is known when fields were read.
use Rattle.std.specs.Prelude.{◌≡◌, ℕ, ◌+◌, ◌<◌, ◌≤◌, ◌==◌, Bool, false, Option, Some, None, List, ◌++◌, length, drop, slice_index_or}
use Rattle.std.specs.List.{list_any}
use Rattle.machine_image.specs.{declared.kind.ImageKind.ImageKind, Faults.Stands}
use Rattle.machine_image.specs.declared.kind.ImageKind.TheVariants as kind
use Rattle.machine_image.specs.declared.kind.ImageFault.{ImageFault, TheVariants.At, TheVariants.Memory}

-- so many bytes don't stand at a place
abbrev pub IsCut : ℕ → List ℕ → ℕ → ImageFault → Type 0
IsCut size bytes at fault = (length bytes < at + size) × (fault ≡ At (length bytes) kind.Short)

-- this number stands in a field, and is right there
pub record IsField (size : ℕ) (fault_of : ℕ → Option ImageKind) (bytes : List ℕ) (at n : ℕ) : Type 0 where
  pub stands : Stands size n bytes at
  pub within : at + size ≤ length bytes
  pub right : fault_of n ≡ None

-- a field is refused as cut off, or for the number that stands there
pub data IsRefusedField (size : ℕ) (fault_of : ℕ → Option ImageKind) (bytes : List ℕ) (at : ℕ) (fault : ImageFault) : Type 0 where
  is_cut : IsCut size bytes at fault → IsRefusedField size fault_of bytes at fault
  is_wrong : (n : ℕ) (k : ImageKind) → Stands size n bytes at → fault_of n ≡ Some k → fault ≡ At at k →
      IsRefusedField size fault_of bytes at fault

-- a fault has this place and kind; of a lack of memory nothing is said
abbrev pub FaultIn : (ℕ → ImageKind → Type 0) → ImageFault → Type 0
FaultIn Fault Memory = Unit {0}
FaultIn Fault (At line kind) = Fault line kind

-- from one place to another these bytes stand, and a fault behind them is one of the whole
pub record Passed (bytes : List ℕ) (at end : ℕ) (front : List ℕ) (Whole Behind : ℕ → ImageKind → Type 0) : Type 0 where
  pub within : end ≤ length bytes
  pub text : drop at bytes ≡ front ++ drop end bytes
  pub faults : (line : ℕ) (kind : ImageKind) → Behind line kind → Whole line kind

-- the marks tell which pins stand before
pub record AreMarks (pins : ℕ) (before : List ℕ) (marks : List Bool) : Type 0 where
  pub len : length marks ≡ pins
  pub told : (k : ℕ) → k < pins → slice_index_or marks k false ≡ list_any (λ p. p == k) before
