-- What a refusal says.
use Rattle.std.specs.Prelude.{ℕ, ◌≡◌, Option, Some}
use Rattle.design_netlist.specs.declared.fault.{DesignKind.DesignKind, DesignFault.DesignFault}
use Rattle.design_blif.specs.declared.kind.Refusal.{Refusal, TheVariants.Memory, TheVariants.Kind}
use Rattle.design_netlist.specs.declared.fault.DesignFault.TheVariants as fault

-- it is for this fault; of a lack of memory nothing is said
abbrev pub IsRefusedAs : Option DesignKind → Refusal → Type 0
IsRefusedAs fault Memory = Unit {0}
IsRefusedAs fault (Kind k) = fault ≡ Some k

-- the same of a design, at a line
abbrev pub fault_at : Refusal → ℕ → DesignFault
fault_at Memory line = fault.Memory
fault_at (Kind k) line = fault.At line k
