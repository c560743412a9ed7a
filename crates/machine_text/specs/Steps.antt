-- What a call on one line answers.
use Rattle.std.specs.Prelude.{◌≡◌, Option, None, Some, Result, Ok, Err}
use Rattle.machine_text.specs.declared.kind.MachineKind.{MachineKind}

-- what is said of its value where there is no fault, and else that fault
abbrev pub Steps : {A : Type 0} → Result A MachineKind → Option MachineKind → (A → Type 0) → Type 0
Steps (Ok x) fault P = (fault ≡ None) × P x
Steps (Err k) fault P = fault ≡ Some k
