-- Which fault of a list of models comes first.
use Rattle.std.specs.Prelude.{ℕ, ◌≡◌, ◌<◌, ◌≤◌, true, List, [], length, map, Option, Some, None, slice_index_or}
use Rattle.design_netlist.specs.declared.fault.{DesignKind.DesignKind, DesignFault.DesignFault}
use Rattle.design_netlist.specs.declared.fault.DesignKind.TheVariants as kind
use Rattle.design_netlist.specs.declared.fault.DesignFault.TheVariants as fault
use Rattle.design_netlist.specs.Vocabulary.{IsBefore, IsFirst, cover_at, cover_line, signal_at, line_at}
use Rattle.design_flatten.specs.{declared.model.Model.Model, declared.model.Signal.Signal, Substitution.IsSubstituted}
use Rattle.design_flatten.specs.{Lines.Line, UseFaults.IsUnknown, UseFaults.wrong_formal, UseFaults.IsWronglyGiven, UseFaults.IsFirstUse}
use Rattle.design_flatten.specs.{Signals.signals_of, Signals.is_over, Uses.use_at, Uses.IsRecursive, Uses.KeepsRules}
use Rattle.design_flatten.specs.Netlists.{Clocked, no_control, control_at, controls_of, AreOneControl, IsWithin, printed}
use Rattle.design_flatten.specs.Words.{drives_in, reads_in, covers_in, IsFirstDoubled, IsFirstUndriven, IsFirstCyclic}

-- the control is another than an earlier one
abbrev pub IsOtherControl : List Clocked → ℕ → Type 0
IsOtherControl controls k =
    (j : ℕ) × (j < length controls) × IsBefore (λ i. (slice_index_or controls i no_control).number) j k
    × (control_at controls j ≡ control_at controls k → ⊥)

abbrev pub IsFirstOther : List Clocked → Option ℕ → Type 0
IsFirstOther controls found = IsFirst (λ i. (slice_index_or controls i no_control).number) (length controls) (IsOtherControl controls) found

-- no substituted design is within the limits
abbrev pub IsTooMuch : List Model → Type 0
IsTooMuch models = (k : ℕ) (lines : List (Line Signal)) → k ≤ 65535 → IsSubstituted models k lines → is_over lines ≡ true

-- the rules are kept, the lines are the substituted design within the limits, and there is one control
pub record IsClean (models : List Model) (lines : List (Line Signal)) : Type 0 where
  pub rules : KeepsRules models
  pub design : IsWithin models lines
  pub one_control : AreOneControl (controls_of models lines)

-- the printed name of the signal with a number
abbrev pub name_in : List Model → List (Line Signal) → ℕ → List ℕ
name_in models lines s = slice_index_or (map (printed models) (signals_of lines)) s []

-- a word of the lines of the substituted design is at fault
abbrev pub IsWordFault : List Model → List (Line Signal) → ℕ → DesignKind → Type 0
IsWordFault models lines line (kind.Doubled name) =
    (k : ℕ) × IsFirstDoubled lines (Some k) × (line ≡ line_at (drives_in lines) k)
    × (name ≡ name_in models lines (signal_at (drives_in lines) k))
IsWordFault models lines line (kind.Undriven name) =
    IsFirstDoubled lines None × ((k : ℕ) × IsFirstUndriven lines (Some k) × (line ≡ line_at (reads_in lines) k)
    × (name ≡ name_in models lines (signal_at (reads_in lines) k)))
IsWordFault models lines line (kind.Cyclic name) =
    IsFirstDoubled lines None × IsFirstUndriven lines None
    × ((k : ℕ) × IsFirstCyclic lines (Some k) × (line ≡ cover_line (covers_in lines) k)
    × (name ≡ name_in models lines (cover_at (covers_in lines) k).out))
IsWordFault models lines line _ = ⊥

-- the rules are kept and a word of the substituted design is at fault
abbrev pub IsDesignFault : List Model → ℕ → DesignKind → Type 0
IsDesignFault models line kind = (lines : List (Line Signal)) × IsClean models lines × IsWordFault models lines line kind

-- the fault that comes first: of all kinds by the order of these lines, of one kind by line number, and for one number by the
-- order of the substituted design
abbrev pub IsModelsFault : List Model → ℕ → DesignKind → Type 0
IsModelsFault models line (kind.NoSuchModel name) =
    (k : ℕ) × IsFirstUse models (IsUnknown models) (Some k) × (line ≡ (use_at models k).number) × (name ≡ (use_at models k).model)
IsModelsFault models line (kind.Formal name) =
    IsFirstUse models (IsUnknown models) None × ((k : ℕ) × IsFirstUse models (IsWronglyGiven models) (Some k)
    × (line ≡ (use_at models k).number) × (wrong_formal models k ≡ Some name))
IsModelsFault models line (kind.Recursive name) =
    IsFirstUse models (IsUnknown models) None × IsFirstUse models (IsWronglyGiven models) None
    × ((k : ℕ) × IsFirstUse models (IsRecursive models) (Some k) × (line ≡ (use_at models k).number) × (name ≡ (use_at models k).model))
IsModelsFault models line kind.Limit = KeepsRules models × (line ≡ 0) × IsTooMuch models
IsModelsFault models line kind.Control =
    KeepsRules models × ((lines : List (Line Signal)) × IsWithin models lines
    × ((k : ℕ) × IsFirstOther (controls_of models lines) (Some k)
    × (line ≡ (slice_index_or (controls_of models lines) k no_control).number)))
IsModelsFault models line (kind.Doubled name) = IsDesignFault models line (kind.Doubled name)
IsModelsFault models line (kind.Undriven name) = IsDesignFault models line (kind.Undriven name)
IsModelsFault models line (kind.Cyclic name) = IsDesignFault models line (kind.Cyclic name)
IsModelsFault models line _ = ⊥

-- what a refusal says of the models. Lack of memory says nothing
abbrev pub IsRefusalOfModels : List Model → DesignFault → Type 0
IsRefusalOfModels models (fault.At line kind) = IsModelsFault models line kind
IsRefusalOfModels models fault.Memory = Unit {0}
