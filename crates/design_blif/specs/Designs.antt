-- What the text of a design is; and beside it, which fault of a text that is none comes first.
use Rattle.std.specs.Prelude.{ℕ, ◌≡◌, ◌<◌, ◌≤◌, true, List, Err, length}
use Rattle.base_text.specs.Lines.{logical_lines}
use Rattle.design_netlist.specs.declared.{netlist_data.NetlistData.NetlistData, fault.DesignKind.DesignKind, fault.DesignFault.DesignFault}
use Rattle.design_netlist.specs.declared.fault.{DesignKind.TheVariants.Limit, DesignFault.TheVariants.At, DesignFault.TheVariants.Memory}
use Rattle.design_netlist.specs.Checks.{IsChecked}
use Rattle.design_flatten.specs.{declared.model.Model.Model, Vocabulary.IsNetlistOf, Vocabulary.IsModelsFault}
use Rattle.design_blif.specs.{Grammar.AreModels, Faults.reading}

-- the bytes are the text of models, and the draft is the netlist of their substituted design, which is sound
pub record IsDesign (bytes : List ℕ) (draft : NetlistData) : Type 0 where
  pub models : List Model
  pub text : AreModels bytes models
  pub netlist : IsNetlistOf models draft
  pub checked : IsChecked draft

-- the fault that comes first: there are too many bytes; or a line is faulty, or none begins a model; or the models don't make a
-- sound netlist
pub data IsDesignFault (bytes : List ℕ) (line : ℕ) (kind : DesignKind) : Type 0 where
  TooLong : 16777216 < length bytes → line ≡ 0 → kind ≡ Limit → IsDesignFault bytes line kind
  OnLine : length bytes ≤ 16777216 → reading (logical_lines true bytes) ≡ Err (line, kind) → IsDesignFault bytes line kind
  InModels : length bytes ≤ 16777216 → (models : List Model) → AreModels bytes models → IsModelsFault models line kind →
      IsDesignFault bytes line kind

-- what a refusal says of the bytes. Lack of memory says nothing
abbrev pub IsRefusalOfBytes : List ℕ → DesignFault → Type 0
IsRefusalOfBytes bytes (At line kind) = IsDesignFault bytes line kind
IsRefusalOfBytes bytes Memory = Unit {0}
