-- The netlist that is read from the substituted design.
use Rattle.std.specs.Prelude.{ℕ, zero, suc, ◌≡◌, ◌<◌, ◌≤◌, false, List, [], ◌∷◌, ◌++◌, map, length, Option, Some, None, if◌then◌else◌}
use Rattle.std.specs.{Prelude.slice_index_or, List.flat_map, List.list_any, List.position_or_len, Str.bytes_eq, Fmt.decimal}
use Rattle.design_netlist.specs.declared.netlist_data.{NetlistData.NetlistData, Cover.Cover, LatchDef.LatchDef, PortDef.PortDef}
use Rattle.design_flatten.specs.declared.model.Model.{Model}
use Rattle.design_flatten.specs.{declared.model.Signal.Signal, Signals.signal_number, Signals.signals_of, Signals.is_over, Uses.KeepsRules}
use Rattle.design_flatten.specs.Lines.{Control, GivenControl, NamedControl, Part, InputPart, OutputPart, CoverPart, LatchPart, UsePart, Line}
use Rattle.design_flatten.specs.Substitution.{after, first_model, model_named, IsSubstituted}

-- ---- printed names

-- the model that replaced a line, and the way to it
pub record Origin : Type 0 where
  pub model : Model
  pub way : List ℕ

-- where the first line that uses a model leads
abbrev pub first_use : List Model → List (Line Signal) → Origin
first_use models [] = record { model = first_model models; way = [] }
first_use models (l ∷ lines) = by l.part (first_use models lines)
  where
    by : Part Signal → Origin → Origin
    by (UsePart m pairs way) later = record { model = model_named models m; way = way }
    by _ later = later

abbrev pub origin_of : List Model → ℕ → Origin
origin_of models zero = record { model = first_model models; way = [] }
origin_of models (suc k) = first_use models (after models k)

-- each place on the way, followed by a slash
abbrev pub printed_way : List ℕ → List ℕ
printed_way way = flat_map (λ k. decimal k ++ 47 ∷ []) way

abbrev pub printed : List Model → Signal → List ℕ
printed models s = let origin = origin_of models s.used in printed_way origin.way ++ slice_index_or origin.model.names s.own []

-- ---- controls

-- a name that stayed is one with the first model's signal of that name
abbrev pub control_is : List (List ℕ) → Control Signal → Control Signal
control_is names (GivenControl s) = GivenControl s
control_is names (NamedControl w) =
    if list_any (bytes_eq w) names then GivenControl (record { used = 0; own = position_or_len (bytes_eq w) names }) else NamedControl w

-- the control of a latch, with the number of its line
pub record Clocked : Type 0 where
  pub number : ℕ
  pub control : Control Signal

abbrev pub control_on : List (List ℕ) → Line Signal → List Clocked
control_on names l = by l.part
  where
    of : Option (Control Signal) → List Clocked
    of None = []
    of (Some c) = record { number = l.number; control = control_is names c } ∷ []

    by : Part Signal → List Clocked
    by (LatchPart from out init control) = of control
    by _ = []

-- the controls of the latches that have one
abbrev pub controls_of : List Model → List (Line Signal) → List Clocked
controls_of models lines = flat_map (control_on (first_model models).names) lines

abbrev pub no_control : Clocked
no_control = record { number = 0; control = NamedControl [] }

abbrev pub control_at : List Clocked → ℕ → Control Signal
control_at controls k = (slice_index_or controls k no_control).control

abbrev pub AreOneControl : List Clocked → Type 0
AreOneControl controls = (j k : ℕ) → j < length controls → k < length controls → control_at controls j ≡ control_at controls k

-- ---- the lists of the netlist

-- signals by their numbers
module _ (signals : List Signal) where
  abbrev pub input_on : Line Signal → List PortDef
  input_on l = by l.part
    where
      by : Part Signal → List PortDef
      by (InputPart s) = record { signal = signal_number signals s; line = l.number } ∷ []
      by _ = []

  abbrev pub output_on : Line Signal → List PortDef
  output_on l = by l.part
    where
      by : Part Signal → List PortDef
      by (OutputPart s) = record { signal = signal_number signals s; line = l.number } ∷ []
      by _ = []

  abbrev pub cover_on : Line Signal → List Cover
  cover_on l = by l.part
    where
      by : Part Signal → List Cover
      by (CoverPart out ins rows off) =
          record { out = signal_number signals out; ins = map (signal_number signals) ins; rows = rows; off = off; line = l.number } ∷ []
      by _ = []

  abbrev pub latch_on : Line Signal → List LatchDef
  latch_on l = by l.part
    where
      by : Part Signal → List LatchDef
      by (LatchPart from out init control) =
          record { from = signal_number signals from; out = signal_number signals out; init = init; line = l.number } ∷ []
      by _ = []

-- the draft is the netlist that these lines spell
pub record IsReadFrom (models : List Model) (lines : List (Line Signal)) (draft : NetlistData) : Type 0 where
  pub names : draft.names ≡ map (printed models) (signals_of lines)
  pub inputs : draft.inputs ≡ flat_map (input_on (signals_of lines)) lines
  pub outputs : draft.outputs ≡ flat_map (output_on (signals_of lines)) lines
  pub covers : draft.covers ≡ flat_map (cover_on (signals_of lines)) lines
  pub latches : draft.latches ≡ flat_map (latch_on (signals_of lines)) lines

-- these lines are the substituted design of the models, and it is within the limits
pub record IsWithin (models : List Model) (lines : List (Line Signal)) : Type 0 where
  pub replaced : ℕ
  pub most : replaced ≤ 65535
  pub substituted : IsSubstituted models replaced lines
  pub within : is_over lines ≡ false

-- the rules are kept, the lines are the substituted design, there is one control, and the draft is what they spell
pub record IsRead (models : List Model) (lines : List (Line Signal)) (draft : NetlistData) : Type 0 where
  pub rules : KeepsRules models
  pub design : IsWithin models lines
  pub one_control : AreOneControl (controls_of models lines)
  pub netlist : IsReadFrom models lines draft

-- the draft is the netlist that is read from the substituted design of the models
pub record IsNetlistOf (models : List Model) (draft : NetlistData) : Type 0 where
  pub lines : List (Line Signal)
  pub read : IsRead models lines draft
