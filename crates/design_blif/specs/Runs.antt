-- The lines read one after another.
use Rattle.std.specs.Prelude.{ℕ, ◌≡◌, false, if◌then◌else◌, List, [], ◌∷◌, ◌++◌, Option, Some, None, Result, Ok, Err}
use Rattle.base_text.specs.Lines.{LogicalLine}
use Rattle.design_netlist.specs.declared.fault.{DesignKind.DesignKind, DesignFault.DesignFault}
use Rattle.design_netlist.specs.declared.fault.{DesignKind.TheVariants.NoModel, DesignFault.TheVariants.Memory, DesignFault.TheVariants.At}
use Rattle.design_flatten.specs.declared.model.Model.{Model}
use Rattle.design_blif.specs.{declared.head.Head.Head, Parts.nth_word, Faults.fault_of, Steps.State, Steps.after_head, Steps.closed_pieces}
use Rattle.design_blif.specs.declared.head.Head.TheVariants as head
use Rattle.design_blif.specs.{Heads.head_of, Seen.Above}

-- what a call answered is what reading gives, unless memory ran out
abbrev pub IsFaultAs : {Y : Type 0} → DesignFault → Result Y (ℕ × DesignKind) → Type 0
IsFaultAs Memory read = Unit {0}
IsFaultAs (At n k) read = read ≡ Err (n, k)

abbrev pub Gives : {X Y : Type 0} → (X → Y) → Result X DesignFault → Result Y (ℕ × DesignKind) → Type 0
Gives view (Ok x) read = read ≡ Ok (view x)
Gives view (Err e) read = IsFaultAs e read

abbrev pub start : State
start = record {
  seen = record { begun = false; ended = false; names = []; current = None; control = None };
  inputs = [];
  outputs = [];
  clocks = [];
  pieces = [];
}

-- the model that the state holds, under this name
abbrev pub model_from : List ℕ → State → Model
model_from name s =
    record { name = name; names = s.seen.names; inputs = s.inputs; outputs = s.outputs; clocks = s.clocks; pieces = closed_pieces s }

-- ---- the text

-- the models before the last, the names of all, and the last
pub record TextState : Type 0 where
  pub done : List Model
  pub models : List (List ℕ)
  pub name : List ℕ
  pub this : State

abbrev pub above_of : TextState → Above
above_of t = record { models = t.models; this = t.this.seen }

abbrev pub text_start : TextState
text_start = record { done = []; models = []; name = []; this = start }

-- the last model, if there is one
abbrev pub last_model : TextState → List Model
last_model t = if t.this.seen.begun then model_from t.name t.this ∷ [] else []

abbrev pub text_after_head : TextState → Head → ℕ → List (List ℕ) → TextState
text_after_head t head.Model line words =
    record {
      done = t.done ++ last_model t;
      models = t.models ++ nth_word 1 words ∷ [];
      name = nth_word 1 words;
      this = after_head start head.Model line words;
    }
text_after_head t h line words = record t { this = after_head t.this h line words }

abbrev pub text_after : TextState → LogicalLine → TextState
text_after t l = text_after_head t (head_of (nth_word 0 l.words)) l.number l.words

-- the state after the lines, or the first fault and its line
unfoldable pub run : TextState → List LogicalLine → Result TextState (ℕ × DesignKind)
run t [] = Ok t
run t (l ∷ lines) = go (fault_of (above_of t) l) (run (text_after t l) lines)
  where
    go : Option DesignKind → Result TextState (ℕ × DesignKind) → Result TextState (ℕ × DesignKind)
    go None rest = rest
    go (Some k) rest = Err (l.number, k)

-- the models, where there is one
abbrev pub ended : Result TextState (ℕ × DesignKind) → Result (List Model) (ℕ × DesignKind)
ended (Ok t) = if t.this.seen.begun then Ok (t.done ++ last_model t) else Err (0, NoModel)
ended (Err e) = Err e

abbrev pub whole : List LogicalLine → Result (List Model) (ℕ × DesignKind)
whole lines = ended (run text_start lines)
