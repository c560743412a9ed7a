-- The lines that use models, and the rules that they keep.
use Rattle.std.specs.Prelude.{ℕ, ◌≡◌, ◌<◌, Bool, true, List, [], ◌∷◌, ◌++◌, map, length, slice_index_or}
use Rattle.std.specs.{List.All, List.AllPairs, List.flat_map, List.list_any, Str.bytes_eq}
use Rattle.design_flatten.specs.{declared.model.Model.Model, declared.model.Piece.Piece, Lines.Pair, Lines.pair_of}
use Rattle.design_flatten.specs.declared.model.Piece.TheVariants as piece
use Rattle.design_flatten.specs.Substitution.{model_named}

-- a line that uses a model: its number, the name of the model in which it stands, that of the model it uses, and what it gives
pub record Use : Type 0 where
  pub number : ℕ
  pub own : List ℕ
  pub model : List ℕ
  pub pairs : List (Pair ℕ)

abbrev pub use_on : List ℕ → Piece → List Use
use_on own (piece.Inst m pairs line) = record { number = line; own = own; model = m; pairs = map pair_of pairs } ∷ []
use_on own _ = []

abbrev pub uses_in : Model → List Use
uses_in m = flat_map (use_on m.name) m.pieces

-- all of them, by the order of models and pieces
abbrev pub uses_of : List Model → List Use
uses_of models = flat_map uses_in models

abbrev pub no_use : Use
no_use = record { number = 0; own = []; model = []; pairs = [] }

abbrev pub use_at : List Model → ℕ → Use
use_at models k = slice_index_or (uses_of models) k no_use

-- ---- what it names

abbrev pub is_among : List (List ℕ) → List ℕ → Bool
is_among names w = list_any (bytes_eq w) names

-- ---- what it gives

abbrev pub name_in : Model → ℕ → List ℕ
name_in m s = slice_index_or m.names s []

abbrev pub input_names : Model → List (List ℕ)
input_names m = map (λ p. name_in m p.signal) m.inputs

abbrev pub port_names : Model → List (List ℕ)
port_names m = input_names m ++ map (λ p. name_in m p.signal) m.outputs ++ m.clocks

abbrev pub formals_of : List (Pair ℕ) → List (List ℕ)
formals_of pairs = map (λ q. q.formal) pairs

-- formals are names of the model's ports or clocks, none stands twice, and each input is given
pub record IsRightlyGiven (m : Model) (pairs : List (Pair ℕ)) : Type 0 where
  pub ports : All (λ f. is_among (port_names m) f ≡ true) (formals_of pairs)
  pub once : AllPairs (λ f g. f ≡ g → ⊥) (formals_of pairs)
  pub inputs : All (λ i. is_among (formals_of pairs) i ≡ true) (input_names m)

-- ---- models that use themselves

-- a model is used by another, directly or through others, or is it
pub data LeadsToModel (models : List Model) : List ℕ → List ℕ → Type 0 where
  here : {a : List ℕ} → LeadsToModel models a a
  onward : (k : ℕ) → {b : List ℕ} → k < length (uses_of models) → LeadsToModel models (use_at models k).model b →
      LeadsToModel models (use_at models k).own b

-- through the line its own model is used again
abbrev pub IsRecursive : List Model → ℕ → Type 0
IsRecursive models k = LeadsToModel models (use_at models k).model (use_at models k).own

-- ---- the rules

-- each line names a model, what it gives is right, and no model uses itself
pub record KeepsRules (models : List Model) : Type 0 where
  pub known : (k : ℕ) → k < length (uses_of models) → is_among (map (λ m. m.name) models) (use_at models k).model ≡ true
  pub given : (k : ℕ) → k < length (uses_of models) → IsRightlyGiven (model_named models (use_at models k).model) (use_at models k).pairs
  pub ends : (k : ℕ) → k < length (uses_of models) → IsRecursive models k → ⊥
