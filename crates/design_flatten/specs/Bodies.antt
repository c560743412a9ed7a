-- The lines of models, as they are kept for all uses.
use Rattle.std.specs.Prelude.{ℕ, ◌≡◌, true, false, List, [], ◌∷◌, ◌++◌, map, Option, Some, None}
use Rattle.std.specs.{HashMap.get_by, Str.bytes_eq}
use Rattle.design_flatten.specs.{declared.model.Model.Model, declared.bodies.Lean.Lean, declared.bodies.Body.Body, InOrder.in_order}
use Rattle.design_flatten.specs.{declared.bodies.Bodies.Bodies, Substitution.first_model, Substitution.model_named, UseLines.names_of}
use Rattle.design_flatten.specs.Lines.{no_model, Pair, Part, UsePart, Line, pair_of, piece_line, ordered_lines, number_of_line}
use Rattle.design_flatten.specs.{Ordered.part_in, Uses.is_among, Needs.lean_line}

-- a use gives these pairs
abbrev pub with_pairs : {S : Type 0} → List (Pair S) → Part S → Part S
with_pairs pairs (UsePart m old way) = UsePart m pairs way
with_pairs pairs p = p

abbrev pub lean_in : Lean → Line ℕ
lean_in l = record { number = l.line.number; part = with_pairs (map (λ p. pair_of p.now) l.pairs.items) (part_in l.line.said) }

abbrev pub body_at : Bodies → List ℕ → Option Body
body_at b w = get_by (λ k. bytes_eq w k.now) b.named

-- the pieces of a model in order, with no more given than the models need
pub record IsBodyOf (models : List Model) (m : Model) (b : Body) : Type 0 where
  pub names : b.names.now ≡ m.names
  pub lines : map lean_in b.lines.items ≡ map (lean_line models) (in_order number_of_line (map piece_line m.pieces))

-- what is kept at a name of these models: the first model of the name
abbrev pub IsBodyAt : List Model → List Model → List ℕ → Option Body → Type 0
IsBodyAt models these w None = is_among (names_of these) w ≡ false
IsBodyAt models these w (Some b) = (is_among (names_of these) w ≡ true) × IsBodyOf models (model_named these w) b

-- after one more model: the first of a name stays
abbrev pub IsBodyAdded : List Model → Bodies → Model → Bodies → Type 0
IsBodyAdded models old m new =
    (these : List Model) (w : List ℕ) → IsBodyAt models these w (body_at old w) → IsBodyAt models (these ++ m ∷ []) w (body_at new w)

pub record AreBodies (models : List Model) (b : Bodies) : Type 0 where
  pub names : b.first.names.now ≡ (first_model models).names
  pub lines : map lean_in b.first.lines.items ≡ map (lean_line models) (ordered_lines (first_model models))
  pub none : IsBodyOf models no_model b.none
  pub named : (w : List ℕ) → IsBodyAt models models w (body_at b w)
