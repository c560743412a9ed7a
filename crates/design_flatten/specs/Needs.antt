-- Of what lines give that use models, what stands on the lines of these models.
use Rattle.std.specs.Prelude.{ℕ, Bool, List, [], ◌∷◌, map, slice_index_or}
use Rattle.std.specs.{List.filter, List.flat_map, Option.option_to_list}
use Rattle.design_flatten.specs.{declared.model.PairDef.PairDef, declared.model.Model.Model, Lines.Part, Lines.UsePart, Lines.Line}
use Rattle.design_flatten.specs.{declared.model.Piece.Piece, Substitution.model_named, Uses.is_among}
use Rattle.design_flatten.specs.declared.model.Piece.TheVariants as piece

-- the names on a piece: those of its signals and of a latch's control
abbrev pub names_on : List (List ℕ) → Piece → List (List ℕ)
names_on names (piece.Names c) = slice_index_or names c.out [] ∷ map (λ s. slice_index_or names s []) c.ins
names_on names (piece.Latch l control) = slice_index_or names l.from [] ∷ slice_index_or names l.out [] ∷ option_to_list control
names_on names (piece.Inst m pairs line) = map (λ p. slice_index_or names p.actual []) pairs

abbrev pub names_within : Model → List (List ℕ)
names_within m = flat_map (names_on m.names) m.pieces

-- the name stands on a line of the model that is named m
abbrev pub is_needed : List Model → List ℕ → List ℕ → Bool
is_needed models m w = is_among (names_within (model_named models m)) w

-- ---- with no more given than is needed

abbrev pub needed_defs : List Model → List ℕ → List PairDef → List PairDef
needed_defs models m pairs = filter (λ p. is_needed models m p.formal) pairs

abbrev pub lean_part : {S : Type 0} → List Model → Part S → Part S
lean_part models (UsePart m pairs way) = UsePart m (filter (λ p. is_needed models m p.formal) pairs) way
lean_part models p = p

abbrev pub lean_line : {S : Type 0} → List Model → Line S → Line S
lean_line models l = record { number = l.number; part = lean_part models l.part }

abbrev pub lean_piece : List Model → Piece → Piece
lean_piece models (piece.Inst m pairs line) = piece.Inst m (needed_defs models m pairs) line
lean_piece models p = p

abbrev pub lean_model : List Model → Model → Model
lean_model models m = record m { pieces = map (lean_piece models) m.pieces }

abbrev pub lean_models : List Model → List Model
lean_models models = map (lean_model models) models
