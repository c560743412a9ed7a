-- What can be wrong with lines that use models.
use Rattle.std.specs.Prelude.{ℕ, ◌≡◌, false, not, ◌||◌, List, [], ◌∷◌, map, length, Option, Some, None, IsSome, if◌then◌else◌}
use Rattle.std.specs.Option.{option_or}
use Rattle.design_netlist.specs.Orders.{IsFirst}
use Rattle.design_flatten.specs.{declared.model.Model.Model, Uses.uses_of, Uses.use_at, Uses.is_among, Uses.input_names, Uses.port_names}
use Rattle.design_flatten.specs.{Lines.Pair, Substitution.model_named}

-- no model has the name
abbrev pub IsUnknown : List Model → ℕ → Type 0
IsUnknown models k = is_among (map (λ m. m.name) models) (use_at models k).model ≡ false

-- the first formal that is no name of the ports or stands earlier
abbrev pub first_wrong : List (List ℕ) → List (List ℕ) → List (List ℕ) → Option (List ℕ)
first_wrong ports earlier [] = None
first_wrong ports earlier (f ∷ formals) =
    if not (is_among ports f) || is_among earlier f then Some f else first_wrong ports (f ∷ earlier) formals

-- the first input that isn't given
abbrev pub first_missing : List (List ℕ) → List (List ℕ) → Option (List ℕ)
first_missing formals [] = None
first_missing formals (i ∷ inputs) = if is_among formals i then first_missing formals inputs else Some i

-- the formal that is wrong, or else the input that isn't given
abbrev pub formal_fault : Model → List (Pair ℕ) → Option (List ℕ)
formal_fault m pairs =
    let formals = map (λ q. q.formal) pairs in
    option_or (first_wrong (port_names m) [] formals) (first_missing formals (input_names m))

abbrev pub wrong_formal : List Model → ℕ → Option (List ℕ)
wrong_formal models k = formal_fault (model_named models (use_at models k).model) (use_at models k).pairs

abbrev pub IsWronglyGiven : List Model → ℕ → Type 0
IsWronglyGiven models k = IsSome (wrong_formal models k)

-- the first line of which something holds
abbrev pub IsFirstUse : List Model → (ℕ → Type 0) → Option ℕ → Type 0
IsFirstUse models P found = IsFirst (λ k. (use_at models k).number) (length (uses_of models)) P found
