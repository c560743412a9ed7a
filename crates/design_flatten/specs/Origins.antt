-- What is kept of the replaced lines.
use Rattle.std.specs.Prelude.{ℕ, zero, suc, ◌≡◌, ◌<◌, ◌≤◌, ◌+◌, ◌-◌, List, [], ◌∷◌, ◌++◌, Some, length, slice_index_or}
use Rattle.std.specs.Fmt.{decimal}
use Rattle.design_netlist.specs.declared.shared.Shared.{Shared}
use Rattle.design_flatten.specs.{declared.model.Model.Model, Lines.Line, declared.work.Origin.Origin, Frames.way_to, Sinks.IsSink}
use Rattle.design_flatten.specs.declared.{model.Signal.Signal, refusal.Refusal.TheVariants.Memory, refusal.Refusal.TheVariants.Limit}
use Rattle.design_flatten.specs.{declared.refusal.Refusal.Refusal, Substitution.first_model, Substitution.after, Substitution.IsSubstituted}
use Rattle.design_flatten.specs.{declared.work.Substituted.Substituted, Netlists.origin_of, Netlists.printed_way, Faults.IsTooMuch}

-- the names of the model that replaced line k; its way is that of the replaced line in whose model line k stood, and its place there
abbrev pub IsOrigin : List Model → ℕ → Origin → Type 0
IsOrigin models zero o = o.names.now ≡ (origin_of models 0).model.names
IsOrigin models (suc k) o =
    (o.names.now ≡ (origin_of models (suc k)).model.names) × (o.within ≤ k)
    × (way_to models (suc k) ≡ way_to models o.within ++ o.place ∷ [])

abbrev pub AreOrigins : List Model → List Origin → Type 0
AreOrigins models origins = (k : ℕ) (o : Origin) → k < length origins → IsOrigin models k (slice_index_or origins k o)

-- and none comes later
abbrev pub AreAllOrigins : List Model → List Origin → Type 0
AreAllOrigins models origins =
    AreOrigins models origins × ((k : ℕ) → length origins ≤ k → origin_of models k ≡ record { model = first_model models; way = [] })

-- the last step on the way to what replaced a line, as it is printed
abbrev pub step_to : ℕ → ℕ → List ℕ
step_to zero place = []
step_to (suc k) place = decimal place ++ 47 ∷ []

-- the printed ways to what replaced the first n lines
abbrev pub AreWays : List Model → ℕ → List (List ℕ) → Type 0
AreWays models n texts = (k : ℕ) → k < n → slice_index_or texts k [] ≡ printed_way (way_to models k)

-- the printed name of a signal, as its way and its own name
abbrev pub shared_as : List Model → Signal → Shared
shared_as models s = record { beginning = Some s.used; end = slice_index_or (origin_of models s.used).model.names s.own [] }

-- how many lines were replaced, and the lines that stand then
abbrev pub replaced_in : Substituted → ℕ
replaced_in s = length s.origins.items - 1

abbrev pub lines_of : List Model → Substituted → List (Line Signal)
lines_of models s = after models (replaced_in s)

pub record IsSubstitution (models : List Model) (s : Substituted) : Type 0 where
  pub sink : IsSink (first_model models).names (lines_of models s) s.sink
  pub most : replaced_in s ≤ 65535
  pub substituted : IsSubstituted models (replaced_in s) (lines_of models s)
  pub count : length s.origins.items ≡ replaced_in s + 1
  pub origins : AreOrigins models s.origins.items

-- no substituted design is within the limits. Lack of memory says nothing
abbrev pub IsRefused : List Model → Refusal → Type 0
IsRefused models Memory = Unit {0}
IsRefused models Limit = IsTooMuch models
