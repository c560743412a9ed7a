-- The lines that use models as they are listed, and what is kept of the models.
use Rattle.std.specs.Prelude.{ℕ, ◌≡◌, true, false, List, [], map, length, Option, Some, None, option_map, slice_index_or, if◌then◌else◌}
use Rattle.std.specs.{Borrow.Bor, Option.option_or, HashMap.get_by, Str.bytes_eq}
use Rattle.design_netlist.specs.Orders.{IsFirst}
use Rattle.design_flatten.specs.declared.{model.Model.Model, model.PairDef.PairDef, uses.UseLine.UseLine, catalog.Known.Known}
use Rattle.design_flatten.specs.{declared.catalog.Catalog.Catalog, Lines.pair_of, Uses.Use, Uses.no_use, Uses.is_among, Uses.port_names}
use Rattle.design_flatten.specs.{Substitution.model_named, NameSets.with_names, Needs.names_within}

abbrev pub use_in : UseLine → Use
use_in u = record { number = u.number; own = u.own.now; model = u.model.now; pairs = map pair_of u.pairs.now }

abbrev pub listed : List Use → ℕ → Use
listed uses k = slice_index_or uses k no_use

abbrev pub number_at : List Use → ℕ → ℕ
number_at uses k = (listed uses k).number

-- the first of a list of such lines, by number and then as they stand
abbrev pub IsFirstListed : List Use → (ℕ → Type 0) → Option ℕ → Type 0
IsFirstListed uses P found = IsFirst (number_at uses) (length uses) P found

abbrev pub shown : Option (Bor (List ℕ)) → Option (List ℕ)
shown o = option_map (λ w. w.now) o

abbrev pub formals_in : List PairDef → List (List ℕ)
formals_in pairs = map (λ q. q.formal) (map pair_of pairs)

-- ---- what is kept of the models

abbrev pub names_of : List Model → List (List ℕ)
names_of models = map (λ m. m.name) models

abbrev pub known_of : Bor Model → Known
known_of m = record { model = m; ports = with_names [] (port_names m.now); needs = with_names [] (names_within m.now) }

abbrev pub looked_up : Catalog → List ℕ → Option Known
looked_up c w = get_by (λ k. bytes_eq w k.now) c.known

-- what is kept at a name: the first model of the name, with its ports and the names on its lines
abbrev pub IsKnown : List Model → List ℕ → Option Known → Type 0
IsKnown models w None = is_among (names_of models) w ≡ false
IsKnown models w (Some k) =
    (is_among (names_of models) w ≡ true) × (k.model.now ≡ model_named models w) × (k.ports ≡ with_names [] (port_names k.model.now))
    × (k.needs ≡ with_names [] (names_within k.model.now))

abbrev pub IsCatalog : List Model → Catalog → Type 0
IsCatalog models c = (w : List ℕ) → IsKnown models w (looked_up c w)

-- after one more model: the first of a name stays
abbrev pub IsAdded : Catalog → Bor Model → Catalog → Type 0
IsAdded old m new = (w : List ℕ) → looked_up new w ≡ option_or (looked_up old w) (if bytes_eq w m.now.name then Some (known_of m) else None)
