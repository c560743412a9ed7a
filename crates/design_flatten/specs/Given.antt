-- What is given, as a function of the name.
use Rattle.std.specs.{Prelude.List, Prelude.ℕ, Prelude.Option, Str.bytes_eq, HashMap.get_by}
use Rattle.design_flatten.specs.{declared.model.Signal.Signal, declared.given.Given.Given, Substitution.ModelPlace}

abbrev pub looked_up : Given → List ℕ → Option Signal
looked_up g w = get_by (λ k. bytes_eq w k.now) g.map

abbrev pub place_of : Given → List ℕ → ModelPlace
place_of g way = record { used = g.used; way = way; actuals = looked_up g }
