-- Lines of the substituted design, as they are kept.
use Rattle.std.specs.Prelude.{ℕ, ◌≡◌, true, List, [], Option, Some, None, option_map}
use Rattle.design_flatten.specs.declared.{model.Signal.Signal, given.Given.Given, placed.Placed.Placed}
use Rattle.design_flatten.specs.declared.placed.Control.{Control as KeptControl}
use Rattle.design_flatten.specs.declared.placed.Control.TheVariants as control
use Rattle.design_flatten.specs.{declared.placed.PlacedPart.PlacedPart, Given.place_of, Substitution.becomes, Substitution.part_through}
use Rattle.design_flatten.specs.declared.placed.PlacedPart.TheVariants as placed
use Rattle.design_flatten.specs.Lines.{Control, GivenControl, NamedControl, Part, InputPart, OutputPart, CoverPart, LatchPart, Line, is_use}

abbrev pub control_of : KeptControl → Control Signal
control_of (control.Given s) = GivenControl s
control_of (control.Named w) = NamedControl w.now

abbrev pub part_of : PlacedPart → Part Signal
part_of (placed.Input s) = InputPart s
part_of (placed.Output s) = OutputPart s
part_of (placed.Cover out ins cover) = CoverPart out ins cover.now.rows cover.now.off
part_of (placed.Latch from out init control) = LatchPart from out init (option_map control_of control)

abbrev pub placed_line : Placed → Line Signal
placed_line p = record { number = p.number; part = part_of p.part }

-- what stands for a part of a model; nothing where it uses a model
abbrev pub IsPlacedPart : Given → List (List ℕ) → Part ℕ → Option PlacedPart → Type 0
IsPlacedPart given names part None = is_use part ≡ true
IsPlacedPart given names part (Some p) = part_of p ≡ part_through (place_of given []) (becomes (place_of given []) names) part
