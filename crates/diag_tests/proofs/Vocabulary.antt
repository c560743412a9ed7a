-- What the proofs here cite of the layers below, and of the specs.
pub use Rattle.std.proofs.Common.{ap, arith, false, get_or, length, take, true, ℕ, ◌<◌, ◌∙◌, ◌≡◌}
pub use Rattle.std.proofs.lemmas.Bool.Decides.{nat_tests}
pub use Rattle.std.proofs.lemmas.List.{get_or-map, get_or-replicate, get_or_past, length-map, length-replicate, take_all}
pub use Rattle.std.proofs.lemmas.Option.{gets}
pub use Rattle.machine_shape.specs.declared.Shape.{Shape}
pub use Rattle.machine_config.specs.Vocabulary.{Configuration, among, cleared, ends, is_closed, with_closed}
pub use Rattle.diag_tests.specs.Vocabulary.{Closes, Extends, HasEnd, IsLoopConfig, IsRoute, Walk, at_pin, cross_numbers, other_end}
