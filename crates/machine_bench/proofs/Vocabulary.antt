-- What the proofs here cite of the layers below, and of the specs.
pub use Rattle.std.proofs.Common.{[], ap, arith, length, refl, subst, suc, sym, ℕ, ◌*◌, ◌+◌, ◌<◌, ◌∙◌, ◌∷◌, ◌≡◌}
pub use Rattle.std.proofs.lemmas.Bool.{false≢true, le-leb, leb-true}
pub use Rattle.std.proofs.lemmas.Option.{none-some}
pub use Rattle.machine_shape.specs.declared.Shape.{Shape}
pub use Rattle.machine_shape.proofs.Totals.{crosses_are, four_levels, pins_are, ports_within, tables_are}
pub use Rattle.machine_faults.specs.declared.fault.Fault.{Fault}
pub use Rattle.machine_bench.specs.Faults.{AfterTurns, IsAllowed, IsHittable, MayBeHit, none, not_allowed, turn_state}
