-- What the proofs here cite of the layers below, and of the specs.
pub use Rattle.std.proofs.Common.{Bool, IsSome, None, Option, Some, ap, arith, false, inl, inr, refl, subst, suc, sym, true, unwrap_or}
pub use Rattle.std.proofs.Common.{zero, ℕ, ◌<◌, ◌∙◌, ◌≡◌, ◌≢◌, ◌⊎◌}
pub use Rattle.std.proofs.lemmas.Bool.{false≢true}
pub use Rattle.machine_shape.specs.declared.Shape.{Shape}
pub use Rattle.machine_meaning.specs.Vocabulary.{Faults, IsClear, IsSoundWire, Shorted, pair_cmp, stuck_wire}
