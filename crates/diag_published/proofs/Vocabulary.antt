-- What the proofs here cite of the layers below, and of the specs.
pub use Rattle.std.proofs.Common.{All, Some, ap, arith, length, refl, subst, sym, take, true, ℕ, ◌-◌, ◌<◌, ◌∙◌, ◌≡◌, ◌≤◌}
pub use Rattle.std.proofs.lemmas.Bool.{cases_eq, false≢true, or_cases, or_left, or_right}
pub use Rattle.base_bits.specs.Numbers.{has_number, size_of}
pub use Rattle.machine_shape.specs.declared.Shape.{Shape}
pub use Rattle.machine_shape.specs.declared.Wire.{Wire}
pub use Rattle.machine_shape.specs.Vocabulary.{IsTap}
unfoldable pub use Rattle.machine_shape.specs.Vocabulary.{IsLine, crosses_of, ends_of, node_of_cross, nodes_of, pin_wire, pins_of, wires_of}
pub use Rattle.machine_meaning.specs.Vocabulary.{Faults, HasTwo, IsOfUse, IsServed, IsSoundCross, IsSoundWire}
pub use Rattle.machine_meaning.proofs.Clear.{clear_of_sound}
pub use Rattle.machine_config.specs.Vocabulary.{among}
pub use Rattle.machine_config.proofs.Grouped.{LeadsTo-end, LeadsTo-start}
pub use Rattle.diag_tests.specs.declared.trunk.Trunk.{Trunk}
pub use Rattle.diag_tests.specs.Vocabulary.{Walk}
pub use Rattle.diag_evidence.specs.Vocabulary.{HoldsFor, IsMore, Kept}
unfoldable pub use Rattle.diag_evidence.specs.Vocabulary.{keeps_cross, keeps_pair}
pub use Rattle.diag_evidence.proofs.Keeping.{holds_untried, pair_turned}
pub use Rattle.diag_known.specs.declared.field.Field.{Field}
pub use Rattle.diag_known.specs.Vocabulary.{Gets, HasWire, IsWireBefore, KnownWires}
pub use Rattle.diag_known.proofs.Taking.{few_wide, takes_wide}
pub use Rattle.diag_growth.proofs.Decided.{known_or}
pub use Rattle.diag_growth.proofs.Explained.{held}
pub use Rattle.diag_published.specs.Bars.{AreBarOf, AreTwoOf, HasKnown, IsAtOneOf, IsBarField, IsCrossOfNode, IsFrom, IsKnownOf, IsListOf}
pub use Rattle.diag_published.specs.Bars.{IsOpenOf, IsTrunkOf, KeepsAll}
pub use Rattle.diag_published.specs.Held.{FullIf, IsHeld, UnservedIf, wire_numbers}
pub use Rattle.diag_published.specs.Laws.{AreLaws}
