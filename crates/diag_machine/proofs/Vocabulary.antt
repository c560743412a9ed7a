-- What the proofs here cite of the layers below, and of the specs.
pub use Rattle.std.proofs.Common.{All, IfSome, List, Option, ap, arith, false, length, refl, subst, sym, true, ℕ, ◌<◌, ◌∙◌, ◌≡◌, ◌≤◌, ◌⊎◌}
pub use Rattle.std.proofs.lemmas.Bool.{false≢true}
pub use Rattle.std.proofs.lemmas.Bool.Decides.{nat_tests}
pub use Rattle.std.proofs.lemmas.List.Sums.{count_by-le-length}
pub use Rattle.std.proofs.lemmas.Result.{on_ok_weaker}
pub use Rattle.base_bits.specs.Numbers.{has_number, size_of}
pub use Rattle.machine_shape.specs.declared.Shape.{Shape}
pub use Rattle.machine_shape.specs.declared.Table.{Table}
pub use Rattle.machine_shape.specs.declared.Wire.{Wire}
pub use Rattle.machine_shape.specs.Vocabulary.{IsNumbered, turned}
unfoldable pub use Rattle.machine_shape.specs.Vocabulary.{crosses_of, ends_of, pin_wire, table_wire, tables_of, wires_of}
pub use Rattle.machine_meaning.specs.Vocabulary.{Covers, Defects, Faults, HasFeet, IsFair, IsFaultless, IsTight, two}
pub use Rattle.machine_meaning.proofs.Faultless.{all_sound}
pub use Rattle.rig.specs.Rig.{Explains, ForEach, Narrows, RigState}
pub use Rattle.diag_evidence.specs.Vocabulary.{AdvancesButPairs, HoldsFor, IsMore, IsMoreButPairs, Kept}
unfoldable pub use Rattle.diag_evidence.specs.Vocabulary.{keeps_cell, keeps_cross, keeps_register, keeps_wire}
pub use Rattle.diag_evidence.proofs.Keeping.{advances_rest, holds_untried, more_rest, of_told, rest_itself, rest_then}
pub use Rattle.diag_known.specs.declared.field.Field.{Field}
pub use Rattle.diag_known.specs.declared.verified_wire.VerifiedWire.{VerifiedWire}
pub use Rattle.diag_known.specs.Vocabulary.{ClosedIf, GrowsIn, HasWire, IsFieldOf, IsKeptCrossOf, IsKnown, KnownWires, pins_in}
pub use Rattle.diag_growth.specs.Seats.{AddsOnlyTableFacts, KeepsTable}
pub use Rattle.diag_sweep.specs.declared.defect_marks.DefectMarks.{DefectMarks}
pub use Rattle.diag_sweep.specs.declared.knowledge.Knowledge.{Knowledge}
pub use Rattle.diag_sweep.specs.Shown.{IsCoherent, ProgressButPairs, TrueOf}
pub use Rattle.diag_sweep.specs.Marks.{AreMarksFor, HasTable, MarksIn, TrueIf, worth}
pub use Rattle.diag_machine.specs.Choice.{AreLeftOut, IsKnownFoot, IsLeftOut}
pub use Rattle.diag_machine.specs.Listing.{IsListOf, IsListing}
pub use Rattle.diag_machine.specs.Stages.{IfFaultless, IsReached, IsWhole, ReachedIf, TablesIf}
