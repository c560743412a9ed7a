-- What the proofs here cite of the layers below, and of the specs.
pub use Rattle.std.proofs.Common.{Bool, List, Result, [], ap, arith, false, length, refl, subst, sym, true, ℕ, ◌+◌, ◌-◌, ◌<◌, ◌∙◌, ◌≡◌}
pub use Rattle.std.proofs.lemmas.Bool.{and_from, and_parts, eqb-true, le-leb, le-ltb, lt-leb, lt-ltb, ne_eqb}
pub use Rattle.std.proofs.lemmas.List.{append-nil, drop-append-le, drop-drop, drop_all, drop_more, length-append, length-drop}
pub use Rattle.std.proofs.lemmas.List.{length-take-le, take-append-drop, take-append-le, take-take, take_more_set}
pub use Rattle.std.proofs.lemmas.Result.{err_from_is_err_and}
pub use Rattle.design_vectors.specs.declared.line.Step.{Step}
pub use Rattle.design_vectors.specs.declared.line.Step.TheVariants.{Fault, Onward, Vector}
pub use Rattle.design_vectors.specs.declared.vectors.VectorKind.{VectorKind}
pub use Rattle.design_vectors.specs.declared.vectors.VectorKind.TheVariants.{Char, Limit, Width}
pub use Rattle.design_vectors.specs.Inside.{IsPartLine, part_line}
pub use Rattle.design_vectors.specs.Lines.{EndSays, EndsAs, HasRead, IsSound, PartLine, begun, front_of, says_on}
pub use Rattle.design_vectors.specs.Readings.{AreOpen, GivesUnread, NextFails, NextGives, VectorReading, bytes_ahead, says_next}
pub use Rattle.design_vectors.specs.Steps.{GoesOn, HasAnswered, HasReadOn, IsRefilled, LineFails, LineGives, answer_of, reading_of}
pub use Rattle.design_vectors.specs.Vectors.{bits_of, is_vector_byte, vector_size}
