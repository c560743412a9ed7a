-- The lines that a list of borrowed lines holds.
use Rattle.std.specs.Prelude.{ℕ}
use Rattle.design_flatten.specs.declared.ordered.Ordered.{Ordered}
use Rattle.design_flatten.specs.{declared.ordered.Said.Said, Lines.Part, Lines.InputPart, Lines.OutputPart, Lines.Line, Lines.piece_line}
use Rattle.design_flatten.specs.declared.ordered.Said.TheVariants as said

abbrev pub part_in : Said → Part ℕ
part_in (said.Input s) = InputPart s
part_in (said.Output s) = OutputPart s
part_in (said.Piece p) = (piece_line p.now).part

abbrev pub line_in : Ordered → Line ℕ
line_in o = record { number = o.number; part = part_in o.said }
