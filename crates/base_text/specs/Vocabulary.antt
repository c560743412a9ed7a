-- What the crates above, and the proofs here, speak of.
pub use Rattle.base_text.specs.Number.{IsPlain, read_on}
pub use Rattle.base_text.specs.Bytes.{has_bad_byte, is_bad, is_blank, joining_part, run_of, uncommented, words_of}
unfoldable pub use Rattle.base_text.specs.Bytes.{physical_lines}
pub use Rattle.base_text.specs.Faults.{IsFaultAt}
pub use Rattle.base_text.specs.Lines.{LogicalLine, Text, in_front, is_bad_line, line_of, lines_from, logical_lines, onto_next, with_words}
unfoldable pub use Rattle.base_text.specs.Lines.{texts_of}
pub use Rattle.base_text.specs.Size.{most_bytes}
pub use Rattle.base_text.specs.Written.{AreRows, IsWord, is_graphic, numbered, spaced, written, written_line}
