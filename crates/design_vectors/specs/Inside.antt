-- The fields of a line that is read, and what they mean.
use Rattle.std.specs.Prelude.{◌≡◌, ◌+◌, ◌-◌, ◌^◌, ◌<◌, ◌≤◌, true, length, take}
use Rattle.std.specs.List.{list_all}
use Rattle.design_vectors.specs.{declared.line.Line.TheInside.Inside, Lines.PartLine, Vectors.is_vector_byte, Vectors.vector_size}

abbrev pub part_line : Inside → PartLine
part_line l = record {
  width = l.width;
  limit = l.limit;
  number = l.number;
  at = l.at;
  in_comment = l.in_comment;
  shown = take l.count l.bytes.items;
}

pub record IsPartLine (l : Inside) : Type 0 where
  pub limit : l.limit < 2 ^ 64 - 1
  pub at : l.at ≤ l.limit
  pub number : l.number ≤ l.at + 1
  pub size : length l.bytes.items ≡ vector_size l.width
  pub count : l.count ≤ length l.bytes.items
  pub right : list_all (is_vector_byte l.width) (take l.count l.bytes.items) ≡ true
