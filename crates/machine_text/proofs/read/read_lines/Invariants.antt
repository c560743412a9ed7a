use Rattle.machine_text.proofs.Vocabulary.{◌≡◌, false, length, logical_lines, state_of, IsReader}
use Rattle.machine_text.specs.Reading.{reading, start}
use Rattle.machine_text.proofs.read.read_lines.Given as goal

abbrev pub invariant-lines : goal.invariant-lines
invariant-lines l = record {
  same : reading (state_of l.reader) l.lines ≡ reading start (logical_lines false l.bytes);
  kept : IsReader l.reader;
}

abbrev pub decreases-lines : goal.decreases-lines
decreases-lines l = length l.lines
