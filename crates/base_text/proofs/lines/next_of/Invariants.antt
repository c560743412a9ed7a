use Rattle.std.proofs.Common.{◌≡◌, ◌+◌, ◌<◌, ◌^◌, length}
use Rattle.base_text.specs.Lines.{lines_from}
use Rattle.base_text.proofs.lines.next_of.Given as goal

abbrev pub invariant-lines : goal.invariant-lines
invariant-lines l = record {
  room : l.next + length l.rest < 2 ^ 64;
  left : lines_from l.joined l.number l.bytes ≡ lines_from l.joined l.next l.rest;
}

abbrev pub decreases-lines : goal.decreases-lines
decreases-lines l = length l.rest
