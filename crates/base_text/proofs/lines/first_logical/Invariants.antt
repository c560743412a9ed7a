use Rattle.base_text.proofs.Vocabulary.{◌≡◌, ◌+◌, ◌≤◌, length, map, physical_lines, line_of, texts_of}
use Rattle.base_text.proofs.LinesLemmas.{with_front}
use Rattle.base_text.proofs.lines.first_logical.Given as goal

abbrev pub invariant-loop-rest : goal.invariant-loop-rest
invariant-loop-rest l = record {
  room : l.next + length l.rest ≤ l.number + length l.bytes;
  line : with_front l.number (map (λ w. w.now) l.words.items) (map line_of (texts_of l.joined l.next (physical_lines l.rest))) ≡ map line_of (texts_of l.joined l.number (physical_lines l.bytes));
  begun : l.number ≤ l.next;
}

abbrev pub decreases-loop-rest : goal.decreases-loop-rest
decreases-loop-rest l = length l.rest
