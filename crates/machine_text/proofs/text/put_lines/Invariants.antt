use Rattle.machine_text.proofs.Vocabulary.{◌≡◌, ◌++◌, ◌<◌, map, take, All, written, heads, count_row, numbers_of}
use Rattle.machine_text.proofs.text.put_lines.Given as goal

abbrev pub invariant-heads : goal.invariant-heads
invariant-heads l = record {
  put : l.text.items ≡ l.fn.text.items ++ written (map (count_row l.said) (take l.head-index heads));
  small : All (λ h. All (λ n. n < 65536) (numbers_of l.said h)) (take l.head-index heads);
}
