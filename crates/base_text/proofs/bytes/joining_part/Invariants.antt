use Rattle.base_text.proofs.Vocabulary.{◌≡◌, ◌+◌, ◌≤◌, length, take, suffix_len, is_blank}
use Rattle.base_text.proofs.bytes.joining_part.Given as goal

abbrev pub invariant-loop-end : goal.invariant-loop-end
invariant-loop-end l = (l.end ≤ length l.text) × (l.end + suffix_len is_blank l.text ≡ length l.text + suffix_len is_blank (take l.end l.text))

abbrev pub decreases-loop-end : goal.decreases-loop-end
decreases-loop-end l = l.end
