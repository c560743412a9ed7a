use Rattle.diag_published.proofs.Vocabulary.{◌≤◌, ◌-◌, Gets, IsFrom}
use Rattle.diag_published.proofs.bars.add_range.Given as goal

abbrev pub invariant-numbers : goal.invariant-numbers
invariant-numbers l =
    record {
      gets : Gets (IsFrom l.first l.x) (l.x - l.first) l.initial.marks l.marks;
      low : l.first ≤ l.x;
      high : l.x ≤ l.end;
    }
