use Rattle.std.proofs.Common.{◌≡◌, ◌+◌, All, length}
use Rattle.diag_evidence.proofs.looks.blank_rows.Given as goal

abbrev pub invariant-pins : goal.invariant-pins
invariant-pins l = record {
  cycles : length l.rows.items ≡ l.k + 1;
  each : All (λ row. length row ≡ l.pins) l.rows.items;
}
