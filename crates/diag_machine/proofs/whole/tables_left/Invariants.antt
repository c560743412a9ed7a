use Rattle.diag_machine.proofs.Vocabulary.{◌≡◌, ◌⊎◌, ◌<◌, ◌≤◌, ℕ, true, length, All, has_number, Table, tables_of, HasTable}
use Rattle.diag_machine.proofs.whole.tables_left.Given as goal

abbrev pub invariant-tables : goal.invariant-tables
invariant-tables l = record {
  count : length l.tables.items ≤ l.t;
  within : All (λ (t : Table). t.0 < tables_of l.shape) l.tables.items;
  each : (t : ℕ) → t < l.t → (has_number l.wrong t ≡ true) ⊎ HasTable l.tables.items t;
}
