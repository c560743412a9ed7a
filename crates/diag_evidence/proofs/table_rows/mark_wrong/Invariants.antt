use Rattle.diag_evidence.proofs.Vocabulary.{◌≡◌, ℕ, not, ◌&&◌, ◌||◌, length, take, has_number, is_one_of, is_right_before, output_pin}
use Rattle.diag_evidence.proofs.table_rows.mark_wrong.Given as goal

abbrev pub invariant-tables : goal.invariant-tables
invariant-tables l = record {
  marks : (t : ℕ) → has_number l.wrong t ≡ ((is_one_of (take l.k l.tables) t
      && not (is_right_before l.sheet.setting l.sheet.reads.items l.sheet.opposite.items (output_pin l.forest t) 65)) || has_number l.fn.wrong t);
  len : length l.wrong ≡ length l.fn.wrong;
}
