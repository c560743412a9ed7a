use Rattle.rig_board.proofs.Vocabulary.{◌≡◌, length, AreBlank}
use Rattle.rig_board.proofs.keeping.blank_rows.Given as goal

abbrev pub invariant-rows : goal.invariant-rows
invariant-rows l = (length l.rows.items ≡ l._k) × AreBlank l.pins l.rows.items
