use Rattle.std.proofs.Common.{◌≡◌, length, All}
use Rattle.rig_port.proofs.again.blank_rows.Given as goal

abbrev pub invariant-rows : goal.invariant-rows
invariant-rows l = (length l.rows.items ≡ l._k) × All (λ row. length row ≡ l.pins) l.rows.items
