use Rattle.std.proofs.Common.{◌≡◌, All, length}
use Rattle.example_cases.proofs.rigs.talk.rows_of.Given as goal

abbrev pub invariant-rows : goal.invariant-rows
invariant-rows l = All (λ row. length row ≡ l.fn.pins) l.drives.items
    × All (λ row. length row ≡ l.fn.pins) l.reads.items
    × (length l.drives.items ≡ length l.reads.items)
