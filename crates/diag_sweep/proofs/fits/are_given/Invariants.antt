use Rattle.diag_sweep.proofs.Vocabulary.{take, All, Table, HasTable}
use Rattle.diag_sweep.proofs.fits.are_given.Given as goal

abbrev pub invariant-tables : goal.invariant-tables
invariant-tables l = All (λ (t : Table). HasTable l.given t.0) (take l.k l.tables)
