use Rattle.std.proofs.Common.{arith}
use Rattle.diag_evidence.proofs.KeptLemmas.{has_cell, table_within}
use Rattle.diag_evidence.proofs.facts.Facts.keeps_cell.Goals as goal

pub returns : goal.returns
returns c = rw (← c.self.view_is, c.has.ensures, c.from.ensures) (has_cell _ c.args.t.0 c.args.address c.requires.address)

pub overflow_mul-t : goal.overflow_mul-t
overflow_mul-t c = omega (arith, table_within c.self.view_is c.requires.table, c.self.invariant.0.few)

pub overflow_add-t : goal.overflow_add-t
overflow_add-t c = omega (arith, table_within c.self.view_is c.requires.table, c.self.invariant.0.few)
