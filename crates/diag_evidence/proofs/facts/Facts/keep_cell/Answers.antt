use Rattle.std.proofs.Common.{◌<◌, ◌+◌, ◌*◌, length, arith}
use Rattle.diag_evidence.proofs.KeptLemmas.{gains_cell, table_within}
use Rattle.diag_evidence.proofs.facts.Facts.keep_cell.Goals as goal

pub returns : goal.returns
returns c =
    let within : 64 * c.args.t.0 + c.args.address < length c.self.inside.cells = omega (arith, table_within c.self.view_is c.requires.table, c.self.invariant.0.cells, c.requires.address) in
    rw (← c.self.view_is, c.insert.ensures, c.from.ensures) (gains_cell _ c.args.t.0 c.args.address c.requires.address within)

pub overflow_mul-t : goal.overflow_mul-t
overflow_mul-t c = omega (arith, table_within c.self.view_is c.requires.table, c.self.invariant.0.few)

pub overflow_add-t : goal.overflow_add-t
overflow_add-t c = omega (arith, table_within c.self.view_is c.requires.table, c.self.invariant.0.few)
