use Rattle.diag_evidence.proofs.KeptLemmas.{keeps_none}
use Rattle.diag_evidence.proofs.facts.Facts.new.Goals as goal

pub returns-clause-nothing : goal.returns-clause-nothing
returns-clause-nothing c =
    let wires = c.in_ok-on_wires.ensures in
    let tables = c.in_ok-on_tables.ensures in
    rw (wires.crosses, wires.wires, wires.apart, wires.row, tables.cells, tables.registers)
    (keeps_none c.args.shape _ _ _ _ _ _)
