use Rattle.diag_machine.proofs.Listed.{listing_none, whole_list}
use Rattle.diag_machine.proofs.list.list_of.Goals as goal

pub list_wires-requires-clause-before : goal.list_wires-requires-clause-before
list_wires-requires-clause-before c = rw c.in_ok-list.ensures (listing_none _ _ c.shape.result c.shape.ensures)

pub returns-clause-list : goal.returns-clause-list
returns-clause-list c = whole_list _ _ _ c.list_tables.ensures c.shape-kept.ensures.kept
