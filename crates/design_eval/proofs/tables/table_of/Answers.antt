use Rattle.design_eval.proofs.TableLemmas.{is-table}
use Rattle.design_eval.proofs.tables.table_of.Goals as goal

pub returns : goal.returns
returns c = is-table _ _ _ c.wires_of-wires.ensures c.cells_of-cells.ensures
