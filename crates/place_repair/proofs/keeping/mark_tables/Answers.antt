use Rattle.place_repair.proofs.Vocabulary.{◌∙◌, arith, Table, IsBrokenHere, no_table}
use Rattle.place_repair.proofs.{Unbroken.tables_first, Marking.marked_none, Marking.marked_more, Marking.first_none, Using.listed_within}
use Rattle.place_repair.proofs.keeping.mark_tables.Goals as goal

pub mark_table-requires-clause-sized : goal.mark_table-requires-clause-sized
mark_table-requires-clause-sized c = c.loop-k.invariant.sized ∙ c.requires.sized

pub mark_table-requires-clause-within : goal.mark_table-requires-clause-within
mark_table-requires-clause-within c = listed_within c.args.config.now.config c.tables_on-tables.result.now c.tables_on-tables.ensures c.loop-k.k c.loop-k-test.true c.shape-shape.ensures.right

pub loop-k-init : goal.loop-k-init
loop-k-init c = marked_none _ c.args.marks.now (first_none (λ (x : Table). IsBrokenHere c.args.defects.now.list c.args.config.now.config c.args.nets.now.lowest x.0) no_table c.tables_on-tables.result.now)

pub loop-k-preserved : goal.loop-k-preserved
loop-k-preserved c = marked_more (λ (x : Table). IsBrokenHere c.args.defects.now.list c.args.config.now.config c.args.nets.now.lowest x.0) no_table c.tables_on-tables.result.now c.loop-k.k c.args.marks.now c.loop-k.marks c.mark_table.new.marks c.loop-k.invariant c.mark_table.ensures

pub returns : goal.returns
returns c = tables_first c.args.defects.now.list c.args.config.now.config c.args.nets.now.lowest c.tables_on-tables.result.now c.tables_on-tables.ensures c.loop-k.k (omega arith) (omega arith) c.args.marks.now c.loop-k.marks c.loop-k.invariant
