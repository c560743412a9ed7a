use Rattle.std.proofs.Common.{◌<◌, get_or, sym, ap, ◌∙◌, subst, arith}
use Rattle.place_repair.proofs.Vocabulary.{Shape, Table, wires_of, tables_of, IsTablePin, no_table, IsOfFirst}
use Rattle.place_repair.proofs.{Marking.marked_none, Marking.marked_more, Marking.first_none, Using.listed_within, Using.on_first}
use Rattle.place_repair.proofs.uses.mark_tables.Goals as goal

pub mark_table-requires-clause-sized : goal.mark_table-requires-clause-sized
mark_table-requires-clause-sized c = c.loop-k.invariant.sized ∙ c.requires ∙ ap wires_of (sym c.shape-shape.ensures.shape)

pub mark_table-requires-clause-within : goal.mark_table-requires-clause-within
mark_table-requires-clause-within c = subst (λ (s : Shape). (get_or c.tables_on-tables.result.now c.loop-k.k no_table).0 < tables_of s) (sym c.shape-shape.ensures.shape) (listed_within c.args.config.now.config c.tables_on-tables.result.now c.tables_on-tables.ensures c.loop-k.k c.loop-k-test.true c.shape-shape.ensures.right)

pub loop-k-init : goal.loop-k-init
loop-k-init c = marked_none (IsOfFirst (λ (x : Table). IsTablePin c.shape-shape.result x.0 7) no_table c.tables_on-tables.result.now 0) c.args.marks.now (first_none (λ (x : Table). IsTablePin c.shape-shape.result x.0 7) no_table c.tables_on-tables.result.now)

pub loop-k-preserved : goal.loop-k-preserved
loop-k-preserved c = marked_more (λ (x : Table). IsTablePin c.shape-shape.result x.0 7) no_table c.tables_on-tables.result.now c.loop-k.k c.args.marks.now c.loop-k.marks c.mark_table.new.marks c.loop-k.invariant c.mark_table.ensures

pub returns : goal.returns
returns c = on_first c.args.config.now.config c.shape-shape.result c.shape-shape.ensures.shape c.tables_on-tables.result.now c.tables_on-tables.ensures c.loop-k.k (omega arith) (omega arith) c.args.marks.now c.loop-k.marks c.loop-k.invariant
