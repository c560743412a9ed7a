use Rattle.map_eval.proofs.Vocabulary.{◌∙◌, ap, length, arith, NetTable}
use Rattle.map_eval.proofs.BusyLemmas.{gives_truth_of, table_read, taken_one_more}
use Rattle.map_eval.proofs.busy.take_bit.Goals as goal

pub returns-clause-taken : goal.returns-clause-taken
returns-clause-taken c = λ inputs have old. (
    let n = c.args.plan.now.network in
    let t = c.args.table in
    let at = table_read n t c.as_slice.result.now c.index-as_slice-table.result c.index-as_slice-table.is c.as_slice.ensures c.requires.table in
    taken_one_more n inputs c.args.bits.now c.args.values.now t c.gives.result (omega (arith, c.requires.values, c.requires.table))
    (gives_truth_of n c.args.wires.now c.requires.plan.range c.requires.wires inputs c.args.bits.now have t _ c.gives.result c.requires.table (ap (λ (x : NetTable). x.cells) at) c.gives.ensures) old)
