use Rattle.map_eval.proofs.Vocabulary.{◌∙◌, sym, ap, length, arith, NetTable, IsCombinational}
use Rattle.map_eval.proofs.BusyLemmas.{gives_truth_of, table_read, true_more}
use Rattle.map_eval.proofs.busy.settle_bit.Goals as goal

pub returns-clause-settled : goal.returns-clause-settled
returns-clause-settled c = λ inputs have old. (
    let n = c.args.plan.now.network in
    let t = c.args.table in
    let at = table_read n t c.as_slice.result.now c.index-as_slice-table.result c.index-as_slice-table.is c.as_slice.ensures c.requires.table in
    let one : IsCombinational n t = record { within = c.requires.table; latched = ap (λ (x : NetTable). x.latched) (sym at) ∙ c.if-one.false } in
    true_more n c.args.bits.now t c.gives.result c.requires.table one inputs c.requires.plan.ordered (omega (arith, c.requires.len, c.requires.table))
    (gives_truth_of n c.args.wires.now c.requires.plan.range c.requires.wires inputs c.args.bits.now have t _ c.gives.result c.requires.table (ap (λ (x : NetTable). x.cells) at) c.gives.ensures) old)
