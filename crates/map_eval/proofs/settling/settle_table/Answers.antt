use Rattle.map_eval.proofs.Vocabulary.{◌∙◌, length, get_or, sym, ap, arith, get_or_default, NetTable, no_table}
use Rattle.map_eval.proofs.SettleLemmas.{evaluated_this, evaluated_lower}
use Rattle.map_eval.proofs.settling.settle_table.Goals as goal

pub returns-clause-this : goal.returns-clause-this
returns-clause-this c = λ comb. evaluated_this c.args.plan.now.network c.args.table c.args.state.now c.evaluate.new.state c.requires.plan.ordered comb c.evaluate.ensures.evaluated

pub returns-clause-lower : goal.returns-clause-lower
returns-clause-lower c =
    let w = c.requires.within in
    let e = ap length c.as_slice.ensures in
    let at = get_or_default c.as_slice.result.now c.args.table c.index-as_slice-table.result no_table (omega arith) ∙ ap (λ ts. get_or ts c.args.table no_table) c.as_slice.ensures in
    evaluated_lower c.args.plan.now.network c.args.table c.args.state.now c.evaluate.new.state c.requires.plan.ordered (record { within = w; latched = ap (λ (t : NetTable). t.latched) (sym at) ∙ c.if-as_slice-table.false }) c.evaluate.ensures.evaluated
