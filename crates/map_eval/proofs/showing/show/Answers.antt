use Rattle.map_eval.proofs.Vocabulary.{◌∙◌, ap, length, arith, bit_of, value_in}
use Rattle.map_eval.proofs.StartLemmas.{show_all}
use Rattle.map_eval.proofs.showing.show.Goals as goal

pub returns : goal.returns
returns c =
    let e = ap length c.as_slice-outputs.ensures in
    let f = c.outputs-test.false in
    show_all (bit_of c.args.state.now.inputs.items (value_in c.args.state.now.values.items)) c.args.plan.now.network.outputs c.outputs.row c.outputs.k (c.outputs.invariant.len ∙ c.requires) (omega arith) c.outputs.invariant.bits
