use Rattle.std.proofs.Common.{◌∙◌, sym, arith}
use Rattle.map_eval.proofs.StartLemmas.{put_all}
use Rattle.map_eval.proofs.running.put_inputs.Goals as goal

pub returns-clause-inputs : goal.returns-clause-inputs
returns-clause-inputs c =
    let f = c.inputs-test.false in
    put_all c.args.vector.now c.inputs.state.inputs.items c.inputs.input (c.inputs.invariant.kept.sized.inputs ∙ sym c.requires.inputs) (omega arith) c.inputs.invariant.inputs
