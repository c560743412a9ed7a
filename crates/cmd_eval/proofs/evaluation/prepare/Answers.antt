use Rattle.std.proofs.Common.{arith}
use Rattle.cmd_steps.proofs.InputLemmas.{inputs-few}
use Rattle.cmd_eval.proofs.evaluation.prepare.Goals as goal

pub overflow_cast-inputs : goal.overflow_cast-inputs
overflow_cast-inputs c =
    let few = inputs-few c.args.netlist.now c.parts.ensures.checked in
    rw (c.as_slice-inputs.ensures, c.parts.ensures.parts) (omega (arith, few))
