use Rattle.rig_simulated.proofs.Vocabulary.{rules, ◌≡◌, length, arith, wires_of}
use Rattle.rig_simulated.proofs.Bases.{all_alone}
use Rattle.rig_simulated.proofs.base.lone_nodes.Goals as goal

pub returns-clause-tied : goal.returns-clause-tied
returns-clause-tied c =
    let len : length c.wires.knots.items ≡ wires_of c.args.faults.now.shape = search rules in
    let end : c.wires.w ≡ length c.wires.knots.items = search rules in
    all_alone c.args.faults.now.shape c.args.faults.now.faults c.wires.knots.items c.shape.ensures.kept.faults len (λ k h. c.wires.invariant.each k (omega (arith, h, end)))
