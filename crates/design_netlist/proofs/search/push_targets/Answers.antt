use Rattle.std.proofs.Common.{ap, ◌∙◌}
use Rattle.design_netlist.proofs.StepLemmas.{more_some, more_none}
use Rattle.design_netlist.proofs.search.push_targets.Goals as goal
use Rattle.design_netlist.proofs.search.push_targets.Goals.{in-Some+in_ok-push, in_default}

pub ins-preserved : goal.ins-preserved
ins-preserved c =
    elim c.match-drivers-ins.branch [
      | in-Some+in_ok-push w ↦ more_some c.args.drivers.now c.args.ins.now c.ins.k w.in-Some.cover c.args.waiting.now.items c.ins.waiting.items c.match-drivers-ins.waiting.items c.ins-test.true w.in-Some.is c.ins.invariant (ap (λ v. v.items) w.waiting-is ∙ w.in_ok-push.ensures.items)
      | in_default w ↦ more_none c.args.drivers.now c.args.ins.now c.ins.k c.args.waiting.now.items c.ins.waiting.items c.match-drivers-ins.waiting.items c.ins-test.true w.in_default.is c.ins.invariant (ap (λ v. v.items) w.waiting-is)
    ]
