use Rattle.place_plan.specs.Terminals.{drive_by, terminal_for}
use Rattle.place_plan.proofs.Pushes.{map_next}
use Rattle.place_plan.proofs.terminals.push_drives.Goals as goal

pub loop-k-preserved : goal.loop-k-preserved
loop-k-preserved c =
    map_next (drive_by c.args.shape.now c.args.pins.now) c.args.terminals.now.items c.loop-k.terminals.items c.push.new.self.items c.loop-k.k (terminal_for c.loop-k.k c.pin.result.0) c.loop-k.invariant c.in_ok-push.ensures.items (λ i. terminal_for c.loop-k.k (c.pin.ensures.wire i))
