use Rattle.place_plan.specs.Terminals.{show_by, terminal_for}
use Rattle.place_plan.proofs.Pushes.{map_next}
use Rattle.place_plan.proofs.terminals.push_shows.Goals as goal

pub loop-o-preserved : goal.loop-o-preserved
loop-o-preserved c =
    map_next (show_by c.args.shape.now c.args.inputs c.args.pins.now c.args.sources.now) c.args.terminals.now.items c.loop-o.terminals.items c.push.new.self.items c.loop-o.o (terminal_for c.net_of.result.0 c.pin.result.0) c.loop-o.invariant c.in_ok-push.ensures.items (λ i. terminal_for (c.net_of.ensures i) (c.pin.ensures.wire i))
