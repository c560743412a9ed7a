use Rattle.diag_published.proofs.Vocabulary.{◌<◌, All, sym, subst, Shape, Wire, nodes_of, wires_of, AreBarOf, wire_numbers, held}
use Rattle.diag_published.proofs.Filling.{bar_at, full_is, bar_loads, bar_few, no_few, trunk_node, trunk_taps}
use Rattle.diag_published.proofs.Staying.{trunk_later}
use Rattle.diag_published.proofs.crossbar.test_node.Goals as goal

pub ground_of-requires-clause-node : goal.ground_of-requires-clause-node
ground_of-requires-clause-node g c = trunk_node c.args.facts.now.shape (c.the_laws_hold.ensures c.args.facts.now.shape) c.args.node.0 c.args.trunk.left.end c.requires.trunk.left_end

pub ground_of-requires-clause-some : goal.ground_of-requires-clause-some
ground_of-requires-clause-some g c = trunk_taps c.args.facts.now.shape (c.the_laws_hold.ensures c.args.facts.now.shape) c.args.node.0 c.args.trunk.left.end c.requires.trunk.left_end

pub grow-requires-clause-field : goal.grow-requires-clause-field
grow-requires-clause-field g c = c.in-Ok.ensures.field.field

pub found_in-requires-clause-node : goal.found_in-requires-clause-node
found_in-requires-clause-node g c = subst (λ (m : Shape). c.args.node.0 < nodes_of m) (sym c.in_ok-grow.ensures.advances.more.shape) (trunk_node c.args.facts.now.shape (c.the_laws_hold.ensures c.args.facts.now.shape) c.args.node.0 c.args.trunk.left.end c.requires.trunk.left_end)

pub found_in-requires-clause-trunk : goal.found_in-requires-clause-trunk
found_in-requires-clause-trunk g c = trunk_later (record { kept = c.in_ok-grow.ensures.advances.more; known = c.in_ok-grow.ensures.grows.stays }) c.requires.trunk

pub found_in-requires-clause-bar : goal.found_in-requires-clause-bar
found_in-requires-clause-bar g c = subst (λ (m : Shape). AreBarOf m c.args.node.0 (wire_numbers c.in-Ok.bar.taps.items) (wire_numbers c.in-Ok.bar.lines.items)) (sym c.in_ok-grow.ensures.advances.more.shape) c.in-Ok.ensures.bar

pub found_in-requires-clause-taps : goal.found_in-requires-clause-taps
found_in-requires-clause-taps g c = subst (λ (m : Shape). All (λ (w : Wire). w.0 < wires_of m) c.in-Ok.bar.taps.items) (sym c.in_ok-grow.ensures.advances.more.shape) c.in-Ok.ensures.taps

pub found_in-requires-clause-lines : goal.found_in-requires-clause-lines
found_in-requires-clause-lines g c = subst (λ (m : Shape). All (λ (w : Wire). w.0 < wires_of m) c.in-Ok.bar.lines.items) (sym c.in_ok-grow.ensures.advances.more.shape) c.in-Ok.ensures.lines

pub returns-in_default-clause-few_each : goal.returns-in_default-clause-few_each
returns-in_default-clause-few_each g c = λ f e. no_few _ c.args.facts.now c.args.node.0 _

pub returns-in_err-grow-clause-loads : goal.returns-in_err-grow-clause-loads
returns-in_err-grow-clause-loads g c = bar_loads c.args.node.0 c.in-Ok.field _ _ c.args.facts.now c.in-Ok.ensures.field c.in_err-grow.ensures.loads

pub returns-in_err-grow-clause-few_each : goal.returns-in_err-grow-clause-few_each
returns-in_err-grow-clause-few_each g c = λ f e. bar_few c.args.node.0 c.in-Ok.field _ _ _ c.args.facts.now c.in-Ok.ensures.field (c.in_err-grow.ensures.few_each f e)

pub returns-in-Ok-found_in-clause-full_each : goal.returns-in-Ok-found_in-clause-full_each
returns-in-Ok-found_in-clause-full_each g c = λ f e. full_is _ c.args.facts.now c.grow.new.facts c.grow.new.known c.in-Ok.field c.in-Ok-found_in.tested (c.the_laws_hold.ensures c.grow.new.facts.shape) (held c.in_ok-grow.ensures.advances e)
    (bar_at (sym c.in_ok-grow.ensures.advances.more.shape) (sym (rw c.in-Ok-found_in.is at c.found_in.ensures.node)) c.in-Ok.ensures.field) (c.in_ok-grow.ensures.closed_each f e)
    (rw c.in-Ok-found_in.is at c.found_in.ensures.held) (rw c.in-Ok-found_in.is at c.found_in.ensures.all)

pub returns-in-Ok-found_in-clause-loads : goal.returns-in-Ok-found_in-clause-loads
returns-in-Ok-found_in-clause-loads g c = bar_loads c.args.node.0 c.in-Ok.field _ _ c.args.facts.now c.in-Ok.ensures.field c.in_ok-grow.ensures.loads

pub returns-in-Ok-found_in-clause-few_each : goal.returns-in-Ok-found_in-clause-few_each
returns-in-Ok-found_in-clause-few_each g c = λ f e. bar_few c.args.node.0 c.in-Ok.field _ _ _ c.args.facts.now c.in-Ok.ensures.field (c.in_ok-grow.ensures.few_each f e)

pub returns-clause-loads : goal.returns-clause-loads
returns-clause-loads g c = bar_loads c.args.node.0 c.in-Ok.field _ _ c.args.facts.now c.in-Ok.ensures.field c.in_ok-grow.ensures.loads

pub returns-clause-few_each : goal.returns-clause-few_each
returns-clause-few_each g c = λ f e. bar_few c.args.node.0 c.in-Ok.field _ _ _ c.args.facts.now c.in-Ok.ensures.field (c.in_ok-grow.ensures.few_each f e)
