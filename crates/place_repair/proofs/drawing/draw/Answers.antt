use Rattle.place_repair.proofs.Vocabulary.{◌≡◌, ◌≤◌, sym, ap, ◌∙◌, subst, Shape, Configuration, with_ticks, AreWiresOf, IsJoined}
use Rattle.machine_shape.specs.Vocabulary.{most_ticks}
use Rattle.place_repair.proofs.drawing.draw.Goals as goal

pub join_nets-requires-clause-wires : goal.join_nets-requires-clause-wires
join_nets-requires-clause-wires c = subst (λ (m : Shape). AreWiresOf m c.args.layout.now.nets.items c.args.layout.now.ports.items c.args.layout.now.visits.items) (sym c.shape.ensures.shape) c.requires.wires

pub keep_crosses-requires-clause-shape : goal.keep_crosses-requires-clause-shape
keep_crosses-requires-clause-shape c =
    let joined : IsJoined c.shape.result c.args.layout.now.nets.items c.args.layout.now.ports.items c.args.layout.now.visits.items c.in_ok-config.config.config = c.in_ok-config.ensures in
    ap (λ (g : Configuration). g.shape) joined.closed.rest ∙ c.shape.ensures.shape

pub seat_all-requires-clause-shape : goal.seat_all-requires-clause-shape
seat_all-requires-clause-shape c =
    let joined : IsJoined c.shape.result c.args.layout.now.nets.items c.args.layout.now.ports.items c.args.layout.now.visits.items c.in_ok-config.config.config = c.in_ok-config.ensures in
    ap (λ (g : Configuration). g.shape) c.in_ok-keep_crosses.ensures.rest ∙ ap (λ (g : Configuration). g.shape) joined.closed.rest ∙ c.shape.ensures.shape

pub set_ticks-requires-clause-some : goal.set_ticks-requires-clause-some
set_ticks-requires-clause-some c = subst (λ n. 1 ≤ n) (sym c.ticks-ticks.ensures) c.shape.ensures.right.some_ticks

pub set_ticks-requires-clause-few : goal.set_ticks-requires-clause-few
set_ticks-requires-clause-few c =
    let joined : IsJoined c.shape.result c.args.layout.now.nets.items c.args.layout.now.ports.items c.args.layout.now.visits.items c.in_ok-config.config.config = c.in_ok-config.ensures in
    let shape : c.seat_all.new.config.config.shape ≡ c.args.old.now.config.shape = ap (λ (g : Configuration). g.shape) c.seat_all.ensures.rest ∙ ap (λ (g : Configuration). g.shape) c.in_ok-keep_crosses.ensures.rest ∙ ap (λ (g : Configuration). g.shape) joined.closed.rest ∙ c.shape.ensures.shape in
    subst (λ (m : Shape). c.ticks-ticks.result ≤ most_ticks m) (sym shape) (subst (λ n. n ≤ most_ticks c.args.old.now.config.shape) (sym c.ticks-ticks.ensures) c.shape.ensures.right.few_ticks)

pub returns : goal.returns
returns c = record {
  moved = c.in_ok-config.config.config;
  joined = subst (λ (m : Shape). IsJoined m c.args.layout.now.nets.items c.args.layout.now.ports.items c.args.layout.now.visits.items c.in_ok-config.config.config) c.shape.ensures.shape c.in_ok-config.ensures;
  closed = c.keep_crosses.new.config.config;
  closes = c.in_ok-keep_crosses.ensures;
  seated = c.seat_all.new.config.config;
  seats = c.seat_all.ensures;
  whole = ap (λ r. r.config) c.set_ticks.ensures ∙ ap (with_ticks c.seat_all.new.config.config) c.ticks-ticks.ensures;
}
