use Rattle.machine_shape.proofs.Vocabulary.{◌<◌, ◌∙◌, sym, subst, wires_of}
use Rattle.machine_shape.proofs.Crossings.{tap_below}
use Rattle.machine_shape.proofs.Shape.tap.Goals as goal

pub returns-clause-within : goal.returns-clause-within
returns-clause-within c = subst (λ w. w < wires_of c.args.self.now) (c.node_bar.ensures.tap c.args.k c.requires.position ∙ sym c.tap_at.ensures) (tap_below c.args.self.now c.args.n.0 c.args.k c.requires.node c.requires.position)
