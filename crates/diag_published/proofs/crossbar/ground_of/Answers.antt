use Rattle.diag_published.proofs.Vocabulary.{◌<◌, All, subst, Shape, Wire, wires_of, AreBarOf, IsBarField, wire_numbers}
use Rattle.diag_published.proofs.crossbar.ground_of.Goals as goal

pub returns-clause-bar : goal.returns-clause-bar
returns-clause-bar c = subst (λ (m : Shape). AreBarOf m c.args.node.0 (wire_numbers c.in_ok-bar.bar.taps.items) (wire_numbers c.in_ok-bar.bar.lines.items)) c.shape-shape.ensures c.in_ok-bar.ensures.bar

pub returns-clause-taps : goal.returns-clause-taps
returns-clause-taps c = subst (λ (m : Shape). All (λ (w : Wire). w.0 < wires_of m) c.in_ok-bar.bar.taps.items) c.shape-shape.ensures c.in_ok-bar.ensures.taps

pub returns-clause-lines : goal.returns-clause-lines
returns-clause-lines c = subst (λ (m : Shape). All (λ (w : Wire). w.0 < wires_of m) c.in_ok-bar.bar.lines.items) c.shape-shape.ensures c.in_ok-bar.ensures.lines

pub returns-clause-field : goal.returns-clause-field
returns-clause-field c = subst (λ (m : Shape). IsBarField m c.args.node.0 c.in_ok-field.field) c.shape-shape.ensures c.in_ok-field.ensures
