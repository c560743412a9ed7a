use Rattle.diag_published.proofs.Vocabulary.{◌<◌, All, sym, subst, Shape, Wire, wires_of, wire_numbers}
use Rattle.diag_published.proofs.Holding.{held_is, known_is}
use Rattle.diag_published.proofs.crossbar.found_in.Goals as goal

pub known_of-requires : goal.known_of-requires
known_of-requires c = rw c.deref.ensures.value (subst (λ (m : Shape). All (λ (w : Wire). w.0 < wires_of m) c.args.bar.now.taps.items) (sym c.requires.known.shape) c.requires.taps)

pub known_of-requires-2 : goal.known_of-requires-2
known_of-requires-2 c = rw c.deref-2.ensures.value (subst (λ (m : Shape). All (λ (w : Wire). w.0 < wires_of m) c.args.bar.now.lines.items) (sym c.requires.known.shape) c.requires.lines)

pub open_lines-requires-clause-taps : goal.open_lines-requires-clause-taps
open_lines-requires-clause-taps c = rw c.deref-3.ensures.value (subst (λ (m : Shape). All (λ (w : Wire). w.0 < wires_of m) c.in_ok-taps.taps.items) c.requires.known.shape c.in_ok-taps.ensures.within)

pub open_lines-requires-clause-lines : goal.open_lines-requires-clause-lines
open_lines-requires-clause-lines c = rw c.deref-4.ensures.value (subst (λ (m : Shape). All (λ (w : Wire). w.0 < wires_of m) c.in_ok-lines.lines.items) c.requires.known.shape c.in_ok-lines.ensures.within)

pub returns-clause-held : goal.returns-clause-held
returns-clause-held c = rw c.new.ensures (held_is c.args.facts.now c.args.known.now (c.the_laws_hold.ensures c.args.facts.now.shape) c.requires.known c.args.node.0 (wire_numbers c.args.bar.now.taps.items) (wire_numbers c.args.bar.now.lines.items)
    (wire_numbers c.in_ok-taps.taps.items) (wire_numbers c.in_ok-lines.lines.items) c.requires.bar (rw c.deref.ensures.value at c.in_ok-taps.ensures.known) (rw c.deref-2.ensures.value at c.in_ok-lines.ensures.known) _ _ (wire_numbers c.in_ok-those.those.items) c.two_of-pair.result c.requires.node c.requires.trunk
    (rw (c.deref-3.ensures.value, c.deref-4.ensures.value) at c.in_ok-those.ensures) (rw c.deref-5.ensures.value at c.two_of-pair.ensures.two))

pub returns-clause-all : goal.returns-clause-all
returns-clause-all c = rw c.new.ensures (known_is c.args.facts.now c.args.known.now (c.the_laws_hold.ensures c.args.facts.now.shape) c.requires.known c.args.node.0 (wire_numbers c.args.bar.now.taps.items) (wire_numbers c.args.bar.now.lines.items)
    (wire_numbers c.in_ok-taps.taps.items) (wire_numbers c.in_ok-lines.lines.items) c.requires.bar (rw c.deref.ensures.value at c.in_ok-taps.ensures.known) (rw c.deref-2.ensures.value at c.in_ok-lines.ensures.known) _ _ (wire_numbers c.in_ok-those.those.items) c.two_of-pair.result
    (rw (c.deref-3.ensures.value, c.deref-4.ensures.value) at c.in_ok-those.ensures) (rw c.deref-5.ensures.value at c.two_of-pair.ensures.none))
