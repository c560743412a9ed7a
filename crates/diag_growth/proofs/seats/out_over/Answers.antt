use Rattle.diag_growth.proofs.Vocabulary.{◌≡◌, sym, subst, Shape, hextant_of, table_wire, IsLine}
use Rattle.diag_growth.proofs.Choosing.{fars_named}
use Rattle.diag_growth.proofs.Searching.{no_place_unknown, no_place_output, no_place_far, meeting_of}
use Rattle.diag_growth.proofs.seats.out_over.Goals as goal

pub returns-then-not-has-clause-none : goal.returns-then-not-has-clause-none
returns-then-not-has-clause-none c = λ near. no_place_unknown (c.has.ensures.unknown c.if-not-has.true)

pub returns-in_default-clause-none : goal.returns-in_default-clause-none
returns-in_default-clause-none c = λ near.
    let pin : c.pin_of.result.0 ≡ table_wire c.args.facts.now.shape c.args.t.0 6 = subst (λ (m : Shape). c.pin_of.result.0 ≡ table_wire m c.args.t.0 6) c.shape-shape.ensures c.pin_of.ensures.wire in
    no_place_output pin c.in_default.ensures.none

pub fars_over-requires-clause-is_line : goal.fars_over-requires-clause-is_line
fars_over-requires-clause-is_line c =
    let node : c.hextant_of-hextant.result.0 ≡ hextant_of c.args.facts.now.shape c.args.t.0 = subst (λ (m : Shape). c.hextant_of-hextant.result.0 ≡ hextant_of m c.args.t.0) c.shape-shape.ensures c.hextant_of-hextant.ensures.node in
    subst (λ n. IsLine c.args.facts.now.shape n c.args.line.0) (sym node) c.requires.line

pub returns-in_default-fars_over-clause-none : goal.returns-in_default-fars_over-clause-none
returns-in_default-fars_over-clause-none c = λ near.
    let node : c.hextant_of-hextant.result.0 ≡ hextant_of c.args.facts.now.shape c.args.t.0 = subst (λ (m : Shape). c.hextant_of-hextant.result.0 ≡ hextant_of m c.args.t.0) c.shape-shape.ensures c.hextant_of-hextant.ensures.node in
    no_place_far node (c.in_default-fars_over.ensures.none near)

pub returns-clause-out : goal.returns-clause-out
returns-clause-out c =
    let node : c.hextant_of-hextant.result.0 ≡ hextant_of c.args.facts.now.shape c.args.t.0 = subst (λ (m : Shape). c.hextant_of-hextant.result.0 ≡ hextant_of m c.args.t.0) c.shape-shape.ensures c.hextant_of-hextant.ensures.node in
    let pin : c.pin_of.result.0 ≡ table_wire c.args.facts.now.shape c.args.t.0 6 = subst (λ (m : Shape). c.pin_of.result.0 ≡ table_wire m c.args.t.0 6) c.shape-shape.ensures c.pin_of.ensures.wire in
    record {
      is_line = c.requires.line;
      known = c.has.ensures.known c.if-not-has.false;
      output = meeting_of c.args.t.0 pin c.in-Some.ensures.meets;
      fars = fars_named c.args.t.0 node c.in-Some-fars_over.ensures.fars;
    }
