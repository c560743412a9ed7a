use Rattle.diag_growth.proofs.Vocabulary.{◌≡◌, sym, subst, arith, Shape, table_wire, HasWire, one_more}
use Rattle.diag_growth.proofs.tables.has_pins.Goals as goal

pub pins-init : goal.pins-init
pins-init c = record { has = λ i less. absurd (let no : ⊥ = omega (arith, less) in no) }

pub returns-then-not-has-clause-misses : goal.returns-then-not-has-clause-misses
returns-then-not-has-clause-misses c = λ no all.
    let at : c.pin_of.result.0 ≡ table_wire c.args.known.now.shape c.args.t.0 c.pins.j = subst (λ (m : Shape). c.pin_of.result.0 ≡ table_wire m c.args.t.0 c.pins.j) c.shape-shape.ensures c.pin_of.ensures.wire in
    c.has.ensures.unknown c.if-not-has.true (subst (HasWire c.args.known.now.steps) (sym at) (all c.pins.j c.pins-test.true))

pub pins-preserved : goal.pins-preserved
pins-preserved c =
    let at : c.pin_of.result.0 ≡ table_wire c.args.known.now.shape c.args.t.0 c.pins.j = subst (λ (m : Shape). c.pin_of.result.0 ≡ table_wire m c.args.t.0 c.pins.j) c.shape-shape.ensures c.pin_of.ensures.wire in
    record {
      has = one_more (λ i. HasWire c.args.known.now.steps (table_wire c.args.known.now.shape c.args.t.0 i)) c.pins.j c.pins.invariant.has (subst (HasWire c.args.known.now.steps) at (c.has.ensures.known c.if-not-has.false));
    }

pub returns-clause-all : goal.returns-clause-all
returns-clause-all c = λ yes j less. c.pins.invariant.has j (let t = c.pins-test.false in omega (arith, less, t))
