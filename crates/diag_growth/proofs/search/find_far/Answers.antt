use Rattle.diag_growth.proofs.Vocabulary.{◌≡◌, ◌≢◌, ◌∙◌, sym, subst, arith, rules, Shape, port_at, own_ports_of, IsFarPort, one_more}
use Rattle.diag_growth.proofs.Searching.{at_shape, no_port_of, port_there, far_there, no_far_near, no_far_out, no_far_apart}
use Rattle.diag_growth.proofs.search.find_far.Goals as goal

pub ports-init : goal.ports-init
ports-init c = record { none = λ i less. absurd (let no : ⊥ = omega (arith, less) in no) }

pub ports-preserved-then-eq : goal.ports-preserved-then-eq
ports-preserved-then-eq c =
    let k = c.args.facts.now in
    let same : c.port-far.result.0 ≡ c.args.near.0 = search rules in
    record {
      none = one_more (λ i. ¬ IsFarPort k c.args.without.now.steps c.args.hextant.0 c.args.near.0 c.args.line.0 (port_at k.shape c.args.hextant.0 i)) c.ports.k c.ports.invariant.none (no_far_near (sym (at_shape (λ m. port_at m c.args.hextant.0 c.ports.k) c.shape-shape.ensures c.port-far.ensures.wire) ∙ same));
    }

pub ports-preserved-then-not-has : goal.ports-preserved-then-not-has
ports-preserved-then-not-has c =
    let k = c.args.facts.now in
    record {
      none = one_more (λ i. ¬ IsFarPort k c.args.without.now.steps c.args.hextant.0 c.args.near.0 c.args.line.0 (port_at k.shape c.args.hextant.0 i)) c.ports.k c.ports.invariant.none
          (subst (λ w. ¬ IsFarPort k c.args.without.now.steps c.args.hextant.0 c.args.near.0 c.args.line.0 w) (at_shape (λ m. port_at m c.args.hextant.0 c.ports.k) c.shape-shape.ensures c.port-far.ensures.wire) (no_far_out (c.has.ensures.unknown c.if-not-has.true)));
    }

pub returns-in-Some-clause-far : goal.returns-in-Some-clause-far
returns-in-Some-clause-far c =
    let k = c.args.facts.now in
    let differs : c.port-far.result.0 ≢ c.args.near.0 = search rules in (
      far_there (port_there c.args.hextant.0 c.ports.k c.port-far.result.0 (c.ports_and_lines_ascend.ensures k.shape) c.shape-shape.ensures c.requires.hextant (let t = c.ports-test.true in let l = c.ports-k-end.ensures in omega (arith, t, l)) c.port-far.ensures.wire)
          differs (c.has.ensures.known c.if-not-has.false) c.in-Some.ensures.meets,
      c.in-Some.ensures.meets,
    )

pub ports-preserved : goal.ports-preserved
ports-preserved c =
    let k = c.args.facts.now in
    record {
      none = one_more (λ i. ¬ IsFarPort k c.args.without.now.steps c.args.hextant.0 c.args.near.0 c.args.line.0 (port_at k.shape c.args.hextant.0 i)) c.ports.k c.ports.invariant.none
          (subst (λ w. ¬ IsFarPort k c.args.without.now.steps c.args.hextant.0 c.args.near.0 c.args.line.0 w) (at_shape (λ m. port_at m c.args.hextant.0 c.ports.k) c.shape-shape.ensures c.port-far.ensures.wire) (no_far_apart c.in_default.ensures.none));
    }

pub returns-clause-none : goal.returns-clause-none
returns-clause-none c = λ far p.
    let k = c.args.facts.now in
    let end : c.ports-k-end.result ≡ own_ports_of k.shape c.args.hextant.0 = subst (λ (m : Shape). c.ports-k-end.result ≡ own_ports_of m c.args.hextant.0) c.shape-shape.ensures c.ports-k-end.ensures in
    no_port_of c.args.hextant.0 c.ports.k (λ w. IsFarPort k c.args.without.now.steps c.args.hextant.0 c.args.near.0 c.args.line.0 w) (c.ports_and_lines_ascend.ensures k.shape)
    (let t = c.ports-test.false in omega (arith, t, end)) c.ports.invariant.none far p.port p
