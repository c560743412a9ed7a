use Rattle.diag_growth.proofs.Vocabulary.{◌≡◌, ◌∙◌, ℕ, sym, ap, subst, arith, Shape, HasWire, IsPlaceAt, one_more}
use Rattle.machine_shape.specs.Shape.{hextant_of, port_at, own_ports_of, IsLine}
use Rattle.diag_growth.proofs.{Choosing.none_near, Searching.no_port_of, Searching.port_of}
use Rattle.diag_growth.proofs.seats.find_place.Goals as goal

pub place_near-requires-clause-port : goal.place_near-requires-clause-port
place_near-requires-clause-port c = port_of c.args.t.0 c.shape-shape.ensures (c.ports_and_lines_ascend.ensures c.args.facts.now.shape) c.hextant_of-hextant.ensures.node c.hextant_of-hextant.ensures.within (let t = c.ports-test.true in let l = c.ports-k-end.ensures in omega (arith, t, l)) c.port-near.ensures.wire

pub ports-init : goal.ports-init
ports-init c = record { none = λ i line less. absurd (let no : ⊥ = omega (arith, less) in no) }

pub ports-preserved-then-not-has : goal.ports-preserved-then-not-has
ports-preserved-then-not-has c =
    let k = c.args.facts.now in
    let h = hextant_of k.shape c.args.t.0 in
    let node : c.hextant_of-hextant.result.0 ≡ h = subst (λ (m : Shape). c.hextant_of-hextant.result.0 ≡ hextant_of m c.args.t.0) c.shape-shape.ensures c.hextant_of-hextant.ensures.node in
    let at : c.port-near.result.0 ≡ port_at k.shape c.hextant_of-hextant.result.0 c.ports.k = subst (λ (m : Shape). c.port-near.result.0 ≡ port_at m c.hextant_of-hextant.result.0 c.ports.k) c.shape-shape.ensures c.port-near.ensures.wire in
    let there : c.port-near.result.0 ≡ port_at k.shape h c.ports.k = at ∙ ap (λ n. port_at k.shape n c.ports.k) node in
    record {
      none = λ i line less has is. one_more
          (λ i. (line : ℕ) → HasWire c.args.without.now.steps (port_at k.shape h i) → IsLine k.shape h line → ¬ IsPlaceAt k c.args.known.now.steps c.args.without.now.steps c.args.t.0 (port_at k.shape h i) line) c.ports.k
          (λ i less line. c.ports.invariant.none i line less) (λ line has is. absurd (c.has.ensures.unknown c.if-not-has.true (subst (HasWire c.args.without.now.steps) (sym there) has))) i less line has is;
    }

pub returns-in-Some-clause-place : goal.returns-in-Some-clause-place
returns-in-Some-clause-place c = record {
  near = c.port-near.result.0;
  port = port_of c.args.t.0 c.shape-shape.ensures (c.ports_and_lines_ascend.ensures c.args.facts.now.shape) c.hextant_of-hextant.ensures.node c.hextant_of-hextant.ensures.within (let t = c.ports-test.true in let l = c.ports-k-end.ensures in omega (arith, t, l)) c.port-near.ensures.wire;
  stands = c.has.ensures.known c.if-not-has.false;
  found = rw c.in-Some.is at c.in_ok-place.ensures.place;
}

pub ports-preserved : goal.ports-preserved
ports-preserved c =
    let k = c.args.facts.now in
    let h = hextant_of k.shape c.args.t.0 in
    let node : c.hextant_of-hextant.result.0 ≡ h = subst (λ (m : Shape). c.hextant_of-hextant.result.0 ≡ hextant_of m c.args.t.0) c.shape-shape.ensures c.hextant_of-hextant.ensures.node in
    let at : c.port-near.result.0 ≡ port_at k.shape c.hextant_of-hextant.result.0 c.ports.k = subst (λ (m : Shape). c.port-near.result.0 ≡ port_at m c.hextant_of-hextant.result.0 c.ports.k) c.shape-shape.ensures c.port-near.ensures.wire in
    let there : c.port-near.result.0 ≡ port_at k.shape h c.ports.k = at ∙ ap (λ n. port_at k.shape n c.ports.k) node in
    let none = rw c.in_default.is at c.in_ok-place.ensures.none in
    record {
      none = λ i line less has is. one_more
          (λ i. (line : ℕ) → HasWire c.args.without.now.steps (port_at k.shape h i) → IsLine k.shape h line → ¬ IsPlaceAt k c.args.known.now.steps c.args.without.now.steps c.args.t.0 (port_at k.shape h i) line) c.ports.k
          (λ i less line. c.ports.invariant.none i line less)
          (λ line has is. subst (λ w. ¬ IsPlaceAt k c.args.known.now.steps c.args.without.now.steps c.args.t.0 w line) there
          (none_near c.args.t.0 c.in_ok-outs.ensures.whole none line is)) i less line has is;
    }

pub returns-clause-none : goal.returns-clause-none
returns-clause-none c = λ near line port has is p.
    let k = c.args.facts.now in
    let h = hextant_of k.shape c.args.t.0 in
    let node : c.hextant_of-hextant.result.0 ≡ h = subst (λ (m : Shape). c.hextant_of-hextant.result.0 ≡ hextant_of m c.args.t.0) c.shape-shape.ensures c.hextant_of-hextant.ensures.node in
    let end : c.ports-k-end.result ≡ own_ports_of k.shape h = subst (λ (m : Shape). c.ports-k-end.result ≡ own_ports_of m c.hextant_of-hextant.result.0) c.shape-shape.ensures c.ports-k-end.ensures ∙ ap (λ n. own_ports_of k.shape n) node in
    no_port_of h c.ports.k (λ w. HasWire c.args.without.now.steps w × IsPlaceAt k c.args.known.now.steps c.args.without.now.steps c.args.t.0 w line) (c.ports_and_lines_ascend.ensures k.shape)
    (let t = c.ports-test.false in omega (arith, t, end)) (λ i less both. c.ports.invariant.none i line less both.0 is both.1) near port (has, p)
