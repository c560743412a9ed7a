use Rattle.diag_growth.proofs.Vocabulary.{◌≡◌, List, sym, subst, arith, Shape, hextant_of, table_wire, IsPort, AreInputArms, Arms}
use Rattle.diag_growth.proofs.{Choosing.input_first, Choosing.input_next, Choosing.arms_named, Searching.misses_at}
use Rattle.diag_growth.proofs.choices.input_arms.Goals as goal

pub inputs-init : goal.inputs-init
inputs-init c = record { arms = subst (λ (arms : List Arms). AreInputArms c.args.facts.now c.args.known.now.steps c.args.t.0 c.args.near.0 0 arms) (sym c.new-arms.ensures.items) input_first }

pub arms_at-requires-clause-port : goal.arms_at-requires-clause-port
arms_at-requires-clause-port c =
    let k = c.args.facts.now in
    let node : c.hextant_of-hextant.result.0 ≡ hextant_of k.shape c.args.t.0 = subst (λ (m : Shape). c.hextant_of-hextant.result.0 ≡ hextant_of m c.args.t.0) c.shape-shape.ensures c.hextant_of-hextant.ensures.node in
    subst (λ n. IsPort k.shape n c.args.near.0) (sym node) c.requires.port

pub returns-in_default-clause-none : goal.returns-in_default-clause-none
returns-in_default-clause-none c = λ beside.
    let k = c.args.facts.now in
    let node : c.hextant_of-hextant.result.0 ≡ hextant_of k.shape c.args.t.0 = subst (λ (m : Shape). c.hextant_of-hextant.result.0 ≡ hextant_of m c.args.t.0) c.shape-shape.ensures c.hextant_of-hextant.ensures.node in
    let pin : c.pin_of.result.0 ≡ table_wire k.shape c.args.t.0 c.inputs.input = subst (λ (m : Shape). c.pin_of.result.0 ≡ table_wire m c.args.t.0 c.inputs.input) c.shape-shape.ensures c.pin_of.ensures.wire in
    misses_at c.inputs.input c.inputs-test.true node pin (c.in_default.ensures.none beside)

pub inputs-preserved : goal.inputs-preserved
inputs-preserved c =
    let k = c.args.facts.now in
    let node : c.hextant_of-hextant.result.0 ≡ hextant_of k.shape c.args.t.0 = subst (λ (m : Shape). c.hextant_of-hextant.result.0 ≡ hextant_of m c.args.t.0) c.shape-shape.ensures c.hextant_of-hextant.ensures.node in
    let pin : c.pin_of.result.0 ≡ table_wire k.shape c.args.t.0 c.inputs.input = subst (λ (m : Shape). c.pin_of.result.0 ≡ table_wire m c.args.t.0 c.inputs.input) c.shape-shape.ensures c.pin_of.ensures.wire in
    record { arms = input_next c.inputs.invariant.arms (arms_named c.args.t.0 c.inputs.input node pin c.in-Some.ensures.arms) c.in_ok-push.ensures.items }

pub returns-clause-arms : goal.returns-clause-arms
returns-clause-arms c =
    let six : c.inputs.input ≡ 6 = (let t = c.inputs-test.false in let a = c.inputs.auto.input-end in omega (arith, t, a)) in
    subst (λ n. AreInputArms c.args.facts.now c.args.known.now.steps c.args.t.0 c.args.near.0 n c.inputs.arms.items) six c.inputs.invariant.arms
