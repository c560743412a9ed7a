use Rattle.place_repair.proofs.Vocabulary.{◌≡◌, ◌<◌, sym, ap, ◌∙◌, subst, arith, wires_of, IsWireRest}
use Rattle.place_repair.proofs.Resting.{wires_begin, wires_more}
use Rattle.place_repair.proofs.rest.list_wires.Goals as goal

pub is_taken-taken-requires-clause-within : goal.is_taken-taken-requires-clause-within
is_taken-taken-requires-clause-within c = subst (λ n. c.loop-w.w < n) (c.wires-w-end.ensures.wires ∙ ap wires_of c.shape.ensures.shape) c.loop-w-test.true

pub list_wire_if-requires : goal.list_wire_if-requires
list_wire_if-requires c = subst (λ n. c.loop-w.w < n) (c.wires-w-end.ensures.wires ∙ ap wires_of (c.shape.ensures.shape ∙ sym c.loop-w.invariant.shape)) c.loop-w-test.true

pub loop-w-init : goal.loop-w-init
loop-w-init c = wires_begin c.args.defects.now.list c.args.config.now.config c.args.plan.now c.args.rest.now c.requires.none

pub loop-w-preserved : goal.loop-w-preserved
loop-w-preserved c = wires_more c.args.defects.now.list c.args.config.now.config c.args.plan.now c.loop-w.w c.is_taken-taken.result c.loop-w.rest c.list_wire_if.new.rest c.loop-w.invariant c.is_taken-taken.ensures c.list_wire_if.ensures.listed c.list_wire_if.ensures.kept

pub returns : goal.returns
returns c =
    let e : c.wires-w-end.result ≡ wires_of c.args.config.now.config.shape = c.wires-w-end.ensures.wires ∙ ap wires_of c.shape.ensures.shape in
    let q : c.loop-w.w ≡ c.wires-w-end.result = omega arith in
    subst (λ n. IsWireRest c.args.defects.now.list c.args.config.now.config c.args.plan.now n c.loop-w.rest) (q ∙ e) c.loop-w.invariant
