use Rattle.diag_growth.proofs.Vocabulary.{◌≡◌, ◌<◌, List, length, sym, subst, arith, at_index, AreArmsTo, Arm}
use Rattle.diag_growth.proofs.{Choosing.arm_chosen, Searching.arms_first, Searching.arms_next}
use Rattle.diag_growth.proofs.choices.arms_beside.Goals as goal

pub inputs-init : goal.inputs-init
inputs-init c = record { arms = subst (λ (arms : List Arm). AreArmsTo c.args.facts.now c.args.known.now.steps c.args.t.0 c.args.near.0 c.args.line.0 0 arms) (sym c.new-chosen.ensures.items) arms_first }

pub index-requires : goal.index-requires
index-requires c = let arms = c.args.arms.now in let t = c.inputs-test.true in let count = c.requires.arms.count in let sized = arms.ok.0 in omega (arith, t, count, sized)

pub returns-in_default-clause-none : goal.returns-in_default-clause-none
returns-in_default-clause-none c =
    let arms = c.args.arms.now.items in
    let a = c.index.result.now in
    let early : c.inputs.input < length arms = (let t = c.inputs-test.true in let count = c.requires.arms.count in omega (arith, t, count)) in
    let two = c.requires.arms.each c.inputs.input a (at_index arms c.inputs.input a early c.index.ensures) in
    record { input = c.inputs.input; within = c.inputs-test.true; none = (arm_chosen two c.in_default.ensures.first c.in_default.ensures.second).1 }

pub inputs-preserved : goal.inputs-preserved
inputs-preserved c =
    let arms = c.args.arms.now.items in
    let a = c.index.result.now in
    let early : c.inputs.input < length arms = (let t = c.inputs-test.true in let count = c.requires.arms.count in omega (arith, t, count)) in
    let two = c.requires.arms.each c.inputs.input a (at_index arms c.inputs.input a early c.index.ensures) in
    record { arms = arms_next c.inputs.invariant.arms (arm_chosen two c.in-Some.ensures.first c.in-Some.ensures.second).0 c.in_ok-push.ensures.items }

pub returns-clause-arms : goal.returns-clause-arms
returns-clause-arms c =
    let six : c.inputs.input ≡ 6 = (let t = c.inputs-test.false in let a = c.inputs.auto.input-end in omega (arith, t, a)) in
    subst (λ n. AreArmsTo c.args.facts.now c.args.known.now.steps c.args.t.0 c.args.near.0 c.args.line.0 n c.inputs.chosen.items) six c.inputs.invariant.arms
