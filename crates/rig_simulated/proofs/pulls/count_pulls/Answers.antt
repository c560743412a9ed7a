use Rattle.rig_simulated.proofs.Vocabulary.{◌≡◌, ◌<◌, ◌∙◌, ℕ, true, length, get_or, arith, get_or_default, length-set}
use Rattle.rig_simulated.proofs.Pulling.{plain, few_counted, counted_next}
use Rattle.rig_simulated.proofs.pulls.count_pulls.Goals as goal

pub overflow_add-index_mut : goal.overflow_add-index_mut
overflow_add-index_mut c =
    let w = c.requires.outs c.gates.i plain c.gates-test.true in
    let x : ℕ = (get_or c.args.gates.now c.gates.i plain).out in
    let within : x < length c.gates.pulls.items = omega (arith, w, c.gates.invariant.len, c.gates.invariant.counted.len) in
    let few = few_counted c.args.gates.now c.gates.pulls.items c.gates.low c.gates.i c.gates.invariant.counted c.gates-test.true plain x within in
    let is : c.index_mut.result.now ≡ get_or c.gates.pulls.items x 0 = c.index_mut.ensures.value ∙ get_or_default c.gates.pulls.items x _ 0 within in
    omega (arith, few, is)

pub gates-preserved : goal.gates-preserved
gates-preserved c =
    let w = c.requires.outs c.gates.i plain c.gates-test.true in
    let x : ℕ = (get_or c.args.gates.now c.gates.i plain).out in
    let within : x < length c.gates.pulls.items = omega (arith, w, c.gates.invariant.len, c.gates.invariant.counted.len) in
    let inside : x < length c.gates.low = omega (arith, w, c.gates.invariant.len) in
    record {
      len = length-set c.gates.low x true ∙ c.gates.invariant.len;
      pulls = length-set c.gates.pulls.items x _ ∙ c.gates.invariant.pulls;
      counted = counted_next c.args.gates.now c.gates.pulls.items c.gates.low c.gates.i c.gates.invariant.counted c.gates-test.true plain c.index_mut.result.now c.if-gate.false inside
          (c.index_mut.ensures.value ∙ get_or_default c.gates.pulls.items x _ 0 within);
    }
