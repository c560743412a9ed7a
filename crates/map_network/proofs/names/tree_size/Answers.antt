use Rattle.std.proofs.Common.{arith}
use Rattle.map_network.proofs.TreeLemmas.{tree_size_high, tree_size_low, tree_size_few}
use Rattle.map_network.proofs.names.tree_size.Goals as goal

pub overflow_add-size : goal.overflow_add-size
overflow_add-size c =
    let t = tree_size_high c.levels.count c.levels-test.true in
    let f = tree_size_few c.args.wants in
    let i = c.levels.invariant.0 in
    omega arith

pub levels-preserved : goal.levels-preserved
levels-preserved c =
    let t = tree_size_high c.levels.count c.levels-test.true in
    let i = c.levels.invariant.0 in
    let j = c.levels.invariant.1 in
    (omega arith, omega arith)

pub returns : goal.returns
returns c =
    let t = tree_size_low c.levels.count c.levels-test.false in
    let i = c.levels.invariant.0 in
    omega arith
