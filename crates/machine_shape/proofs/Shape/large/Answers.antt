use Rattle.machine_shape.proofs.Vocabulary.{refl, arith, levels_from}
use Rattle.machine_shape.proofs.{Full.fewer_nodes, HighLimits.counts_within}
use Rattle.machine_shape.proofs.Shape.large.Goals as goal

pub invariant_of-result : goal.invariant_of-result
invariant_of-result c =
    let full = c.in_default.ensures.full in
    let few = c.in_default-first_passed_by_large.ensures.none in
    let nodes = fewer_nodes (levels_from c.args.counts) full in
    record { full = full; few_tables = few.0; few_wires = few.1; few_crosses = few.2; few_nodes = omega (arith, nodes, few.1); few_pins = few.3 }

pub returns-clause-made : goal.returns-clause-made
returns-clause-made c =
    let few = c.in_default-first_passed_by_large.ensures.none in
    (refl, record { full = c.in_default.ensures.none; within = counts_within c.args.counts few.0 few.1 few.2 few.3 })
