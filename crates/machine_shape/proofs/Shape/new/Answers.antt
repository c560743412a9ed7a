use Rattle.machine_shape.proofs.Vocabulary.{refl, arith, both_ways, levels_from}
use Rattle.machine_shape.proofs.{Full.fewer_nodes, HighLimits.small_from, HighLimits.small_within}
use Rattle.machine_shape.proofs.Shape.new.Goals as goal

pub invariant_of-result : goal.invariant_of-result
invariant_of-result c =
    let full = c.in_default.ensures.full in
    let few = c.in_default-first_passed.ensures.none in
    let small = small_from c.args.counts few.0 few.1 few.2 in
    let nodes = fewer_nodes (levels_from c.args.counts) full in
    record {
      full = full;
      few_tables = omega (arith, few.0);
      few_wires = omega (arith, few.1);
      few_crosses = omega (arith, few.2);
      few_nodes = omega (arith, nodes, few.1);
      few_pins = λ large. absurd (both_ways _ large small);
    }

pub returns-clause-made : goal.returns-clause-made
returns-clause-made c =
    let few = c.in_default-first_passed.ensures.none in
    (refl, record { full = c.in_default.ensures.none; within = small_within c.args.counts (small_from c.args.counts few.0 few.1 few.2) })

pub returns-clause-small : goal.returns-clause-small
returns-clause-small c = let few = c.in_default-first_passed.ensures.none in small_from c.args.counts few.0 few.1 few.2
