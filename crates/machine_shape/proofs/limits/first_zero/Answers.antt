use Rattle.machine_shape.proofs.Vocabulary.{arith, IsFull}
use Rattle.machine_shape.proofs.{Full.positive, Full.full_from, Full.no_zero, limits.first_zero.Goals.Else-counts-eq0-5}
use Rattle.machine_shape.proofs.limits.first_zero.Goals as goal

full_here : (c : Else-counts-eq0-5) → IsFull c.args.counts
full_here c = full_from c.args.counts (omega arith) (omega arith) (omega arith) (omega arith)
    (λ k b. positive c.args.counts.ports c.if-contains.ensures.cases k (omega arith))
    (λ k b. positive c.args.counts.lines c.if-contains-2.ensures.cases k (omega arith)) (omega arith)

pub returns-else-counts-eq0-5-clause-full : goal.returns-else-counts-eq0-5-clause-full
returns-else-counts-eq0-5-clause-full c = full_here c

pub returns-else-counts-eq0-5-clause-none : goal.returns-else-counts-eq0-5-clause-none
returns-else-counts-eq0-5-clause-none c = no_zero c.args.counts (omega arith) (omega arith) (full_here c)
