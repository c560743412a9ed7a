use Rattle.std.proofs.Common.{refl}
use Rattle.design_eval.proofs.LatchLemmas.{take-all}
use Rattle.design_eval.proofs.latches.take_changed.Goals as goal

pub returns-else-is_one_marked : goal.returns-else-is_one_marked
returns-else-is_one_marked c =
    take-all c.args.taking.now.first c.args.taking.now.reads.now c.words.state c.words.marks c.args.taking.now.values.now c.words.invariant.2 c.words.invariant.3 (λ k fk lk. c.if-is_one_marked.ensures refl k fk lk)
