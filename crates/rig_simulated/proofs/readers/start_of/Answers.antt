use Rattle.std.proofs.Common.{suc, leb, leb-true, arith, rules}
use Rattle.rig_simulated.proofs.Vocabulary.{IsNonDecreasingBy, IsPartitionPoint-from_clause, IsPartitionedBy-leb, Reader}
use Rattle.rig_simulated.proofs.readers.start_of.Goals as goal

pub returns : goal.returns
returns c =
    let up : IsNonDecreasingBy (λ (x : Reader). suc x.class) c.args.list.now = λ i j d le lj. let h = c.requires i j d le lj in omega (arith, h) in
    let parted = IsPartitionedBy-leb (λ (x : Reader). suc x.class) c.args.list.now c.args.class up in
    let point = IsPartitionPoint-from_clause (λ (x : Reader). leb (suc x.class) c.args.class) _ _ c.partition_point.ensures.partitioned parted (λ a r q k. search rules) in
    λ k d h. leb-true _ _ (point.0 k d (omega arith) h)
