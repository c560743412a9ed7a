use Rattle.machine_defects.proofs.Vocabulary.{subst, arith, counts_of, AreCounts}
use Rattle.machine_shape.proofs.HighLimits.{high_limits}
use Rattle.machine_shape.specs.declared.Counts.{Counts}
use Rattle.machine_defects.proofs.Only.{IsTold, only_is}
use Rattle.machine_defects.proofs.read.read_defects.Goals as goal

pub read_within-requires : goal.read_within-requires
read_within-requires c = omega (arith, c.if-bytes-most.false, c.most_text-most.ensures, (high_limits c.args.shape.now).text.1)

pub returns-clause-only : goal.returns-clause-only
returns-clause-only c = λ d p few.
    let m = c.args.shape.now in
    let told : IsTold m = record {
      names = c.names_are_one_to_one.ensures m;
      crosses = c.the_crosspoints_are_sound.ensures.crosses m;
      numbered = c.the_numbering_is_sound.ensures.numbered m;
      counts = subst (λ (n : Counts). AreCounts (counts_of n)) c.counts.ensures c.counts_of.ensures.small;
    } in
    only_is m told c.args.bytes.now c.read_within.result c.read_within.ensures.found c.read_within.ensures.refused d p
