use Rattle.example_rigs.proofs.Readings.{lengths_set}
use Rattle.example_rigs.proofs.turn.Turn.pass_all.Goals as goal

pub returns-in-Some-clause-lengths : goal.returns-in-Some-clause-lengths
returns-in-Some-clause-lengths c = lengths_set c.in-Some.k c.args.reads.now c.turn_first_bit.new.reading c.index-reads-k.result c.in-Some.ensures.due.0 c.turn_first_bit.ensures.length
