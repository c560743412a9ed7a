use Rattle.machine_faults.proofs.Reading.{only_is}
use Rattle.machine_faults.proofs.read.read_faults.Goals as goal

pub returns-clause-only : goal.returns-clause-only
returns-clause-only c = λ f t _. only_is c.args.shape.now (record { names = c.names_are_one_to_one.ensures c.args.shape.now; crosses = c.the_crosspoints_are_sound.ensures.crosses c.args.shape.now; numbered = c.the_numbering_is_sound.ensures.numbered c.args.shape.now }) c.args.bytes.now c.read_lines.result c.read_lines.ensures.found c.read_lines.ensures.refused f t
