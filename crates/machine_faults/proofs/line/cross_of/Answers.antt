use Rattle.machine_faults.proofs.Reading.{cross_is}
use Rattle.machine_faults.proofs.line.cross_of.Goals as goal

pub returns : goal.returns
returns c = cross_is c.args.shape.now c.args.tap.0 c.args.line.0 c.cross.result (c.names_are_one_to_one.ensures c.args.shape.now) (c.the_numbering_is_sound.ensures.numbered c.args.shape.now) c.requires.tap c.requires.line c.cross.ensures.found c.cross.ensures.none
