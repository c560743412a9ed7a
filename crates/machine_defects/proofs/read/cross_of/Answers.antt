use Rattle.machine_defects.proofs.Reading.{no_tap_named, no_line_named, apart_named}
use Rattle.machine_defects.proofs.read.cross_of.Goals as goal

pub returns-in_default : goal.returns-in_default
returns-in_default c = no_tap_named c.args.shape.now (c.the_numbering_is_sound.ensures.numbered c.args.shape.now) c.args.tap.now c.args.line.now c.in_default.ensures.none

pub returns-in_default-wire_of : goal.returns-in_default-wire_of
returns-in_default-wire_of c = no_line_named c.args.shape.now (c.the_numbering_is_sound.ensures.numbered c.args.shape.now) c.args.tap.now c.args.line.now c.in_default-wire_of.ensures.none

pub returns-in-None : goal.returns-in-None
returns-in-None c = apart_named c.args.shape.now (c.the_numbering_is_sound.ensures.numbered c.args.shape.now) (c.names_are_one_to_one.ensures c.args.shape.now) c.args.tap.now c.args.line.now c.in-Some.tap.0 c.in-Some-wire_of.line.0 c.in-Some.ensures.some.0 c.in-Some-wire_of.ensures.some.0 c.in-Some.ensures.some.1 c.in-Some-wire_of.ensures.some.1 c.in-None.ensures.none
