use Rattle.diag_growth.proofs.Vocabulary.{◌≡◌, Pin, Line, Port, TablePin, is_pin}
use Rattle.diag_growth.proofs.learn.machine_pin.Goals as goal

pub returns-in-Line-clause-none : goal.returns-in-Line-clause-none
returns-in-Line-clause-none c = λ i low e. let same : Pin i ≡ Line c.in-Line.node.0 c.in-Line.position = (c.the_numbering_is_sound.ensures.meanings c.args.shape.now).one c.args.w.0 _ _ (is_pin i low e) c.in-Line.ensures in cc

pub returns-in-Port-clause-none : goal.returns-in-Port-clause-none
returns-in-Port-clause-none c = λ i low e. let same : Pin i ≡ Port c.in-Port.node.0 c.in-Port.position = (c.the_numbering_is_sound.ensures.meanings c.args.shape.now).one c.args.w.0 _ _ (is_pin i low e) c.in-Port.ensures in cc

pub returns-in-TablePin-clause-none : goal.returns-in-TablePin-clause-none
returns-in-TablePin-clause-none c = λ i low e. let same : Pin i ≡ TablePin c.in-TablePin.table.0 c.in-TablePin.pin = (c.the_numbering_is_sound.ensures.meanings c.args.shape.now).one c.args.w.0 _ _ (is_pin i low e) c.in-TablePin.ensures in cc
