use Rattle.machine_faults.proofs.Reading.{refusal_at_line, no_entry_at_line}
use Rattle.machine_faults.proofs.read.take_line.Goals as goal

pub returns-in-Err-add : goal.returns-in-Err-add
returns-in-Err-add c = refusal_at_line c.args.set.now c.args.line.now c.in-Ok.entry c.in-Err-add.why c.add.new.self _ _ _ _ c.shape.ensures.shape c.words.ensures c.number.ensures c.told.ensures c.requires.sound c.in-Ok.ensures c.in-Err-add.ensures.refused

pub returns-in-Err : goal.returns-in-Err
returns-in-Err c = (c.number-in-Err.ensures, no_entry_at_line c.args.set.now c.args.line.now _ _ c.in-Err.kind c.shape.ensures.shape c.words.ensures c.requires.sound c.in-Err.ensures)
