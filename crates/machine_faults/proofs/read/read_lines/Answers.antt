use Rattle.machine_faults.proofs.Vocabulary.{subst, sym, false, logical_lines}
use Rattle.machine_faults.specs.Refusals.{IsFirst}
use Rattle.machine_faults.proofs.Reading.{begins, goes_on, stops_at}
use Rattle.machine_faults.proofs.read.read_lines.Goals as goal

pub lines-init : goal.lines-init
lines-init c = begins _ _ _ _ c.new-lines.ensures c.in-Ok.ensures

pub lines-preserved : goal.lines-preserved
lines-preserved c = goes_on _ _ c.lines.lines c.next_line.new.self c.in-Ok-Some.line c.lines.set c.lines.invariant (rw c.in-Ok-Some.field-0-is at c.in-Ok-Some.ensures.line).0 c.take_line.new.set c.in_default-take_line.ensures

pub returns-in-Err-clause-refused : goal.returns-in-Err-clause-refused
returns-in-Err-clause-refused c = subst (IsFirst c.args.shape.now (logical_lines false c.args.bytes.now)) (sym c.line_told.ensures) (stops_at _ _ c.lines.lines c.lines.set c.in-Err.fault c.lines.invariant c.in-Err.ensures.fault)
