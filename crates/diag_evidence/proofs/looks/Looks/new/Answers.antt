use Rattle.std.proofs.Common.{◌<◌, ◌≤◌, arith}
use Rattle.diag_evidence.proofs.looks.Looks.new.Goals as goal

pub blank_rows-requires : goal.blank_rows-requires
blank_rows-requires c = let a = c.pins-pins.ensures.few in let b = c.wires-wires.ensures.wires in let d = c.wires-wires.ensures.few in omega (arith, a, b, d)
