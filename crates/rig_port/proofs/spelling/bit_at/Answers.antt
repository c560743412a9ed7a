use Rattle.rig_port.proofs.Vocabulary.{sym, ap, arith, false, get_or_past, pin_bit}
use Rattle.std.proofs.lemmas.Option.{get_or_from_slice_get}
use Rattle.rig_port.proofs.spelling.bit_at.Goals as goal
use Rattle.rig_port.proofs.spelling.bit_at.Goals.{else-k-from-via-then-k-from+else-get, else-k-from-via-else-k-from}

pub returns-else-k-from-clause-bit : goal.returns-else-k-from-clause-bit
returns-else-k-from-clause-bit c = elim c.else-k-from.branch [
  | else-k-from-via-then-k-from+else-get w ↦ sym (ap pin_bit (get_or_from_slice_get c.args.pins.now c.args.k false false w.if-get.ensures))
  | else-k-from-via-else-k-from w ↦ sym (ap pin_bit (get_or_past c.args.pins.now c.args.k false (omega (arith, w.if-k-from.false, c.from.ensures, c.len.ensures))))
]
