use Rattle.std.proofs.Common.{arith}
use Rattle.diag_growth.proofs.Parting.{leaves_next, leaves_all}
use Rattle.diag_growth.proofs.parts.left_of.Goals as goal

pub places-preserved : goal.places-preserved
places-preserved c = leaves_next c.args.facts.now c.args.w.0 c.places.wires.items c.put_left.new.wires.items c.places.i c.in_ok-put_left.ensures.stays c.in_ok-put_left.ensures.has c.places.invariant

pub returns : goal.returns
returns c = leaves_all c.args.facts.now c.args.w.0 c.places.wires.items c.places.i (let l = c.len-i-end.ensures.len in omega (arith, l)) c.places.invariant
