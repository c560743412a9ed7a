use Rattle.diag_published.proofs.Trunking.{trunk_is, pins_differ}
use Rattle.diag_published.proofs.pins.trunk_to.Goals as goal

pub invariant_of-result : goal.invariant_of-result
invariant_of-result c = record { pins = pins_differ c.in_ok-left.ensures }

pub returns : goal.returns
returns c = trunk_is c.in_ok-left.ensures
