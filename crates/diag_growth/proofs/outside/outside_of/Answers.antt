use Rattle.diag_growth.proofs.Vocabulary.{◌∙◌, ap, length, arith, length-replicate, wires_of}
use Rattle.diag_growth.proofs.Outsides.{outside_first, outside_next, outside_all}
use Rattle.diag_growth.proofs.outside.outside_of.Goals as goal

pub places-init : goal.places-init
places-init c = record {
  len = ap length c.in_ok-set.ensures ∙ length-replicate c.wires.result _ ∙ c.wires.ensures.wires ∙ ap wires_of c.shape.ensures;
  are = outside_first c.in_ok-set.set c.wires.result c.in_ok-set.ensures;
}

pub places-preserved : goal.places-preserved
places-preserved c = record { len = c.put_outside.ensures.puts.len ∙ c.places.invariant.len; are = outside_next c.put_outside.ensures.puts c.places.invariant.are }

pub returns-clause-known : goal.returns-clause-known
returns-clause-known c = c.places.invariant.are.known

pub returns-clause-outside : goal.returns-clause-outside
returns-clause-outside c = c.places.invariant.are.outside

pub returns-clause-whole : goal.returns-clause-whole
returns-clause-whole c = outside_all c.places.invariant.are (let l = c.len-place-end.ensures.len in omega (arith, l))
