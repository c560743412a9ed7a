use Rattle.diag_known.proofs.Vocabulary.{◌≡◌, ◌<◌, ◌∙◌, length, ap, arith, length-replicate, wires_of}
use Rattle.diag_known.specs.declared.beside.Reach.TheVariants as reach
use Rattle.diag_known.proofs.Reaching.{reaching_none, reaching_more, put_length, trees_reached, all_reached}
use Rattle.diag_known.proofs.beside.find_reached.Goals as goal

pub put_route-requires : goal.put_route-requires
put_route-requires c =
    let len : length c.clear.new.reaches.items ≡ c.wires.result = ap length c.in_ok-clear.ensures ∙ length-replicate c.wires.result reach.Unreached in
    λ w on. let h = c.requires.route.wires w on in
    let same : c.wires.result ≡ wires_of c.args.facts.now.shape = c.wires.ensures.wires ∙ ap wires_of (c.shape.ensures ∙ c.requires.known.shape) in
    omega (arith, h, len, same)

pub places-init : goal.places-init
places-init c =
    let len : length c.clear.new.reaches.items ≡ c.wires.result = ap length c.in_ok-clear.ensures ∙ length-replicate c.wires.result reach.Unreached in
    record {
      len = c.put_route.ensures.len ∙ len ∙ c.wires.ensures.wires ∙ ap wires_of c.shape.ensures;
      found = reaching_none c.args.known.now.steps c.args.route.now.wires c.wires.result c.clear.new.reaches.items c.put_route.new.reaches.items c.in_ok-clear.ensures c.put_route.ensures.on c.put_route.ensures.off;
    }

pub places-preserved : goal.places-preserved
places-preserved c =
    let within : c.wire_at.result.0 < length c.places.reaches.items = (let h = c.wire_at.ensures.within in let len = c.places.invariant.len in omega (arith, h, len)) in
    record {
      len = put_length c.places.reaches.items c.put_off.new.reaches.items c.wire_at.result.0 c.reach_on-how.result c.put_off.ensures.on c.put_off.ensures.off ∙ c.places.invariant.len;
      found = reaching_more c.requires.known c.args.route.now.wires c.places.i c.places.reaches.items c.put_off.new.reaches.items c.places.invariant.found c.step_at.result c.step_at.ensures c.wire_at.result.0 c.wire_at.ensures.at within
          c.reach_on-how.result c.reach_on-how.ensures.hangs c.reach_on-how.ensures.whole c.reach_on-how.ensures.off c.put_off.ensures.on c.put_off.ensures.off;
    }

pub returns-clause-on : goal.returns-clause-on
returns-clause-on c = c.places.invariant.found.on

pub returns-clause-trees : goal.returns-clause-trees
returns-clause-trees c = trees_reached c.places.invariant.found

pub returns-clause-all : goal.returns-clause-all
returns-clause-all c = all_reached c.args.route.now (omega arith) c.places.invariant.found
