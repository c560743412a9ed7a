use Rattle.diag_known.proofs.Vocabulary.{◌∙◌, ap, wires_of}
use Rattle.diag_known.proofs.Crosswise.{foot_by_looks}
use Rattle.diag_known.proofs.Grounding.{ground_none, founds_then, stands_all, out_still}
use Rattle.diag_known.proofs.Stood.{all_from, no_wire}
use Rattle.diag_known.proofs.looks.standing.Goals as goal

pub take_pins-requires : goal.take_pins-requires
take_pins-requires c = record {
  ground = ground_none c.args.wires c.in_ok-feet.feet.items c.wires.result c.requires.apart (c.in_ok-known.ensures.shape ∙ c.shape-shape.ensures) c.in_ok-known.ensures.none c.in_ok-feet.ensures
      (c.wires.ensures.wires ∙ ap wires_of c.shape-shape.ensures);
}

pub returns-clause-known : goal.returns-clause-known
returns-clause-known c = c.in_ok-look_around_all.ensures.ground.known

pub returns-clause-within : goal.returns-clause-within
returns-clause-within c = all_from (no_wire c.in_ok-known.known c.in_ok-known.ensures.none) (founds_then c.in_ok-take_pins.ensures.founds c.in_ok-look_around_all.ensures.founds)

pub returns-clause-whole : goal.returns-clause-whole
returns-clause-whole c =
    let founds = c.in_ok-look_around_all.ensures.founds in
    let all = founds_then c.in_ok-take_pins.ensures.founds founds in
    let known = c.look_around_all.new.known in
    let left = c.look_around_all.new.left in
    let feet = c.look_around_all.new.feet.items in
    stands_all c.args.facts.now known c.args.wires left feet (foot_by_looks c.args.facts.now known left feet c.in_ok-look_around_all.ensures.looked) all.whole (λ i less. out_still founds _ (c.in_ok-take_pins.ensures.taken i less))
