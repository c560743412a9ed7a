use Rattle.place_design.proofs.LayLemmas.{plan-image}
use Rattle.place_design.proofs.laying.image_out_of_order.Goals as goal

pub returns-in-None-clause-refused : goal.returns-in-None-clause-refused
returns-in-None-clause-refused c =
    let D = c.args.defects.now in
    let n = c.args.whole.now in
    plan-image D c.args.netlist.now n c.no_place.result c.requires.plain
    (c.no_place.ensures D n c.shape.ensures.shape c.requires.fail)
