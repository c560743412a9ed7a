use Rattle.place_design.proofs.LayLemmas.{lay-took}
use Rattle.place_design.proofs.laying.lay.Goals as goal

pub returns : goal.returns
returns c = let e = c.image_for.ensures in record { took = λ o. lay-took c.args.defects.now c.args.netlist.now c.image_for.result o e.found e.refused }
