use Rattle.place_design.proofs.Fewer.{lean-for}
use Rattle.place_design.proofs.smaller.smaller_for.Goals as goal

pub planned-requires : goal.planned-requires
planned-requires c =
    let s = c.in_ok-merged.ensures in
    lean-for c.args.netlist.now c.args.whole.now c.in_ok-merged.merged c.requires.plain c.requires.rows s.network s.rows s.fewer s.inputs s.outputs s.leads s.shallow
