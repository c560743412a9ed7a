use Rattle.place_design.proofs.Fewer.{lean-for}
use Rattle.place_both.proofs.BothLemmas.{fewer-are}
use Rattle.place_both.proofs.smaller.spread_for.Goals as goal

pub returns : goal.returns
returns c =
    let one = c.args.first.now in
    let other = c.args.second.now in
    let n = c.args.plain.now in
    let m = c.in_ok-one.one in
    let k = c.in_ok-other.other in
    let a = c.in_ok-one.ensures in
    let b = c.in_ok-other.ensures in
    fewer-are one other n c.requires (record { first = m; second = k })
    (lean-for one n.first m c.requires.first_plain c.requires.first_rows a.network a.rows a.fewer a.inputs a.outputs a.leads a.shallow)
    (lean-for other n.second k c.requires.second_plain c.requires.second_rows b.network b.rows b.fewer b.inputs b.outputs b.leads b.shallow)
    a.inputs b.inputs a.fewer b.fewer
