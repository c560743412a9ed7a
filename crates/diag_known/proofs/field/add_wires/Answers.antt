use Rattle.diag_known.proofs.Vocabulary.{◌<◌, length, sym, subst, arith, rules, Wire}
use Rattle.diag_known.proofs.Getting.{at_index, wires_next}
use Rattle.diag_known.proofs.field.add_wires.Goals as goal

pub wires-preserved : goal.wires-preserved
wires-preserved c =
    let ws = c.args.wires.now.items in
    let w = c.index.result.now in
    let early : c.wires.j < length ws = first_of (omega arith, search rules, grind arith) in
    let below : w.0 < length c.args.marks.now = subst (λ (z : Wire). z.0 < length c.args.marks.now) (sym c.index.ensures) (c.requires c.wires.j w early) in
    let within : w.0 < length c.wires.marks = (let len = c.wires.invariant.len in omega (arith, below, len)) in
    rw c.insert.ensures (wires_next ws c.wires.j w c.wires.invariant (at_index ws c.wires.j w early c.index.ensures) within)
