use Rattle.std.proofs.Common.{◌≤◌, List, ℕ, length, ap, arith}
use Rattle.design_eval.proofs.SmallLemmas.{is-small}
use Rattle.design_eval.proofs.smalls.small_of.Goals as goal

pub returns : goal.returns
returns c =
    let few : length c.args.cover.now.ins ≤ 4 = omega (arith, c.if-count-gt-FEW_INPUTS.false, ap (λ (xs : List ℕ). length xs) c.as_slice-count.ensures) in
    is-small c.args.cover.now c.wires_of-wires.result c.first_wires.result c.cells_of-cells.result c.first_cells.result few c.wires_of-wires.ensures c.cells_of-cells.ensures c.first_wires.ensures
    c.first_cells.ensures.size c.first_cells.ensures.each
