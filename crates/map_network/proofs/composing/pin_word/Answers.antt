use Rattle.map_network.proofs.Vocabulary.{◌<◌, ◌≤◌, ◌∙◌, sym, map, length, arith, get_or-map, length-map, Input, six_bits, number}
use Rattle.map_network.proofs.CellLemmas.{name_here, name_skip, name_ends, cell_ones, length_six}
use Rattle.map_network.proofs.composing.pin_word.Goals as goal

pub returns-then-number : goal.returns-then-number
returns-then-number c = λ a la.
    let n = length-map c.args.ins.now number in
    let l : c.ins.k < length (map number c.args.ins.now) = omega (arith, c.ins-test.true) in
    let few : length (map number c.args.ins.now) ≤ length (six_bits a) = omega (arith, c.requires, length_six a) in
    c.pin_mask.ensures a la
    ∙ name_here (map number c.args.ins.now) (number c.args.source) (six_bits a) few c.ins.k l (get_or-map number c.args.ins.now c.ins.k (Input 0) 0 c.ins-test.true ∙ sym c.number.ensures ∙ c.if-number.true ∙ c.number-in-ins.ensures) (c.ins.invariant a la)

pub ins-preserved : goal.ins-preserved
ins-preserved c = λ a la.
    let n = length-map c.args.ins.now number in
    let l : c.ins.k < length (map number c.args.ins.now) = omega (arith, c.ins-test.true) in
    let few : length (map number c.args.ins.now) ≤ length (six_bits a) = omega (arith, c.requires, length_six a) in
    name_skip (map number c.args.ins.now) (number c.args.source) (six_bits a) few c.ins.k l (λ e. c.if-number.false (c.number.ensures ∙ sym (get_or-map number c.args.ins.now c.ins.k (Input 0) 0 c.ins-test.true) ∙ e ∙ sym c.number-in-ins.ensures)) (c.ins.invariant a la)

pub returns : goal.returns
returns c = λ a la.
    let n = length-map c.args.ins.now number in
    let few : length (map number c.args.ins.now) ≤ length (six_bits a) = omega (arith, c.requires, length_six a) in
    cell_ones a la ∙ name_ends (map number c.args.ins.now) (number c.args.source) (six_bits a) few c.ins.k (omega (arith, c.ins-test.false)) (c.ins.invariant a la)
