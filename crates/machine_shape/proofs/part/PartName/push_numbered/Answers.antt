use Rattle.machine_shape.proofs.Vocabulary.{◌∷◌, [], ◌∙◌, length, ap, arith, length-append, decimal}
use Rattle.machine_shape.proofs.Decimals.{seven_digits}
use Rattle.machine_shape.proofs.part.PartName.push_numbered.Goals as goal

pub push_number-requires : goal.push_number-requires
push_number-requires c =
    let l = ap length c.push.ensures ∙ length-append c.args.self.now (c.args.letter ∷ []) in
    let d = seven_digits c.args.n c.requires.short in omega arith

pub returns-clause-room : goal.returns-clause-room
returns-clause-room c =
    let l = ap length c.push.ensures ∙ length-append c.args.self.now (c.args.letter ∷ []) in
    let k = ap length c.push_number.ensures ∙ length-append c.push.new.self (decimal c.args.n) in
    let d = seven_digits c.args.n c.requires.short in omega arith
