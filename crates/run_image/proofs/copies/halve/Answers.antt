use Rattle.std.proofs.Common.{◌∙◌, length, sym, arith}
use Rattle.std.proofs.lemmas.Slice.{between_to_end}
use Rattle.run_image.proofs.Copied.{halved}
use Rattle.run_image.proofs.copies.halve.Goals as goal

pub returns-clause-shared : goal.returns-clause-shared
returns-clause-shared c =
    let n = length c.args.bits.now in
    let all = c.args.all.now in
    let rest = between_to_end all n (length all) (omega arith) in
    halved n all c.copy_from_slice.new.self c.are_same.result c.requires c.copy_from_slice.ensures.after
    (λ same. c.are_same.ensures.0 same ∙ rest, λ same. c.are_same.ensures.1 (same ∙ sym rest))
