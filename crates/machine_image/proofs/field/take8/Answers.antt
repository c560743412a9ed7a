use Rattle.std.proofs.Common.{arith}
use Rattle.machine_image.proofs.Bytes.{eight_stand}
use Rattle.machine_image.proofs.field.take8.Goals as goal

pub returns-clause-found : goal.returns-clause-found
returns-clause-found c =
    (omega arith, eight_stand c.args.bytes.now c.args.at c.from_be_bytes.result (omega (arith, c.if-bytes-at.false)) (λ k. omega (arith, c.type_inv.bytes k)) c.from_be_bytes.ensures)
