use Rattle.machine_image.proofs.Vocabulary.{arith, get_or_default}
use Rattle.machine_image.proofs.read.are_small.Goals as goal

pub returns : goal.returns
returns c k d l = let h = c.type_inv.counts k in let e = get_or_default c.args.counts.now k d 0 l in omega (arith, h, e)
