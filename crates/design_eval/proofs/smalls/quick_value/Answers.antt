use Rattle.design_eval.proofs.Vocabulary.{arith, bit_at}
use Rattle.design_eval.proofs.TableLemmas.{address-sixteen}
use Rattle.design_eval.proofs.smalls.quick_value.Goals as goal

pub bounds-small-small_address : goal.bounds-small-small_address
bounds-small-small_address c =
    let t = rw c.in-Some.is at c.requires.quick.small in
    omega (arith, c.small_address.ensures, address-sixteen (bit_at c.args.values.now) c.in-Some.small.wires t.wires)
