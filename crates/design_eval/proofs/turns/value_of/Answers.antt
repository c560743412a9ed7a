use Rattle.design_eval.proofs.Vocabulary.{arith, bit_at}
use Rattle.design_eval.proofs.TableLemmas.{address-small}
use Rattle.design_eval.proofs.turns.value_of.Goals as goal

pub bounds-table-address_of : goal.bounds-table-address_of
bounds-table-address_of c =
    let t = rw c.in-Some.is at c.requires.turn.table in
    omega (arith, c.address_of.ensures, address-small (bit_at c.args.values.now) c.in-Some.table.wires t.wires)
