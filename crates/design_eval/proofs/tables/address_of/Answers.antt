use Rattle.design_eval.proofs.Vocabulary.{arith, get_or, ◌-◌, bit_at}
use Rattle.design_eval.proofs.TableLemmas.{address-start, address-part, address-step, bool-small}
use Rattle.design_eval.proofs.tables.address_of.Goals as goal

pub wires-init : goal.wires-init
wires-init c = address-start (bit_at c.args.values.now) 6 c.args.wires.now c.told-wires

pub overflow_mul-place : goal.overflow_mul-place
overflow_mul-place c = omega (arith, address-part (bit_at c.args.values.now) 6 c.args.wires.now c.wires.k c.wires.place c.told-wires (omega arith) c.wires-test.true c.wires.invariant)

pub overflow_add-place : goal.overflow_add-place
overflow_add-place c = omega (arith, address-part (bit_at c.args.values.now) 6 c.args.wires.now c.wires.k c.wires.place c.told-wires (omega arith) c.wires-test.true c.wires.invariant, c.from.ensures, bool-small (bit_at c.args.values.now (get_or c.args.wires.now (5 - c.wires.k) 0)))

pub wires-preserved : goal.wires-preserved
wires-preserved c = address-step c.args.values.now 6 c.args.wires.now c.wires.k (5 - c.wires.k) c.wires.place c.from.result c.told-wires c.wires-test.true (omega arith) c.wires.invariant c.from.ensures
