use Rattle.std.proofs.Common.{◌≡◌, ◌<◌, ◌∙◌, false, ap, sym, arith, length, get_or}
use Rattle.base_bits.specs.Numbers.{has_number}
use Rattle.base_bits.proofs.NumbersLemmas.{room_for}
use Rattle.base_bits.proofs.bit_set.BitSet.insert.Goals as goal

pub overflow_add-self : goal.overflow_add-self
overflow_add-self c =
    let within : c.args.i < length c.self.inside.bits = omega (arith, ap length c.self.view_is) in
    let out : has_number c.self.inside.bits c.args.i ≡ false = ap (λ k. get_or c.self.inside.bits k false) (sym c.from.ensures) ∙ sym c.get.ensures ∙ c.if-not-get.true in
    omega (arith, room_for c.self.inside.bits c.args.i within out)
