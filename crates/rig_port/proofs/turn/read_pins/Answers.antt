use Rattle.std.proofs.Common.{◌≡◌, ◌∙◌, ◌+◌, ◌-◌, ◌*◌, ◌/◌, ◌<◌, false, length, get_or, sym, ap, refl, subst, arith}
use Rattle.rig_port.proofs.Vocabulary.{length-set, div_ceil, Pins}
use Rattle.rig_port.proofs.Taken.{pin_read, pins_more, pins_all}
use Rattle.rig_port.proofs.turn.read_pins.Goals as goal

pub pins-preserved : goal.pins-preserved
pins-preserved c = (
  ap length c.set.ensures ∙ length-set c.pins.read c.pins.k c.bit_in.result ∙ c.pins.invariant.0,
  λ pins rest many text.
      let lt : c.pins.k < length pins = omega (arith, c.pins-test.true, c.len.ensures, many, c.pins.invariant.0) in
      let bit = pin_read c.args.reply.now rest c.args.at c.pins.k c.byte_at-octet.result c.div_ceil-count.result
      (c.args.at + 2 * (c.div_ceil-count.result - 1 - c.pins.k / 8)) pins c.bit_in.result text
      (c.div_ceil-count.ensures ∙ ap (λ m. div_ceil m 8) (c.len.ensures ∙ sym many)) lt refl c.byte_at-octet.ensures c.bit_in.ensures in
      subst (λ (read : Pins). (j : _) → j < c.pins.k + 1 → get_or read j false ≡ get_or pins j false) (sym c.set.ensures)
      (pins_more c.pins.read pins c.pins.k c.bit_in.result (omega (arith, lt, many, c.pins.invariant.0)) bit (c.pins.invariant.1 pins rest many text)),
)

pub returns-clause-right : goal.returns-clause-right
returns-clause-right c = λ pins rest many text.
    pins_all c.pins.read pins (length c.args.read.now) c.pins.invariant.0 many
    (λ j lt. c.pins.invariant.1 pins rest many text j (omega (arith, lt, c.pins-test.false, c.len-k-end.ensures)))
