use Rattle.std.proofs.Common.{◌≡◌, ◌+◌, ◌-◌, ◌*◌, ◌++◌, ◌∙◌, length, sym, ap, arith}
use Rattle.rig_port.proofs.Vocabulary.{div_ceil, encode_lower, octet_at, octets_below}
use Rattle.rig_port.proofs.Spelled.{octet_next, octets_none}
use Rattle.rig_port.proofs.spelling.put_pins.Goals as goal

pub octets-preserved : goal.octets-preserved
octets-preserved c = (
  ap (λ l. l ++ encode_lower (octets_below c.args.pins.now (c.div_ceil-count.result - (c.octets.k + 1)))) c.put_byte.ensures.spelled
      ∙ octet_next c.args.pins.now c.octets.line.items c.div_ceil-count.result c.octets.k c.octet.result c.octets-test.true
      (c.octet.ensures ∙ ap (λ n. octet_at c.args.pins.now (n * 8)) c.from.ensures)
      ∙ c.octets.invariant.0,
  omega (arith, c.put_byte.ensures.len, c.octets.invariant.1),
  omega (arith, c.put_byte.ensures.room, c.octets.invariant.2),
)

pub returns-clause-spelled : goal.returns-clause-spelled
returns-clause-spelled c =
    let none : c.div_ceil-count.result - c.octets.k ≡ 0 = omega (arith, c.octets-test.false) in
    let all : c.div_ceil-count.result ≡ div_ceil (length c.args.pins.now) 8 = c.div_ceil-count.ensures ∙ ap (λ m. div_ceil m 8) c.len.ensures in
    sym (ap (λ n. c.octets.line.items ++ encode_lower (octets_below c.args.pins.now n)) none ∙ octets_none c.octets.line.items)
    ∙ c.octets.invariant.0
    ∙ ap (λ n. c.args.line.now.items ++ encode_lower (octets_below c.args.pins.now n)) all
