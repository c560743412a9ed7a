use Rattle.rig_port.proofs.Vocabulary.{◌≡◌, ◌∙◌, ◌+◌, ◌*◌, ◌≤◌, ◌<◌, length, refl, sym, ap, arith, div_ceil, Pins, lengths_set}
use Rattle.rig_port.proofs.Taken.{any_default, read_next, rows_all, as_many}
use Rattle.rig_port.proofs.turn.read_all.Goals as goal

pub reads-preserved : goal.reads-preserved
reads-preserved c =
    let within : c.reads.k < length c.reads.reads = omega (arith, c.reads-test.true, c.reads.auto.reads) in (
      lengths_set c.args.reads.now c.reads.reads c.reads.k c.index-reads-k-in-reads.result c.read_pins.new.read within c.read_pins.ensures.length c.reads.invariant.0,
      λ k rows keep is.
          let near : c.reads.at ≤ length c.args.reply.now → c.min-begin.result + 1 ≡ c.reads.at + 1 = λ le. omega (arith, le, c.min-begin.ensures) in
          read_next k c.args.reads.now c.reads.reads rows c.args.reply.now c.reads.k c.reads.at (c.min-begin.result + 1) (c.min-begin.result + 1 + c.digits_of-digits.result) c.digits_of-digits.result
          c.index-reads-k-in-reads.result c.read_pins.new.read c.reads.invariant.0 keep within c.index-reads-k-in-reads.is near
          (c.digits_of-digits.ensures.digits ∙ ap (λ (r : Pins). 2 * div_ceil (length r) 8) (any_default c.reads.reads c.reads.k _ _ within ∙ sym c.index-reads-k-in-reads.is))
          (λ le. refl) (λ pins rest len text. c.read_pins.ensures.right pins rest (len ∙ ap length c.index-reads-k-in-reads.is) text) (c.reads.invariant.1 k rows keep is),
    )

pub returns-clause-right : goal.returns-clause-right
returns-clause-right c = λ k rows keep is.
    let many : length rows ≡ length c.args.reads.now = as_many rows c.args.reads.now keep in
    let same : length c.reads.reads ≡ length c.args.reads.now = as_many c.reads.reads c.args.reads.now c.reads.invariant.0 in
    rows_all c.reads.reads rows c.reads.k (omega (arith, same, c.reads-test.false)) (omega (arith, many, c.reads-test.false)) (c.reads.invariant.1 k rows keep is).0
