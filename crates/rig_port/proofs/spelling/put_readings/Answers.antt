use Rattle.rig_port.proofs.Vocabulary.{◌∙◌, ◌+◌, ◌++◌, ◌∷◌, [], length, ap, arith, pin_text}
use Rattle.rig_port.proofs.{Room.one_word, Room.words_within, Spelled.word_next}
use Rattle.rig_port.proofs.spelling.put_readings.Goals as goal

pub put_gap-requires : goal.put_gap-requires
put_gap-requires c =
    let more = one_word c.args.reads.now c.reads.k [] c.reads-test.true in
    let within = words_within c.args.reads.now (c.reads.k + 1) in
    omega (arith, more, within, c.reads.invariant.1, c.reads.invariant.2, c.requires.room)

pub put_pins-requires : goal.put_pins-requires
put_pins-requires c =
    let more = one_word c.args.reads.now c.reads.k c.index-reads-k.result c.reads-test.true in
    let within = words_within c.args.reads.now (c.reads.k + 1) in
    let same = ap length c.index-reads-k.is in
    omega (arith, more, within, same, c.reads.invariant.1, c.reads.invariant.2, c.requires.room, c.put_gap.ensures.len, c.put_gap.ensures.room)

pub reads-preserved : goal.reads-preserved
reads-preserved c =
    let row = c.index-reads-k.result in
    let more = one_word c.args.reads.now c.reads.k row c.reads-test.true in
    let same = ap length c.index-reads-k.is in (
      c.put_pins.ensures.spelled ∙ ap (λ l. l ++ pin_text row) c.put_gap.ensures.spelled
          ∙ word_next pin_text c.args.reads.now c.reads.k row row (61 ∷ []) c.reads.line.items c.reads-test.true c.index-reads-k.is c.reads.invariant.0,
      omega (arith, more, same, c.reads.invariant.1, c.put_gap.ensures.len, c.put_pins.ensures.len),
      omega (arith, c.reads.invariant.2, c.put_gap.ensures.room, c.put_pins.ensures.room),
    )

pub put_check-requires : goal.put_check-requires
put_check-requires c =
    let within = words_within c.args.reads.now c.reads.k in
    omega (arith, within, c.reads.invariant.1, c.reads.invariant.2, c.requires.room)
