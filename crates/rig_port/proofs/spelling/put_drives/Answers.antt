use Rattle.rig_port.proofs.Vocabulary.{◌∙◌, ◌+◌, ◌++◌, ◌∷◌, [], length, ap, arith, append_assoc, gap, pin_text}
use Rattle.rig_port.proofs.{Room.one_word, Room.words_within, Spelled.word_next}
use Rattle.rig_port.proofs.spelling.put_drives.Goals as goal

pub put_gap-requires : goal.put_gap-requires
put_gap-requires c =
    let more = one_word c.args.drives.now c.drives.k [] c.drives-test.true in
    let within = words_within c.args.drives.now (c.drives.k + 1) in
    omega (arith, more, within, c.drives.invariant.1, c.drives.invariant.2, c.requires)

pub push_reserved-requires : goal.push_reserved-requires
push_reserved-requires c =
    let more = one_word c.args.drives.now c.drives.k [] c.drives-test.true in
    let within = words_within c.args.drives.now (c.drives.k + 1) in
    omega (arith, more, within, c.drives.invariant.1, c.drives.invariant.2, c.requires, c.put_gap.ensures.len, c.put_gap.ensures.room)

pub put_pins-requires : goal.put_pins-requires
put_pins-requires c =
    let more = one_word c.args.drives.now c.drives.k c.index-drives-k.result c.drives-test.true in
    let within = words_within c.args.drives.now (c.drives.k + 1) in
    let same = ap length c.index-drives-k.is in
    omega (
      arith,
      more,
      within,
      same,
      c.drives.invariant.1,
      c.drives.invariant.2,
      c.requires,
      c.put_gap.ensures.len,
      c.put_gap.ensures.room,
      c.push_reserved.ensures.len,
      c.push_reserved.ensures.capacity,
    )

pub drives-preserved : goal.drives-preserved
drives-preserved c =
    let row = c.index-drives-k.result in
    let more = one_word c.args.drives.now c.drives.k row c.drives-test.true in
    let same = ap length c.index-drives-k.is in (
      c.put_pins.ensures.spelled ∙ ap (λ l. l ++ pin_text row) (c.push_reserved.ensures.items ∙ ap (λ l. l ++ 100 ∷ []) c.put_gap.ensures.spelled)
          ∙ append_assoc (c.drives.line.items ++ gap c.drives.k) (100 ∷ []) (pin_text row)
          ∙ word_next (λ pins. 100 ∷ [] ++ pin_text pins) c.args.drives.now c.drives.k row row c.args.line.now.items c.drives.line.items c.drives-test.true
          c.index-drives-k.is c.drives.invariant.0,
      omega (arith, more, same, c.drives.invariant.1, c.put_gap.ensures.len, c.push_reserved.ensures.len, c.put_pins.ensures.len),
      omega (arith, c.drives.invariant.2, c.put_gap.ensures.room, c.push_reserved.ensures.capacity, c.put_pins.ensures.room),
    )
