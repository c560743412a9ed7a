use Rattle.rig_port.proofs.Vocabulary.{◌∙◌, ◌++◌, [], ap, refl, arith, pins_of}
use Rattle.rig_port.proofs.Resumed.{linked_whole}
use Rattle.rig_port.proofs.resume.load_anew.Goals as goal

pub returns-clause-linked : goal.returns-clause-linked
returns-clause-linked c = λ device shape.
    linked_whole device c.args.link.now.set.config c.args.whole.now c.reserve.new.self.items _ _ _
    (c.reserve.ensures.items ∙ c.in_ok-extend_from_slice.ensures.items ∙ ap (λ l. l ++ c.args.whole.now) c.clear.ensures.items) refl refl shape c.requires.whole

pub returns-clause-room : goal.returns-clause-room
returns-clause-room c = record {
  line = λ _. let pins = c.pins-pins.ensures.pins ∙ ap pins_of c.shape.ensures.shape in omega (arith, c.reserve.ensures.len, c.in_ok-reserve.ensures.ok, c.room_for.ensures, pins);
  expected = c.requires.expected;
}
