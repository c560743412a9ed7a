use Rattle.rig_port.proofs.Vocabulary.{◌∙◌, refl, ap, pins_of}
use Rattle.rig_port.proofs.Answered.{wanted_fits}
use Rattle.rig_port.proofs.rig_port.answer_spelled.Goals as goal

pub returns-in_err-left-clause-short : goal.returns-in_err-left-clause-short
returns-in_err-left-clause-short g c = λ k short.
    absurd (wanted_fits c.args.set.now.config.shape c.args.set.now.config.shape k c.args.wanted.now _ c.args.standing.room c.pins.result c.len.result refl c.requires.wanted refl
    (c.pins.ensures.pins ∙ ap pins_of c.shape-shape.ensures.shape) (c.len.ensures ∙ c.args.wanted.now.drives.ok.0) (c.has_room.ensures c.if-not-has_room.false) short)

pub returns-clause-short : goal.returns-clause-short
returns-clause-short g c = λ k short.
    absurd (wanted_fits c.args.set.now.config.shape c.args.set.now.config.shape k c.args.wanted.now _ c.args.standing.room c.pins.result c.len.result refl c.requires.wanted refl
    (c.pins.ensures.pins ∙ ap pins_of c.shape-shape.ensures.shape) (c.len.ensures ∙ c.args.wanted.now.drives.ok.0) (c.has_room.ensures c.if-not-has_room.false) short)

pub returns-clause-fits : goal.returns-clause-fits
returns-clause-fits g c = λ k short.
    wanted_fits c.args.set.now.config.shape c.args.set.now.config.shape k c.args.wanted.now _ c.args.standing.room c.pins.result c.len.result refl c.requires.wanted refl
    (c.pins.ensures.pins ∙ ap pins_of c.shape-shape.ensures.shape) (c.len.ensures ∙ c.args.wanted.now.drives.ok.0) (c.has_room.ensures c.if-not-has_room.false) short
