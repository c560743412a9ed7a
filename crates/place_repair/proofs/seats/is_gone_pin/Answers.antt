use Rattle.place_repair.proofs.Vocabulary.{◌≡◌, not, ap, ◌∙◌, pin_wire, is_free_wire}
use Rattle.place_repair.proofs.Taking.{free_tested}
use Rattle.place_repair.proofs.seats.is_gone_pin.Goals as goal

pub returns : goal.returns
returns c =
    let wire : c.pin.result.0 ≡ pin_wire c.args.defects.now.shape c.args.pin = c.pin.ensures.wire ∙ ap (λ m. pin_wire m c.args.pin) c.requires.shape in
    ap not (free_tested c.args.defects.now.list c.pin.result.0 c.free_wire.result c.free_wire.ensures ∙ ap (is_free_wire c.args.defects.now.list) wire)
