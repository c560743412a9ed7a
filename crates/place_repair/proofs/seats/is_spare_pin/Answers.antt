use Rattle.std.proofs.Common.{◌≡◌, false, get_or, sym, ap, ◌∙◌, subst}
use Rattle.place_repair.proofs.Vocabulary.{false≢true, not-true, not_from_false, Shape, pin_wire, IsFreeWire}
use Rattle.place_repair.proofs.{Sparing.unused_of, Sparing.of_unused, Using.not_true_and}
use Rattle.place_repair.proofs.seats.is_spare_pin.Goals as goal

pub returns-then-not-free_wire : goal.returns-then-not-free_wire
returns-then-not-free_wire c =
    let wire : c.pin-wire.result.0 ≡ pin_wire c.args.image.now.config.shape c.args.pin = c.pin-wire.ensures.wire ∙ ap (λ (m : Shape). pin_wire m c.args.pin) (c.shape.ensures.shape ∙ c.requires.shape) in
    (λ t. absurd (false≢true t), λ spare. absurd (not_true_and c.if-not-free_wire.true (c.free_wire.ensures.1 (subst (IsFreeWire c.args.defects.now.list) (sym wire) spare.free))))

pub returns : goal.returns
returns c =
    let i = c.args.image.now in
    let wire : c.pin-wire.result.0 ≡ pin_wire i.config.shape c.args.pin = c.pin-wire.ensures.wire ∙ ap (λ (m : Shape). pin_wire m c.args.pin) (c.shape.ensures.shape ∙ c.requires.shape) in (
      λ yes. record {
        within = c.requires.within;
        free = subst (IsFreeWire c.args.defects.now.list) wire (c.free_wire.ensures.0 c.if-not-free_wire.false);
        unused = unused_of i c.args.used.now c.requires.used (pin_wire i.config.shape c.args.pin) (ap (λ w. get_or c.args.used.now w false) (sym wire) ∙ not-true (get_or c.args.used.now c.pin-wire.result.0 false) yes);
      },
      λ spare. not_from_false (get_or c.args.used.now c.pin-wire.result.0 false) (ap (λ w. get_or c.args.used.now w false) wire ∙ of_unused i c.args.used.now c.requires.used (pin_wire i.config.shape c.args.pin) spare.unused),
    )
