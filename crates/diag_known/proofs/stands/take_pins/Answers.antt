use Rattle.diag_known.proofs.Vocabulary.{◌≡◌, ◌∙◌, false, ap, arith, has_number, pin_wire, pins_of}
use Rattle.diag_known.proofs.{Grounding.founds_none, Grounding.founds_then, Grounding.out_still, Places.one_more}
use Rattle.diag_known.proofs.stands.take_pins.Goals as goal

pub pins-init : goal.pins-init
pins-init c = record {
  ground = c.requires.ground;
  founds = founds_none;
  taken = λ i less. absurd (let no : ⊥ = omega (arith, less) in no);
}

pub pins-preserved : goal.pins-preserved
pins-preserved c =
    let old = c.pins.invariant in
    let founds = c.in_ok-take_pin.ensures.founds in
    record {
      ground = c.in_ok-take_pin.ensures.ground;
      founds = founds_then old.founds founds;
      taken = one_more (λ i. has_number c.take_pin.new.left (pin_wire c.args.facts.now.shape i) ≡ false) c.pins.pin
          (λ i less. out_still founds (pin_wire c.args.facts.now.shape i) (old.taken i less)) c.in_ok-take_pin.ensures.taken;
    }

pub returns-clause-taken : goal.returns-clause-taken
returns-clause-taken c = λ i less.
    let end : c.pins-pin-end.result ≡ pins_of c.args.facts.now.shape = c.pins-pin-end.ensures.pins ∙ ap pins_of c.shape.ensures in
    c.pins.invariant.taken i (let t = c.pins-test.false in omega (arith, less, t, end))
