use Rattle.run_image.proofs.Vocabulary.{◌∙◌, ap, arith, length, pins_of, Configuration}
use Rattle.cmd_steps.proofs.InputLemmas.{pins-few}
use Rattle.run_image.proofs.image.widths.Goals as goal

pub prove-unreachable-requires : goal.prove-unreachable-requires
prove-unreachable-requires c =
    let few = pins-few c.args.image.now c.inputs-inputs.ensures.right in
    let pins = c.pins-pins.ensures.pins ∙ (ap pins_of c.shape.ensures.shape ∙ ap (λ (g : Configuration). pins_of g.shape) c.config.ensures.config) in
    let size = ap length c.inputs-inputs.ensures.pins in
    omega (arith, few, pins, size, c.if-prove.true)

pub prove-unreachable-requires-2 : goal.prove-unreachable-requires-2
prove-unreachable-requires-2 c =
    let few = pins-few c.args.image.now c.inputs-inputs.ensures.right in
    let pins = c.pins-pins.ensures.pins ∙ (ap pins_of c.shape.ensures.shape ∙ ap (λ (g : Configuration). pins_of g.shape) c.config.ensures.config) in
    let size = ap length c.outputs-outputs.ensures.pins in
    omega (arith, few, pins, size, c.if-prove-2.true)
