use Rattle.machine_image.proofs.Vocabulary.{sym, ◌∙◌, false≢true}
use Rattle.machine_image.proofs.Touching.{all_free, inputs_of_free, outputs_of_free, outputs_within}
use Rattle.machine_image.proofs.touch.touches_none.Goals as goal

pub returns-then-not-free_pins : goal.returns-then-not-free_pins
returns-then-not-free_pins c =
    let i = c.args.image.now in (
      λ t. absurd (false≢true t),
      λ free. sym c.if-not-free_pins.true ∙ c.free_pins.ensures.1 (inputs_of_free c.args.defects.now.list i c.args.defects.now.shape c.requires free c.inputs.result.now c.inputs.ensures.pins),
    )

pub free_pins-requires-2 : goal.free_pins-requires-2
free_pins-requires-2 c = outputs_within c.args.image.now c.outputs.ensures.right c.args.defects.now.shape c.requires c.outputs.result.now c.outputs.ensures.pins

pub returns : goal.returns
returns c =
    let i = c.args.image.now in
    let d = c.args.defects.now.list in (
      λ t. all_free d i (c.crosses_are_free.ensures.0 c.if-not-crosses_are_free.false) (c.tables_are_free.ensures.0 c.if-not-tables_are_free.false) c.args.defects.now.shape c.requires
          c.inputs.result.now c.outputs.result.now c.inputs.ensures.pins c.outputs.ensures.pins (c.free_pins.ensures.0 c.if-not-free_pins.false) (c.free_pins-2.ensures.0 t),
      λ free. c.free_pins-2.ensures.1 (outputs_of_free d i c.args.defects.now.shape c.requires free c.outputs.result.now c.outputs.ensures.pins),
    )
