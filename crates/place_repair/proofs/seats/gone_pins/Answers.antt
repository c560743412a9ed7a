use Rattle.place_repair.proofs.Vocabulary.{◌++◌, ap, ◌∙◌, filter, is_gone_pin, inputs_within, outputs_within}
use Rattle.place_repair.proofs.Placing.{filter_both}
use Rattle.place_repair.proofs.seats.gone_pins.Goals as goal

pub push_gone-requires : goal.push_gone-requires
push_gone-requires c = inputs_within c.args.image.now c.inputs.ensures.right c.args.defects.now.shape c.requires c.inputs.result.now c.inputs.ensures.pins

pub push_gone-requires-2 : goal.push_gone-requires-2
push_gone-requires-2 c = outputs_within c.args.image.now c.outputs.ensures.right c.args.defects.now.shape c.requires c.outputs.result.now c.outputs.ensures.pins

pub returns : goal.returns
returns c =
    let test = is_gone_pin c.args.defects.now.shape c.args.defects.now.list in
    c.in_ok-push_gone-2.ensures ∙ (λ z. (c.in_ok-push_gone.ensures ∙ ap (λ xs. xs ++ filter test c.inputs.result.now) c.empty-gone.ensures) z ++ filter test c.outputs.result.now)
    ∙ (λ z. filter test (c.inputs.ensures.pins z) ++ filter test (c.outputs.ensures.pins z))
    ∙ filter_both test c.args.image.now.inputs c.args.image.now.outputs
