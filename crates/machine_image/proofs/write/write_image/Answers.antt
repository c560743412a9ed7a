use Rattle.machine_image.proofs.Vocabulary.{[], ◌<◌, ◌≤◌, ◌++◌, All, length, subst, sym, ap, ◌∙◌, arith, flat_map, pins_of, most_ticks}
use Rattle.machine_image.proofs.Vocabulary.{high_limits, Configuration, two, tables_on, head_bytes, settings_bytes}
use Rattle.machine_image.proofs.Written.{both_put, image_written, few_pins_in, small_inputs, small_outputs}
use Rattle.machine_image.proofs.write.write_image.Goals as goal

pub overflow_cast-inputs : goal.overflow_cast-inputs
overflow_cast-inputs c =
    let i = c.args.image.now in
    let few : pins_of i.config.shape ≤ 16384 = subst (λ m. pins_of m ≤ 16384) (c.shape-shape.ensures.shape ∙ ap (λ g. g.shape) c.config-config.ensures.config) c.limits_of.ensures.pins in
    omega (arith, few_pins_in i c.config-config.ensures.right few, ap length c.inputs-inputs.ensures.pins)

pub overflow_cast-outputs : goal.overflow_cast-outputs
overflow_cast-outputs c =
    let i = c.args.image.now in
    let few : pins_of i.config.shape ≤ 16384 = subst (λ m. pins_of m ≤ 16384) (c.shape-shape.ensures.shape ∙ ap (λ g. g.shape) c.config-config.ensures.config) c.limits_of.ensures.pins in
    omega (arith, few_pins_in i c.config-config.ensures.right few, ap length c.outputs-outputs.ensures.pins)

pub put_pins-requires : goal.put_pins-requires
put_pins-requires c =
    let i = c.args.image.now in
    let few : pins_of i.config.shape ≤ 16384 = subst (λ m. pins_of m ≤ 16384) (c.shape-shape.ensures.shape ∙ ap (λ g. g.shape) c.config-config.ensures.config) c.limits_of.ensures.pins in
    subst (All (λ n. n < 65536)) (sym c.inputs-inputs.ensures.pins) (small_inputs i c.config-config.ensures.right few)

pub put_pins-requires-2 : goal.put_pins-requires-2
put_pins-requires-2 c =
    let i = c.args.image.now in
    let few : pins_of i.config.shape ≤ 16384 = subst (λ m. pins_of m ≤ 16384) (c.shape-shape.ensures.shape ∙ ap (λ g. g.shape) c.config-config.ensures.config) c.limits_of.ensures.pins in
    subst (All (λ n. n < 65536)) (sym c.outputs-outputs.ensures.pins) (small_outputs i c.config-config.ensures.right few)

pub put_settings-requires : goal.put_settings-requires
put_settings-requires c =
    let i = c.args.image.now in
    let few : most_ticks i.config.shape ≤ 65535 = (high_limits i.config.shape).ticks.1 in
    subst (λ (g : Configuration). length (tables_on g) < 65536) (sym c.config-config.ensures.config) (omega (arith, few, c.config-config.ensures.right.few_on))

pub returns : goal.returns
returns c =
    let i = c.args.image.now in
    let g = c.config-config.result.now.config in
    let m = c.shape-shape.result in
    let t = c.ticks-ticks.result in
    let ins = c.inputs-inputs.result.now in
    let outs = c.outputs-outputs.result.now in
    let end = c.put_settings.new.out.items in
    let head = head_bytes m t (length ins) (length outs) in
    image_written i g m t ins outs end
    c.config-config.ensures.config c.shape-shape.ensures.shape c.ticks-ticks.ensures c.inputs-inputs.ensures.pins c.outputs-outputs.ensures.pins
    (both_put [] c.put_head.new.out.items end head (flat_map two ins ++ (flat_map two outs ++ settings_bytes g)) (c.in_ok-put_head.ensures ∙ ap (λ r. r ++ head) c.new-out.ensures.items)
    (both_put c.put_head.new.out.items c.put_pins.new.out.items end (flat_map two ins) (flat_map two outs ++ settings_bytes g) c.in_ok-put_pins.ensures
    (both_put c.put_pins.new.out.items c.put_pins-2.new.out.items end (flat_map two outs) (settings_bytes g) c.in_ok-put_pins-2.ensures c.in_ok-put_settings.ensures)))
