use Rattle.place_repair.proofs.Vocabulary.{◌≡◌, ◌<◌, All, length, refl, sym, ap, ◌∙◌, subst, pins_of, Configuration, ImageValue, IsImage}
use Rattle.place_repair.proofs.Vocabulary.{AreWiresOf, AreApart, AreSizedFor, IsDrawn, IsRedrawn, inputs_within, outputs_within}
use Rattle.place_repair.proofs.Redrawing.{moved_as, drawn_shape, places_within, places_apart, few_closed, few_on}
use Rattle.place_repair.proofs.repairing.redraw.Goals as goal

pub draw-requires-clause-plan : goal.draw-requires-clause-plan
draw-requires-clause-plan c = subst (λ (g : Configuration). AreSizedFor g c.args.plan.now) (sym c.config-old.ensures.config) c.requires.plan

pub draw-requires-clause-apart : goal.draw-requires-clause-apart
draw-requires-clause-apart c = subst (λ (g : Configuration). AreApart g c.args.plan.now) (sym c.config-old.ensures.config) c.requires.tables

pub draw-requires-clause-wires : goal.draw-requires-clause-wires
draw-requires-clause-wires c = subst (λ (g : Configuration). AreWiresOf g.shape c.args.layout.now.nets.items c.args.layout.now.ports.items c.args.layout.now.visits.items) (sym c.config-old.ensures.config) c.requires.wires

pub moved-requires : goal.moved-requires
moved-requires c =
    let i = c.args.image.now in
    let sized : length c.deref.result.now ≡ pins_of i.config.shape = ap length c.deref.ensures.value ∙ c.requires.plan.pins_sized in
    subst (λ n. All (λ p. p < n) c.inputs.result.now) (sym sized) (inputs_within i c.config-old.ensures.right i.config.shape refl c.inputs.result.now c.inputs.ensures.pins)

pub moved-requires-2 : goal.moved-requires-2
moved-requires-2 c =
    let i = c.args.image.now in
    let sized : length c.deref-2.result.now ≡ pins_of i.config.shape = ap length c.deref-2.ensures.value ∙ c.requires.plan.pins_sized in
    subst (λ n. All (λ p. p < n) c.outputs.result.now) (sym sized) (outputs_within i c.config-old.ensures.right i.config.shape refl c.outputs.result.now c.outputs.ensures.pins)

pub new-requires-clause-within : goal.new-requires-clause-within
new-requires-clause-within c =
    let p = c.args.plan.now in
    let shape = drawn_shape c.config-old.result.now.config p c.args.layout.now.nets.items c.args.layout.now.ports.items c.args.layout.now.visits.items c.in_ok-config.config.config c.in_ok-config.ensures ∙ ap (λ (g : Configuration). g.shape) c.config-old.ensures.config in
    places_within c.args.image.now p c.in_ok-inputs.inputs.items c.in_ok-outputs.outputs.items (moved_as c.deref.result.now c.args.plan.now.pins.items c.inputs.result.now c.args.image.now.inputs c.in_ok-inputs.inputs.items c.deref.ensures.value c.inputs.ensures.pins c.in_ok-inputs.ensures) (moved_as c.deref-2.result.now c.args.plan.now.pins.items c.outputs.result.now c.args.image.now.outputs c.in_ok-outputs.outputs.items c.deref-2.ensures.value c.outputs.ensures.pins c.in_ok-outputs.ensures) c.config-old.ensures.right c.requires.plan c.in_ok-config.config.config.shape shape

pub new-requires-clause-apart : goal.new-requires-clause-apart
new-requires-clause-apart c = places_apart c.args.image.now c.args.plan.now c.in_ok-inputs.inputs.items c.in_ok-outputs.outputs.items (moved_as c.deref.result.now c.args.plan.now.pins.items c.inputs.result.now c.args.image.now.inputs c.in_ok-inputs.inputs.items c.deref.ensures.value c.inputs.ensures.pins c.in_ok-inputs.ensures) (moved_as c.deref-2.result.now c.args.plan.now.pins.items c.outputs.result.now c.args.image.now.outputs c.in_ok-outputs.outputs.items c.deref-2.ensures.value c.outputs.ensures.pins c.in_ok-outputs.ensures) c.requires.pins

pub new-requires-clause-few : goal.new-requires-clause-few
new-requires-clause-few c =
    let i = c.args.image.now in
    let p = c.args.plan.now in
    let drawn : IsDrawn i.config p c.args.layout.now.nets.items c.args.layout.now.ports.items c.args.layout.now.visits.items c.in_ok-config.config.config = subst (λ (g : Configuration). IsDrawn g p c.args.layout.now.nets.items c.args.layout.now.ports.items c.args.layout.now.visits.items c.in_ok-config.config.config) c.config-old.ensures.config c.in_ok-config.ensures in
    few_closed i.config p c.args.layout.now.nets.items c.args.layout.now.ports.items c.args.layout.now.visits.items c.in_ok-config.config.config drawn c.requires.few

pub new-requires-clause-few_on : goal.new-requires-clause-few_on
new-requires-clause-few_on c =
    let i = c.args.image.now in
    let p = c.args.plan.now in
    let drawn : IsDrawn i.config p c.args.layout.now.nets.items c.args.layout.now.ports.items c.args.layout.now.visits.items c.in_ok-config.config.config = subst (λ (g : Configuration). IsDrawn g p c.args.layout.now.nets.items c.args.layout.now.ports.items c.args.layout.now.visits.items c.in_ok-config.config.config) c.config-old.ensures.config c.in_ok-config.ensures in
    few_on i.config p c.args.layout.now.nets.items c.args.layout.now.ports.items c.args.layout.now.visits.items c.in_ok-config.config.config drawn c.config-old.ensures.right.config c.config-old.ensures.right.few_on

pub returns : goal.returns
returns c =
    let i = c.args.image.now in
    let p = c.args.plan.now in
    let ins = moved_as c.deref.result.now c.args.plan.now.pins.items c.inputs.result.now c.args.image.now.inputs c.in_ok-inputs.inputs.items c.deref.ensures.value c.inputs.ensures.pins c.in_ok-inputs.ensures in
    let outs = moved_as c.deref-2.result.now c.args.plan.now.pins.items c.outputs.result.now c.args.image.now.outputs c.in_ok-outputs.outputs.items c.deref-2.ensures.value c.outputs.ensures.pins c.in_ok-outputs.ensures in
    let drawn : IsDrawn i.config p c.args.layout.now.nets.items c.args.layout.now.ports.items c.args.layout.now.visits.items c.in_ok-config.config.config = subst (λ (g : Configuration). IsDrawn g p c.args.layout.now.nets.items c.args.layout.now.ports.items c.args.layout.now.visits.items c.in_ok-config.config.config) c.config-old.ensures.config c.in_ok-config.ensures in
    subst (λ (v : ImageValue). IsRedrawn i p c.args.layout.now.nets.items c.args.layout.now.ports.items c.args.layout.now.visits.items v) (sym c.new.ensures.value)
    (record { right = subst IsImage c.new.ensures.value c.new.ensures.right; drawn = drawn; inputs = ins; outputs = outs })
