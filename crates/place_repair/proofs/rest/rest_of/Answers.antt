use Rattle.std.proofs.Common.{◌≡◌, sym, ap, ◌∙◌, subst}
use Rattle.place_repair.proofs.Vocabulary.{Shape, wires_of, DefectList, no_defects, Configuration, AreSizedFor, IsWireRest}
use Rattle.place_repair.proofs.Resting.{rest_made}
use Rattle.place_repair.proofs.rest.rest_of.Goals as goal

pub list_wires-requires-clause-plan : goal.list_wires-requires-clause-plan
list_wires-requires-clause-plan c = subst (λ (g : Configuration). AreSizedFor g c.args.plan.now) (sym c.config.ensures.config) c.requires.plan

pub list_wires-requires-clause-shape : goal.list_wires-requires-clause-shape
list_wires-requires-clause-shape c = c.requires.shape ∙ ap (λ (g : Configuration). g.shape) (sym c.config.ensures.config)

pub list_wires-requires-clause-none : goal.list_wires-requires-clause-none
list_wires-requires-clause-none c =
    subst (λ (m : Shape). ◌≡◌ {A = DefectList} c.in_ok-rest.rest (record { shape = m; list = no_defects }))
    (c.shape.ensures.shape ∙ c.requires.shape ∙ ap (λ (g : Configuration). g.shape) (sym c.config.ensures.config)) c.in_ok-rest.ensures

pub list_crosses-requires : goal.list_crosses-requires
list_crosses-requires c = c.list_wires.ensures.shape ∙ ap (λ (g : Configuration). g.shape) c.config.ensures.config ∙ sym c.requires.shape

pub returns : goal.returns
returns c =
    let g = c.args.image.now.config in
    let d = c.args.defects.now in
    let wires : IsWireRest d.list g c.args.plan.now (wires_of g.shape) c.list_wires.new.rest = subst (λ (h : Configuration). IsWireRest d.list h c.args.plan.now (wires_of h.shape) c.list_wires.new.rest) c.config.ensures.config c.list_wires.ensures in
    rest_made d g (c.the_numbering_is_sound.ensures.numbered g.shape) c.config.ensures.right.config c.args.plan.now c.requires.plan.nets_are c.shape.ensures.kept c.requires.shape c.list_wires.new.rest c.list_crosses.new.rest wires c.list_crosses.ensures
