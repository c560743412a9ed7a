use Rattle.diag_published.proofs.Vocabulary.{ap, ◌∙◌, pins_of, held}
use Rattle.diag_published.proofs.{Laid.if_ok, Laid.if_none, Trunking.at_most_six, Trunking.root_by, Trunking.unserved_by}
use Rattle.diag_published.proofs.pins.root_trunk.Goals as goal

pub returns-in_err-found-clause-loads_each : goal.returns-in_err-found-clause-loads_each
returns-in_err-found-clause-loads_each g c = λ f e. at_most_six _ _ _ _ _ c.two_at_most.ensures.few (c.in_err-found.ensures.loads_each f e)

pub returns-in-Some-clause-loads_each : goal.returns-in-Some-clause-loads_each
returns-in-Some-clause-loads_each g c = λ f e. at_most_six _ _ _ _ _ c.two_at_most.ensures.few (c.in_ok-found.ensures.loads_each f e)

pub returns-in-None-clause-loads_each : goal.returns-in-None-clause-loads_each
returns-in-None-clause-loads_each g c = λ f e. let before = c.try_pins-in-None.ensures.advances.narrows f e in
    root_by _ _ _ c.two_at_most.result c.pins-pins.result _ _ _ (held c.in_ok-found.ensures.advances before) c.two_at_most.ensures.few c.two_at_most.ensures.all
    (c.without_faults_all_is_sound.ensures.wires c.args.facts.now.shape) (rw c.in-None.is at (c.in_ok-found.ensures.none_each f before)) (c.in_ok-found.ensures.loads_each f before) (c.try_pins-in-None.ensures.loads_each f e)

pub returns-in-None-clause-none_each : goal.returns-in-None-clause-none_each
returns-in-None-clause-none_each g c = if_ok c.try_pins-in-None.result c.try_pins-in-None.ensures.none_each (λ found h f e. let before = c.try_pins-in-None.ensures.advances.narrows f e in
    if_none found (h f e) (unserved_by _ c.args.facts.now c.try_pins.new.facts c.pins-pins.result c.in_ok-found.ensures.advances.more.shape (held c.in_ok-found.ensures.advances before) (c.pins-pins.ensures.pins ∙ ap pins_of c.shape.ensures)))
