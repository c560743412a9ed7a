use Rattle.diag_evidence.proofs.Vocabulary.{◌≡◌, ◌<◌, ◌∙◌, Some, arith, refl, true, subst, sym, ap, set, pins_of, pin_wire, Trees, IsForest, is_hung}
use Rattle.diag_evidence.proofs.{Growing.planted_forest, Growing.planted_same, Hung.marks_more}
use Rattle.diag_evidence.proofs.forest.Forest.plant.Goals as goal

pub invariant_of-self : goal.invariant_of-self
invariant_of-self c =
    let old : Trees = record { shape = c.self.inside.shape; pins = c.self.inside.pins.items; crosses = c.self.inside.crosses.items } in
    let below : c.args.pin < pins_of old.shape = subst (λ (t : Trees). c.args.pin < pins_of t.shape) (sym c.self.view_is) c.requires in (
      subst (λ w. IsForest (record { shape = c.self.inside.shape; pins = set c.self.inside.pins.items w (Some c.args.pin); crosses = c.self.inside.crosses.items })) (sym c.pin-wire.ensures.wire)
          (planted_forest old c.args.pin (c.the_numbering_is_sound.ensures.numbered old.shape) c.self.invariant.0 below),
      c.self.invariant.1,
      rw c.insert.ensures (marks_more c.self.inside.shape c.self.inside.pins.items c.self.inside.crosses.items c.self.inside.crosses.items c.self.inside.hung c.pin-wire.result.0 (Some c.args.pin) c.self.invariant.0.wires
          (let law = (c.the_numbering_is_sound.ensures.numbered old.shape).pins c.args.pin below in let e = c.pin-wire.ensures.wire in omega (arith, law, e)) refl c.self.invariant.2),
    )

pub returns-clause-same : goal.returns-clause-same
returns-clause-same c hung =
    let old : Trees = record { shape = c.self.inside.shape; pins = c.self.inside.pins.items; crosses = c.self.inside.crosses.items } in
    ap (λ w. record old { pins = set c.self.inside.pins.items w (Some c.args.pin) }) c.pin-wire.ensures.wire
    ∙ planted_same old c.args.pin (c.the_numbering_is_sound.ensures.numbered old.shape) c.self.invariant.0 (subst (λ (t : Trees). c.args.pin < pins_of t.shape) (sym c.self.view_is) c.requires)
    (subst (λ (t : Trees). is_hung t (pin_wire t.shape c.args.pin) ≡ true) (sym c.self.view_is) hung)
    ∙ c.self.view_is
