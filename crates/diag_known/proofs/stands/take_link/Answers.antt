use Rattle.std.proofs.Common.{◌≢◌, ◌∙◌, refl, sym, rules}
use Rattle.diag_known.proofs.Grounding.{foot_to}
use Rattle.diag_known.proofs.Stood.{stood_ground, stood_founds, first_ground, first_founds, first_settled, second_stands}
use Rattle.diag_known.proofs.stands.take_link.Goals as goal

pub returns-in_default-clause-ground : goal.returns-in_default-clause-ground
returns-in_default-clause-ground c =
    first_ground c.requires.ground c.requires.wire c.index.ensures c.in_default.is (foot_to c.args.known.now _ refl refl c.requires.link (sym c.keeps_cross.ensures ∙ c.if-not-keeps_cross.false) c.requires.from) refl

pub returns-in_default-clause-founds : goal.returns-in_default-clause-founds
returns-in_default-clause-founds c =
    first_founds c.requires.ground c.requires.wire c.index.ensures c.in_default.is (foot_to c.args.known.now _ refl refl c.requires.link (sym c.keeps_cross.ensures ∙ c.if-not-keeps_cross.false) c.requires.from) refl

pub returns-in_default-clause-settled : goal.returns-in_default-clause-settled
returns-in_default-clause-settled c = λ kept.
    first_settled c.requires.ground c.requires.wire c.index.ensures c.in_default.is (foot_to c.args.known.now _ refl refl c.requires.link (sym c.keeps_cross.ensures ∙ c.if-not-keeps_cross.false) c.requires.from) refl

pub returns-clause-ground : goal.returns-clause-ground
returns-clause-ground c =
    let differ : c.in-Some.first.wire.0 ≢ c.args.from.0 = search rules in
    stood_ground c.requires.ground _ (sym c.has.ensures ∙ c.if-not-has.false) (second_stands c.requires.ground c.requires.wire c.index.ensures c.in-Some.is (foot_to c.args.known.now (record { cross = c.args.link.cross; wire = c.args.from }) refl refl c.requires.link (sym c.keeps_cross.ensures ∙ c.if-not-keeps_cross.false) c.requires.from) differ)
    c.learn.ensures.shape c.in_ok-learn.ensures.learnt c.remove.ensures

pub returns-clause-founds : goal.returns-clause-founds
returns-clause-founds c =
    let differ : c.in-Some.first.wire.0 ≢ c.args.from.0 = search rules in
    stood_founds c.requires.ground _ (sym c.has.ensures ∙ c.if-not-has.false) (second_stands c.requires.ground c.requires.wire c.index.ensures c.in-Some.is (foot_to c.args.known.now (record { cross = c.args.link.cross; wire = c.args.from }) refl refl c.requires.link (sym c.keeps_cross.ensures ∙ c.if-not-keeps_cross.false) c.requires.from) differ)
    c.learn.ensures.shape c.in_ok-learn.ensures.learnt c.remove.ensures
