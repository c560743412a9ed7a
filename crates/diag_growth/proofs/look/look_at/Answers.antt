use Rattle.diag_growth.proofs.Vocabulary.{◌∙◌, refl, sym, subst, arith, Shape, advances_itself, advances_then, more_itself, IsFieldOf, IsAt}
use Rattle.diag_growth.proofs.Vocabulary.{◌<◌, wires_of, AreLinksOf, IsInField, at_index, few_none, few_then, spends_none, spends_then, at_later}
use Rattle.diag_growth.proofs.{Growing.grown_next, Leaving.looks_next, Leaving.looks_all}
use Rattle.diag_growth.proofs.Stages.{grows_itself, grows_then, grown_on, longer, tried_none, tried_then}
use Rattle.diag_growth.proofs.Explained.{held}
use Rattle.diag_growth.proofs.look.look_at.Goals as goal

pub links_of-requires : goal.links_of-requires
links_of-requires g c = record {
  field = subst (λ (m : Shape). IsFieldOf m c.args.field.now) (sym c.shape.ensures) c.requires.field;
  wire = subst (λ (m : Shape). c.wire_at-wire.result.0 < wires_of m) (c.requires.known.shape ∙ sym c.shape.ensures) c.wire_at-wire.ensures.within;
}

pub returns-in_default-clause-grows : goal.returns-in_default-clause-grows
returns-in_default-clause-grows g c = grows_itself c.requires.known (more_itself c.args.facts.now) c.requires.all refl

pub returns-in_default-clause-spends : goal.returns-in_default-clause-spends
returns-in_default-clause-spends g c = spends_none refl refl

pub returns-in_default-clause-spends_each : goal.returns-in_default-clause-spends_each
returns-in_default-clause-spends_each g c = λ f e marks. few_none refl refl

pub links-init : goal.links-init
links-init g c = record {
  advances = advances_itself _ c.args.facts.now;
  grows = grows_itself c.requires.known (more_itself c.args.facts.now) c.requires.all refl;
  tried_each = λ f e marks. tried_none refl;
  marks = c.requires.marks;
  spends = spends_none refl refl;
  marks_each = λ f e marks. marks;
  spends_each = λ f e marks. few_none refl refl;
  also = λ f e marks i b less at. absurd (let no : ⊥ = omega (arith, less) in no);
}

pub look_over-requires-clause-field : goal.look_over-requires-clause-field
look_over-requires-clause-field g c = subst (λ (m : Shape). IsFieldOf m c.args.field.now) (sym c.links.invariant.advances.more.shape) c.requires.field

pub look_over-requires-clause-look : goal.look_over-requires-clause-look
look_over-requires-clause-look g c = record {
  at = subst (λ ss. IsAt ss c.args.place c.wire_at-wire.result.0) (sym c.links.invariant.grows.steps) (at_later c.links.invariant.grows.more c.wire_at-wire.ensures.at);
  link =
      let here = at_index c.in-Ok.links.items c.links.j c.index.result.now (let end = c.len-j-end.ensures in omega (arith, end)) c.index.ensures in
      subst (λ (m : Shape). IsInField m c.args.field.now c.index.result.now.cross.0 c.index.result.now.wire.0 c.wire_at-wire.result.0) (c.shape.ensures ∙ sym c.links.invariant.advances.more.shape) (c.in-Ok.ensures.right c.links.j c.index.result.now here);
}

pub returns-in_err-look_over-clause-grows : goal.returns-in_err-look_over-clause-grows
returns-in_err-look_over-clause-grows g c = grows_then c.links.invariant.grows c.look_over.ensures.grows

pub look_over-requires-clause-marks : goal.look_over-requires-clause-marks
look_over-requires-clause-marks g c = c.links.invariant.marks

pub returns-in_err-look_over-clause-spends : goal.returns-in_err-look_over-clause-spends
returns-in_err-look_over-clause-spends g c = spends_then c.links.invariant.advances.more c.links.invariant.spends c.look_over.ensures.spends

pub returns-in_err-look_over-clause-spends_each : goal.returns-in_err-look_over-clause-spends_each
returns-in_err-look_over-clause-spends_each g c =
    let old = c.links.invariant in
    λ f e marks. let before = c.look_over.ensures.advances.narrows f e in
    few_then old.advances.more (held old.advances before) (old.spends_each f before marks) (c.look_over.ensures.spends_each f e (old.marks_each f before marks))

pub links-preserved : goal.links-preserved
links-preserved g c =
    let old = c.links.invariant in
    let step = c.look_over.ensures.grows in
    let more = c.look_over.ensures.advances.more in
    let long = longer old.grows in
    record {
      advances = advances_then old.advances c.look_over.ensures.advances;
      grows = grows_then old.grows step;
      tried_each = λ f e marks. let before = c.look_over.ensures.advances.narrows f e in
          tried_then step.more step.steps more (old.tried_each f before marks) (c.in_ok-look_over.ensures.tried_each f e (old.marks_each f before marks));
      marks = c.look_over.ensures.marks;
      spends = spends_then old.advances.more old.spends c.look_over.ensures.spends;
      marks_each = λ f e marks. c.in_ok-look_over.ensures.marks_each f e (old.marks_each f (c.look_over.ensures.advances.narrows f e) marks);
      spends_each = λ f e marks. let before = c.look_over.ensures.advances.narrows f e in
          few_then old.advances.more (held old.advances before) (old.spends_each f before marks) (c.look_over.ensures.spends_each f e (old.marks_each f before marks));
      also = λ f e marks. let before = c.look_over.ensures.advances.narrows f e in
          looks_next c.args.place c.links.j c.in-Ok.links.items c.index.result.now more step (let low = c.requires.place in omega (arith, low, long)) (at_index c.in-Ok.links.items c.links.j c.index.result.now (let end = c.len-j-end.ensures in omega (arith, end)) c.index.ensures)
          (c.in_ok-look_over.ensures.looked_each f e (old.marks_each f before marks)) (old.also f before marks);
    }

pub returns-clause-grown_each : goal.returns-clause-grown_each
returns-clause-grown_each g c =
    let old = c.links.invariant in
    let of = subst (λ (m : Shape). AreLinksOf m c.args.field.now c.wire_at-wire.result.0 c.in-Ok.links.items) c.shape.ensures c.in-Ok.ensures in
    λ f e marks grown. grown_next (subst (λ ss. IsAt ss c.args.place c.wire_at-wire.result.0) (sym old.grows.steps) (at_later old.grows.more c.wire_at-wire.ensures.at))
    (looks_all c.args.place c.links.j of old.advances.more (let end = c.len-j-end.ensures in omega (arith, end)) (old.also f e marks)) (grown_on old.advances.more (let low = c.requires.place in omega (arith, low)) old.grows grown)

pub look_over-requires-clause-all : goal.look_over-requires-clause-all
look_over-requires-clause-all g c = c.links.invariant.grows.all
