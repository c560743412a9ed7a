use Rattle.diag_growth.proofs.Vocabulary.{◌≡◌, length, refl, sym, ap, subst, arith, Shape, wires_of, advances_itself, advances_then}
use Rattle.diag_growth.proofs.Vocabulary.{more_itself, IsFieldOf, few_none, few_then, spends_none, spends_then}
use Rattle.diag_growth.proofs.Circling.{grown_at}
use Rattle.diag_growth.proofs.{Stages.grows_itself, Stages.grows_then, Stages.longer, Stages.tried_none, Stages.tried_then, Explained.held}
use Rattle.diag_growth.proofs.rounds.look_on.Goals as goal

pub places-init : goal.places-init
places-init g c = record {
  advances = advances_itself _ c.args.facts.now;
  grows = grows_itself c.requires.known (more_itself c.args.facts.now) c.requires.all refl;
  tried_each = λ f e marks. tried_none refl;
  marks = c.requires.marks;
  spends = spends_none refl refl;
  marks_each = λ f e marks. marks;
  spends_each = λ f e marks. few_none refl refl;
  also = (c.requires.from, λ f e marks grown. grown);
}

pub look_at-requires-clause-field : goal.look_at-requires-clause-field
look_at-requires-clause-field g c = subst (λ (m : Shape). IsFieldOf m c.args.field.now) (sym c.places.invariant.advances.more.shape) c.requires.field

pub returns-in_err-look_at-clause-grows : goal.returns-in_err-look_at-clause-grows
returns-in_err-look_at-clause-grows g c = grows_then c.places.invariant.grows c.look_at.ensures.grows

pub look_at-requires-clause-marks : goal.look_at-requires-clause-marks
look_at-requires-clause-marks g c = c.places.invariant.marks

pub returns-in_err-look_at-clause-spends : goal.returns-in_err-look_at-clause-spends
returns-in_err-look_at-clause-spends g c = spends_then c.places.invariant.advances.more c.places.invariant.spends c.look_at.ensures.spends

pub returns-in_err-look_at-clause-spends_each : goal.returns-in_err-look_at-clause-spends_each
returns-in_err-look_at-clause-spends_each g c =
    let old = c.places.invariant in
    λ f e marks. let before = c.look_at.ensures.advances.narrows f e in
    few_then old.advances.more (held old.advances before) (old.spends_each f before marks) (c.look_at.ensures.spends_each f e (old.marks_each f before marks))

pub places-smaller : goal.places-smaller
places-smaller g c =
    let few = c.len.ensures.few in
    let same = ap wires_of (c.places.invariant.grows.known.shape) in
    let shape = ap wires_of c.look_at.ensures.advances.more.shape in
    omega (arith, few, same, shape)

pub places-preserved : goal.places-preserved
places-preserved g c =
    let old = c.places.invariant in
    let step = c.look_at.ensures.grows in
    let more = c.look_at.ensures.advances.more in
    let long = longer step in
    let len = c.len.ensures.len in
    record {
      advances = advances_then old.advances c.look_at.ensures.advances;
      grows = grows_then old.grows step;
      tried_each = λ f e marks. let before = c.look_at.ensures.advances.narrows f e in
          tried_then step.more step.steps more (old.tried_each f before marks) (c.in_ok-look_at.ensures.tried_each f e (old.marks_each f before marks));
      marks = c.look_at.ensures.marks;
      spends = spends_then old.advances.more old.spends c.look_at.ensures.spends;
      marks_each = λ f e marks. c.in_ok-look_at.ensures.marks_each f e (old.marks_each f (c.look_at.ensures.advances.narrows f e) marks);
      spends_each = λ f e marks. let before = c.look_at.ensures.advances.narrows f e in
          few_then old.advances.more (held old.advances before) (old.spends_each f before marks) (c.look_at.ensures.spends_each f e (old.marks_each f before marks));
      also = (
        omega (arith, long, len),
        λ f e marks grown. let before = c.look_at.ensures.advances.narrows f e in c.in_ok-look_at.ensures.grown_each f e (old.marks_each f before marks) (old.also.1 f before marks grown),
      );
    }

pub returns-clause-grown_each : goal.returns-clause-grown_each
returns-clause-grown_each g c =
    let old = c.places.invariant in
    let end : c.places.place ≡ length c.places.known.steps = (let within = old.also.0 in let len = c.len.ensures.len in omega (arith, within, len)) in
    λ f e marks grown. grown_at end (old.also.1 f e marks grown)
