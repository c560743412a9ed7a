use Rattle.diag_growth.proofs.Vocabulary.{◌∙◌, ◌<◌, sym, subst, inr, arith, IsBefore, marks_between, on_ok_so, over_between, over_later}
use Rattle.diag_growth.proofs.Looking.{kept_already, not_earlier}
use Rattle.diag_growth.proofs.look.look_known.Goals as goal

pub returns-then-keeps_cross-clause-kept_each : goal.returns-then-keeps_cross-clause-kept_each
returns-then-keeps_cross-clause-kept_each g c = λ f e marks. kept_already (sym c.keeps_cross.ensures ∙ c.if-keeps_cross.true)

pub returns-then-has-clause-kept_each : goal.returns-then-has-clause-kept_each
returns-then-has-clause-kept_each g c = λ f e marks. marks.joined c.args.look.link.cross.0 (sym c.has.ensures ∙ c.if-has.true)

pub has-requires : goal.has-requires
has-requires g c = subst (λ n. c.args.look.link.cross.0 < n) (sym c.requires.marks.between) c.requires.look.within

pub put_between-requires : goal.put_between-requires
put_between-requires g c = subst (λ n. c.args.look.link.cross.0 < n) (sym c.requires.marks.between) c.requires.look.within

pub toggle_known-requires-clause-differ : goal.toggle_known-requires-clause-differ
toggle_known-requires-clause-differ g c = λ same. not_earlier c.requires.known {i = c.args.look.place} {place = c.args.look.place} c.requires.look.at (omega arith) (subst (IsBefore c.args.known.now.steps c.args.look.place) same c.requires.other)

pub returns-clause-marks_each : goal.returns-clause-marks_each
returns-clause-marks_each g c = on_ok_so c.toggle_known.result c.toggle_known.ensures.kept_each
    (λ kept f e marks. marks_between c.args.look.link.cross.0 marks c.toggle_known.ensures.advances.more (λ h is none holds. (kept f e).at h is holds (none.crosses c.args.look.link.cross.0)) c.requires.look.within c.put_between.ensures (kept f e))

pub returns-clause-joins : goal.returns-clause-joins
returns-clause-joins g c = inr (record { fresh = sym c.keeps_cross.ensures ∙ c.if-keeps_cross.false; unmarked = sym c.has.ensures ∙ c.if-has.false; marks = c.put_between.ensures; loads = c.toggle_known.ensures.loads })

pub returns-clause-kept_each : goal.returns-clause-kept_each
returns-clause-kept_each g c = on_ok_so c.toggle_known.result c.toggle_known.ensures.kept_each (λ kept f e marks. kept f e)

pub returns-clause-marks : goal.returns-clause-marks
returns-clause-marks g c = over_later c.toggle_known.ensures.advances.more (over_between c.args.look.link.cross.0 c.requires.marks c.put_between.ensures)
