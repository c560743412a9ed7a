use Rattle.std.proofs.Common.{◌∙◌, ◌<◌, refl, sym, ap, subst, inl, arith}
use Rattle.diag_growth.proofs.Vocabulary.{has_number, Shape, wires_of, more_itself, all_still, before_has, on_ok_so, few_none, spends_none}
use Rattle.diag_growth.proofs.Leaving.{look_plain, all_later, joins_few, joins_spent, joins_barred, joins_offered}
use Rattle.diag_growth.proofs.Looking.{look_within, look_other, looked_barred, looked_known, not_earlier}
use Rattle.diag_growth.proofs.Stages.{grows_itself, tried_none}
use Rattle.diag_growth.proofs.look.look_over.Goals as goal

pub place_of-requires : goal.place_of-requires
place_of-requires g c = subst (λ (m : Shape). c.args.look.link.wire.0 < wires_of m) (sym c.requires.known.shape) (look_other c.requires.known (c.the_numbering_is_sound.ensures.numbered c.args.facts.now.shape) c.requires.look)

pub has-requires : goal.has-requires
has-requires g c = subst (λ n. c.args.look.link.wire.0 < n) (sym c.requires.marks.barred) (look_other c.requires.known (c.the_numbering_is_sound.ensures.numbered c.args.facts.now.shape) c.requires.look)

pub returns-then-has-clause-grows : goal.returns-then-has-clause-grows
returns-then-has-clause-grows g c = grows_itself c.requires.known (more_itself c.args.facts.now) c.requires.all refl

pub returns-then-has-clause-looked_each : goal.returns-then-has-clause-looked_each
returns-then-has-clause-looked_each g c = λ f e marks. looked_barred (λ before. c.in_default.ensures.unknown (before_has before)) (sym c.has.ensures ∙ c.if-has.true)

pub returns-then-other-look-clause-grows : goal.returns-then-other-look-clause-grows
returns-then-other-look-clause-grows g c = grows_itself c.requires.known (more_itself c.args.facts.now) c.requires.all refl

pub returns-then-other-look-clause-looked_each : goal.returns-then-other-look-clause-looked_each
returns-then-other-look-clause-looked_each g c =
    λ f e marks. looked_known (record { place = c.in-Some.other; at = c.in-Some.ensures.known }) (λ before. absurd (not_earlier c.requires.known c.in-Some.ensures.known (omega arith) before))

pub look_known-requires-clause-look : goal.look_known-requires-clause-look
look_known-requires-clause-look g c = look_plain c.requires.known (c.the_numbering_is_sound.ensures.numbered c.args.facts.now.shape) c.requires.look

pub look_known-requires-clause-other : goal.look_known-requires-clause-other
look_known-requires-clause-other g c = record { place = c.in-Some.other; early = omega arith; at = c.in-Some.ensures.known }

pub returns-clause-grows : goal.returns-clause-grows
returns-clause-grows g c = grows_itself c.requires.known c.look_known.ensures.advances.more (all_still c.args.facts.now c.look_known.new.facts c.look_known.ensures.trial.apart c.requires.all) (joins_barred c.look_known.ensures.joins)

pub returns-clause-tried_each : goal.returns-clause-tried_each
returns-clause-tried_each g c = on_ok_so c.look_known.result c.look_known.ensures.kept_each (λ kept f e marks. tried_none (joins_barred c.look_known.ensures.joins))

pub returns-clause-looked_each : goal.returns-clause-looked_each
returns-clause-looked_each g c = on_ok_so c.look_known.result c.look_known.ensures.kept_each (λ kept f e marks. looked_known (record { place = c.in-Some.other; at = c.in-Some.ensures.known }) (λ before. kept f e marks.are))

pub returns-clause-marks_each : goal.returns-clause-marks_each
returns-clause-marks_each g c =
    let more = c.look_known.ensures.advances.more in
    on_ok_so c.look_known.result c.look_known.ensures.marks_each (λ each f e marks. all_later more (grows_itself c.requires.known more (all_still c.args.facts.now c.look_known.new.facts c.look_known.ensures.trial.apart c.requires.all) (joins_barred c.look_known.ensures.joins)) marks (each f e marks.are)
    (λ x on. inl (ap (λ bits. has_number bits x) (sym (joins_offered c.look_known.ensures.joins)) ∙ on)))

pub returns-clause-spends_each : goal.returns-clause-spends_each
returns-clause-spends_each g c =
    λ f e marks. joins_few marks.are (look_within c.requires.known (c.the_numbering_is_sound.ensures.numbered c.args.facts.now.shape) c.requires.look) c.look_known.ensures.joins

pub returns-then-has-clause-tried_each : goal.returns-then-has-clause-tried_each
returns-then-has-clause-tried_each g c = λ f e marks. tried_none refl

pub returns-then-has-clause-spends_each : goal.returns-then-has-clause-spends_each
returns-then-has-clause-spends_each g c = λ f e marks. few_none refl refl

pub returns-then-other-look-clause-tried_each : goal.returns-then-other-look-clause-tried_each
returns-then-other-look-clause-tried_each g c = λ f e marks. tried_none refl

pub returns-then-other-look-clause-spends_each : goal.returns-then-other-look-clause-spends_each
returns-then-other-look-clause-spends_each g c = λ f e marks. few_none refl refl

pub returns-then-has-clause-spends : goal.returns-then-has-clause-spends
returns-then-has-clause-spends g c = spends_none refl refl

pub returns-then-other-look-clause-spends : goal.returns-then-other-look-clause-spends
returns-then-other-look-clause-spends g c = spends_none refl refl

pub returns-clause-spends : goal.returns-clause-spends
returns-clause-spends g c =
    joins_spent c.args.field.now c.requires.marks (look_within c.requires.known (c.the_numbering_is_sound.ensures.numbered c.args.facts.now.shape) c.requires.look)
    c.requires.look.link.has c.look_known.ensures.joins
