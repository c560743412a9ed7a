use Rattle.std.proofs.lemmas.Result.{err_from_is_err_and}
use Rattle.diag_growth.proofs.Vocabulary.{◌∙◌, ap, IfOk-weaker, Kept, advances_then, begun_apart, known_later, ways_later}
use Rattle.diag_growth.proofs.Parting.{apart_later, end_on, parted_both}
use Rattle.diag_growth.proofs.Explained.{attached_later, has_begun, rose_then}
use Rattle.diag_growth.proofs.parts.is_good.Goals as goal

pub begin-requires : goal.begin-requires
begin-requires g c = let way = (ways_later c.test_stuck.ensures.advances.more c.requires.ways).first in way.route.wires c.args.w.0 (end_on way)

pub part-requires-clause-attached : goal.part-requires-clause-attached
part-requires-clause-attached g c = attached_later (has_begun c.test_stuck.ensures.advances c.begin.ensures.more c.begin.ensures.explained) c.requires.attached

pub part-requires-clause-tried : goal.part-requires-clause-tried
part-requires-clause-tried g c = ap (λ (k : Kept). k.trial) c.begin.ensures.begun

pub part-requires-clause-known : goal.part-requires-clause-known
part-requires-clause-known g c = known_later c.begin.ensures.more (known_later c.test_stuck.ensures.advances.more c.requires.known)

pub part-requires-clause-way : goal.part-requires-clause-way
part-requires-clause-way g c = (ways_later c.begin.ensures.more (ways_later c.test_stuck.ensures.advances.more c.requires.ways)).first

pub part-requires-2-clause-attached : goal.part-requires-2-clause-attached
part-requires-2-clause-attached g c = attached_later (advances_then (has_begun c.test_stuck.ensures.advances c.begin.ensures.more c.begin.ensures.explained) c.part.ensures.advances) c.requires.attached

pub part-requires-2-clause-tried : goal.part-requires-2-clause-tried
part-requires-2-clause-tried g c = c.part.ensures.trial.trial ∙ ap (λ (k : Kept). k.trial) c.begin.ensures.begun

pub part-requires-2-clause-known : goal.part-requires-2-clause-known
part-requires-2-clause-known g c = known_later c.part.ensures.advances.more (known_later c.begin.ensures.more (known_later c.test_stuck.ensures.advances.more c.requires.known))

pub part-requires-2-clause-way : goal.part-requires-2-clause-way
part-requires-2-clause-way g c = (ways_later c.part.ensures.advances.more (ways_later c.begin.ensures.more (ways_later c.test_stuck.ensures.advances.more c.requires.ways))).second

pub returns-then-not-apart-clause-bad_each : goal.returns-then-not-apart-clause-bad_each
returns-then-not-apart-clause-bad_each g c = λ f e is_no. c.in_ok-apart.ensures.bad_each f e c.if-not-apart.true

pub returns-clause-good : goal.returns-clause-good
returns-clause-good g c = IfOk-weaker c.part-2.result _ _ (λ yes apart. λ is_yes.
    let begun = ap (λ (k : Kept). k.trial) c.begin.ensures.begun in
    parted_both c.requires.known c.requires.all c.requires.new c.requires.ways (λ u. c.part-2.ensures.trial.apart u ∙ c.part.ensures.trial.apart u ∙ begun_apart _ c.begin.ensures.begun u ∙ c.test_stuck.ensures.trial.apart u)
    (c.part-2.ensures.trial.trial ∙ c.part.ensures.trial.trial ∙ begun)
    (c.part-2.ensures.advances.more.wires c.args.w.0 (c.part.ensures.advances.more.wires c.args.w.0 (c.begin.ensures.more.wires c.args.w.0 (c.in_ok-kept.ensures.kept c.if-not-kept.false))))
    (apart_later c.part-2.ensures.trial (c.in_ok-apart.ensures.apart c.if-not-apart.false)) (apart is_yes)) c.part-2.ensures.apart

pub returns-in_err-apart-clause-set : goal.returns-in_err-apart-clause-set
returns-in_err-apart-clause-set g c = λ u. c.part.ensures.trial.apart u ∙ begun_apart _ c.begin.ensures.begun u ∙ c.test_stuck.ensures.trial.apart u

pub returns-then-not-apart-clause-set : goal.returns-then-not-apart-clause-set
returns-then-not-apart-clause-set g c = λ u. c.part.ensures.trial.apart u ∙ begun_apart _ c.begin.ensures.begun u ∙ c.test_stuck.ensures.trial.apart u

pub returns-clause-set : goal.returns-clause-set
returns-clause-set g c = λ u. c.part-2.ensures.trial.apart u ∙ c.part.ensures.trial.apart u ∙ begun_apart _ c.begin.ensures.begun u ∙ c.test_stuck.ensures.trial.apart u

pub returns-in_err-kept-clause-set : goal.returns-in_err-kept-clause-set
returns-in_err-kept-clause-set g c = c.test_stuck.ensures.trial.apart

pub returns-in_err-kept-clause-advances : goal.returns-in_err-kept-clause-advances
returns-in_err-kept-clause-advances g c = c.test_stuck.ensures.advances

pub returns-then-not-kept-clause-set : goal.returns-then-not-kept-clause-set
returns-then-not-kept-clause-set g c = c.test_stuck.ensures.trial.apart

pub returns-then-not-kept-clause-advances : goal.returns-then-not-kept-clause-advances
returns-then-not-kept-clause-advances g c = c.test_stuck.ensures.advances

pub returns-in_err-apart-clause-advances : goal.returns-in_err-apart-clause-advances
returns-in_err-apart-clause-advances g c = advances_then (has_begun c.test_stuck.ensures.advances c.begin.ensures.more c.begin.ensures.explained) c.part.ensures.advances

pub returns-in_err-apart-clause-cause : goal.returns-in_err-apart-clause-cause
returns-in_err-apart-clause-cause g c =
    let p = err_from_is_err_and c.from_residual-in_err-apart.result c.from_residual-in_err-apart.ensures.1 in
    rw (p.1, p.2) (λ is. rose_then c.test_stuck.ensures.advances (c.in_err-apart.ensures.cause is))

pub returns-then-not-apart-clause-advances : goal.returns-then-not-apart-clause-advances
returns-then-not-apart-clause-advances g c = advances_then (has_begun c.test_stuck.ensures.advances c.begin.ensures.more c.begin.ensures.explained) c.part.ensures.advances

pub returns-clause-advances : goal.returns-clause-advances
returns-clause-advances g c = advances_then (advances_then (has_begun c.test_stuck.ensures.advances c.begin.ensures.more c.begin.ensures.explained) c.part.ensures.advances) c.part-2.ensures.advances

pub returns-clause-cause : goal.returns-clause-cause
returns-clause-cause g c = λ is. rose_then (advances_then (has_begun c.test_stuck.ensures.advances c.begin.ensures.more c.begin.ensures.explained) c.part.ensures.advances) (c.part-2.ensures.cause is)
