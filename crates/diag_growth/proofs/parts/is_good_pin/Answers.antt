use Rattle.std.proofs.Common.{◌<◌, ◌∙◌, ℕ, refl, sym, ap, subst}
use Rattle.diag_growth.proofs.Explained.{attached_later, has_begun, rose_then}
use Rattle.diag_growth.proofs.Vocabulary.{advances_itself, advances_then, IfOk-weaker, Shape, pins_of, AreWays, known_later, ways_later, Kept, begun_apart}
use Rattle.diag_growth.proofs.Parting.{end_on, parted_both}
use Rattle.diag_growth.proofs.parts.is_good_pin.Goals as goal

pub way_at-requires : goal.way_at-requires
way_at-requires g c = subst (λ (m : Shape). c.args.pin < pins_of m) (sym c.requires.known.shape) c.requires.pin

pub test_stuck-requires-clause-way : goal.test_stuck-requires-clause-way
test_stuck-requires-clause-way g c = (subst (λ (u : ℕ). AreWays c.args.facts.now c.args.known.now.steps u c.in-Ok.way c.in-Ok.way) (sym c.requires.wire) (c.in-Ok.ensures c.args.facts.now (sym c.requires.known.shape))).first

pub begin-requires : goal.begin-requires
begin-requires g c =
    let way = (ways_later c.test_stuck.ensures.advances.more (subst (λ (u : ℕ). AreWays c.args.facts.now c.args.known.now.steps u c.in-Ok.way c.in-Ok.way) (sym c.requires.wire) (c.in-Ok.ensures c.args.facts.now (sym c.requires.known.shape)))).first in
    way.route.wires c.args.w.0 (end_on way)

pub part-requires-clause-known : goal.part-requires-clause-known
part-requires-clause-known g c = known_later c.begin.ensures.more (known_later c.test_stuck.ensures.advances.more c.requires.known)

pub part-requires-clause-way : goal.part-requires-clause-way
part-requires-clause-way g c = (ways_later c.begin.ensures.more (ways_later c.test_stuck.ensures.advances.more (subst (λ (u : ℕ). AreWays c.args.facts.now c.args.known.now.steps u c.in-Ok.way c.in-Ok.way) (sym c.requires.wire) (c.in-Ok.ensures c.args.facts.now (sym c.requires.known.shape))))).first

pub returns-clause-good : goal.returns-clause-good
returns-clause-good g c = IfOk-weaker c.part.result _ _ (λ yes apart. λ is_yes.
    let begun = ap (λ (k : Kept). k.trial) c.begin.ensures.begun in
    parted_both c.requires.known c.requires.all c.requires.new (subst (λ (u : ℕ). AreWays c.args.facts.now c.args.known.now.steps u c.in-Ok.way c.in-Ok.way) (sym c.requires.wire) (c.in-Ok.ensures c.args.facts.now (sym c.requires.known.shape)))
    (λ u. c.part.ensures.trial.apart u ∙ begun_apart _ c.begin.ensures.begun u ∙ c.test_stuck.ensures.trial.apart u) (c.part.ensures.trial.trial ∙ begun)
    (c.part.ensures.advances.more.wires c.args.w.0 (c.begin.ensures.more.wires c.args.w.0 (c.in_ok-kept.ensures.kept c.if-not-kept.false))) (apart is_yes) (apart is_yes)) c.part.ensures.apart

pub returns-clause-set : goal.returns-clause-set
returns-clause-set g c = λ u. c.part.ensures.trial.apart u ∙ begun_apart _ c.begin.ensures.begun u ∙ c.test_stuck.ensures.trial.apart u

pub part-requires-clause-attached : goal.part-requires-clause-attached
part-requires-clause-attached g c = attached_later (has_begun c.test_stuck.ensures.advances c.begin.ensures.more c.begin.ensures.explained) c.requires.attached

pub part-requires-clause-tried : goal.part-requires-clause-tried
part-requires-clause-tried g c = ap (λ (k : Kept). k.trial) c.begin.ensures.begun

pub returns-in_default-clause-advances : goal.returns-in_default-clause-advances
returns-in_default-clause-advances g c = advances_itself _ c.args.facts.now

pub returns-in_default-clause-set : goal.returns-in_default-clause-set
returns-in_default-clause-set g c = λ w. refl

pub returns-in_err-kept-clause-set : goal.returns-in_err-kept-clause-set
returns-in_err-kept-clause-set g c = c.test_stuck.ensures.trial.apart

pub returns-in_err-kept-clause-advances : goal.returns-in_err-kept-clause-advances
returns-in_err-kept-clause-advances g c = c.test_stuck.ensures.advances

pub returns-then-not-kept-clause-set : goal.returns-then-not-kept-clause-set
returns-then-not-kept-clause-set g c = c.test_stuck.ensures.trial.apart

pub returns-then-not-kept-clause-advances : goal.returns-then-not-kept-clause-advances
returns-then-not-kept-clause-advances g c = c.test_stuck.ensures.advances

pub returns-clause-advances : goal.returns-clause-advances
returns-clause-advances g c = advances_then (has_begun c.test_stuck.ensures.advances c.begin.ensures.more c.begin.ensures.explained) c.part.ensures.advances

pub returns-clause-cause : goal.returns-clause-cause
returns-clause-cause g c = λ is. rose_then c.test_stuck.ensures.advances (c.part.ensures.cause is)
