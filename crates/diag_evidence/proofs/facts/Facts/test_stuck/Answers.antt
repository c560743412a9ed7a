use Rattle.diag_evidence.proofs.Vocabulary.{refl, Gains, these_wires, same_bits}
use Rattle.diag_evidence.proofs.{Shown.swing_same, Shown.swing_apart, Shown.swing_shows, Logging.shows_still, Logging.shows_swing}
use Rattle.diag_evidence.proofs.{Advancing.different_bits, Advancing.advances_by, Advancing.wires_gain, Keeping.trial_by_gain}
use Rattle.diag_evidence.proofs.facts.Facts.test_stuck.Goals as goal

pub returns-then-first-second-clause-exact_each : goal.returns-then-first-second-clause-exact_each
returns-then-first-second-clause-exact_each g c = λ f e.
    let reads = rw c.pin.ensures at (c.in_ok-first.ensures.reads_each f e) in
    swing_same reads (same_bits _ _ c.if-first-second.true)

pub returns-then-first-second-clause-logged : goal.returns-then-first-second-clause-logged
returns-then-first-second-clause-logged g c =
    let reads = rw c.pin.ensures at c.in_ok-first.ensures.logged in
    shows_still reads (same_bits _ _ c.if-first-second.true)

pub returns-then-first-second-clause-passes_each : goal.returns-then-first-second-clause-passes_each
returns-then-first-second-clause-passes_each g c = λ f e.
    let reads = rw c.pin.ensures at (c.in_ok-first.ensures.reads_each f e) in
    swing_shows reads (rw c.requires.shape c.requires.ready.route.pin) (same_bits _ _ c.if-first-second.true)

pub returns-clause-exact_each : goal.returns-clause-exact_each
returns-clause-exact_each g c = λ f e.
    let reads = rw c.pin.ensures at (c.in_ok-first.ensures.reads_each f e) in
    swing_apart reads (different_bits _ _ c.if-first-second.false)

pub returns-clause-logged : goal.returns-clause-logged
returns-clause-logged g c =
    let reads = rw c.pin.ensures at c.in_ok-first.ensures.logged in
    shows_swing reads (different_bits _ _ c.if-first-second.false)

pub returns-clause-advances : goal.returns-clause-advances
returns-clause-advances g c =
    let gains : Gains (these_wires c.args.route.now.wires) c.args.self.now c.keep_wires.new.self = rw (← c.self.view_is) c.keep_wires.ensures in
    advances_by (these_wires c.args.route.now.wires) c.in_ok-first.ensures.loads.machine c.in_ok-first.ensures.loads.later c.in_ok-first.ensures.loads.counted c.in_ok-first.ensures.few gains c.in_ok-first.ensures.loads.narrows c.in_ok-first.ensures.loads.tells
    (λ f e. wires_gain c.args.self.now c.args.route.now c.requires.shape c.requires.ready (rw c.pin.ensures at (c.in_ok-first.ensures.reads_each f e)) (different_bits _ _ c.if-first-second.false) f refl)

pub returns-clause-trial : goal.returns-clause-trial
returns-clause-trial g c =
    let gains : Gains (these_wires c.args.route.now.wires) c.args.self.now c.keep_wires.new.self = rw (← c.self.view_is) c.keep_wires.ensures in
    trial_by_gain (these_wires c.args.route.now.wires) c.args.self.now c.keep_wires.new.self gains (λ w. refl)
