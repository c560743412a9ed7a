use Rattle.diag_evidence.proofs.Vocabulary.{refl, Gains, row_over, wires_over}
use Rattle.diag_evidence.proofs.{Advancing.advances_by, Several.tells_none, Several.tells_all, Several.all_pass, Several.all_gain}
use Rattle.diag_evidence.proofs.{Logging.shows_none, Logging.shows_all, Keeping.trial_by_gain}
use Rattle.diag_evidence.proofs.facts.Facts.all_apart.Goals as goal

pub all_differ-apart-requires-clause-pin : goal.all_differ-apart-requires-clause-pin
all_differ-apart-requires-clause-pin g c = rw (c.pin.ensures, c.in_ok-read.ensures.length, c.requires.shape) c.requires.left.route.pin

pub all_differ-apart-requires-clause-routes : goal.all_differ-apart-requires-clause-routes
all_differ-apart-requires-clause-routes g c = rw (c.in_ok-read.ensures.length, c.requires.shape) (λ k d below. (c.requires.rights k d below).route.pin)

pub returns-then-not-apart-clause-exact_each : goal.returns-then-not-apart-clause-exact_each
returns-then-not-apart-clause-exact_each g c = λ f e. tells_none c.args.left.now c.args.rights.now (c.in_ok-read.ensures.reads_each f e) (rw c.pin.ensures at (c.all_differ-apart.ensures.no c.if-not-apart.true))

pub returns-then-not-apart-clause-logged : goal.returns-then-not-apart-clause-logged
returns-then-not-apart-clause-logged g c = shows_none c.args.config.now.config c.args.drive.now c.in_ok-read.read c.args.left.now c.args.rights.now _ _ c.in_ok-read.ensures.logged (rw c.pin.ensures at (c.all_differ-apart.ensures.no c.if-not-apart.true))

pub returns-then-not-apart-clause-passes_each : goal.returns-then-not-apart-clause-passes_each
returns-then-not-apart-clause-passes_each g c = λ f e. all_pass c.args.left.now c.args.rights.now (c.in_ok-read.ensures.reads_each f e)
    (rw c.requires.shape c.requires.left.route.pin) (λ k d below. rw c.requires.shape (c.requires.rights k d below).route.pin) (rw c.pin.ensures at (c.all_differ-apart.ensures.no c.if-not-apart.true))

pub returns-clause-exact_each : goal.returns-clause-exact_each
returns-clause-exact_each g c = λ f e. tells_all c.args.left.now c.args.rights.now (c.in_ok-read.ensures.reads_each f e) (rw c.pin.ensures at (c.all_differ-apart.ensures.yes c.if-not-apart.false))

pub returns-clause-logged : goal.returns-clause-logged
returns-clause-logged g c = shows_all c.args.config.now.config c.args.drive.now c.in_ok-read.read c.args.left.now c.args.rights.now _ _ c.in_ok-read.ensures.logged (rw c.pin.ensures at (c.all_differ-apart.ensures.yes c.if-not-apart.false))

pub returns-clause-advances : goal.returns-clause-advances
returns-clause-advances g c =
    let gains : Gains (row_over c.args.self.now.trial c.args.left.now.wires (wires_over c.args.rights.now)) c.args.self.now c.keep_in_row.new.self = rw (← c.self.view_is) c.keep_in_row.ensures in
    advances_by (row_over c.args.self.now.trial c.args.left.now.wires (wires_over c.args.rights.now)) c.in_ok-read.ensures.loads.machine c.in_ok-read.ensures.loads.later c.in_ok-read.ensures.loads.counted c.in_ok-read.ensures.few gains c.in_ok-read.ensures.loads.narrows c.in_ok-read.ensures.loads.tells
    (λ f e. all_gain c.args.left.now c.args.rights.now (c.in_ok-read.ensures.reads_each f e) c.args.self.now c.requires.shape c.requires.left c.requires.rights (rw c.pin.ensures at (c.all_differ-apart.ensures.yes c.if-not-apart.false)) f refl)

pub returns-clause-trial : goal.returns-clause-trial
returns-clause-trial g c =
    let gains : Gains (row_over c.args.self.now.trial c.args.left.now.wires (wires_over c.args.rights.now)) c.args.self.now c.keep_in_row.new.self = rw (← c.self.view_is) c.keep_in_row.ensures in
    trial_by_gain (row_over c.args.self.now.trial c.args.left.now.wires (wires_over c.args.rights.now)) c.args.self.now c.keep_in_row.new.self gains (λ w. refl)
