use Rattle.diag_evidence.proofs.Vocabulary.{◌∙◌, arith, refl, Gains, one_cross, same_bits}
use Rattle.diag_evidence.proofs.{Shown.tells_same, Shown.tells_apart, Shown.loop_shows, Logging.shows_same, Logging.shows_apart}
use Rattle.diag_evidence.proofs.{Advancing.different_bits, Advancing.advances_by, Advancing.cross_gain, Keeping.trial_by_gain}
use Rattle.std.proofs.lemmas.Result.{err_from_is_err_and}
use Rattle.std.proofs.Common.{inr}
use Rattle.diag_evidence.proofs.{Advancing.advances_idle, Advancing.advances_loads, Advancing.loads_then, Advancing.trial_same}
use Rattle.diag_evidence.proofs.facts.Facts.toggle_cross.Goals as goal

pub returns-then-closed-open-clause-exact_each : goal.returns-then-closed-open-clause-exact_each
returns-then-closed-open-clause-exact_each g c = λ f e.
    tells_same (c.in_ok-closed.ensures.reads_each f (c.in_ok-open.ensures.loads.narrows f e)) (c.in_ok-open.ensures.reads_each f e) (same_bits _ _ c.if-closed-open.true)

pub returns-then-closed-open-clause-logged : goal.returns-then-closed-open-clause-logged
returns-then-closed-open-clause-logged g c =
    let second = c.in_ok-open.ensures.logged in
    shows_same c.in_ok-closed.ensures.logged second (same_bits _ _ c.if-closed-open.true)

pub returns-then-closed-open-clause-passes_each : goal.returns-then-closed-open-clause-passes_each
returns-then-closed-open-clause-passes_each g c = λ f e.
    let second = c.in_ok-open.ensures.reads_each f e in
    loop_shows c.args.config.now.config c.args.c.0 (c.in_ok-closed.ensures.reads_each f (c.in_ok-open.ensures.loads.narrows f e)) second (same_bits _ _ c.if-closed-open.true)

pub returns-clause-exact_each : goal.returns-clause-exact_each
returns-clause-exact_each g c = λ f e.
    tells_apart (c.in_ok-closed.ensures.reads_each f (c.in_ok-open.ensures.loads.narrows f e)) (c.in_ok-open.ensures.reads_each f e) (different_bits _ _ c.if-closed-open.false)

pub returns-clause-logged : goal.returns-clause-logged
returns-clause-logged g c =
    let second = c.in_ok-open.ensures.logged in
    shows_apart c.in_ok-closed.ensures.logged second (different_bits _ _ c.if-closed-open.false)

pub returns-clause-advances : goal.returns-clause-advances
returns-clause-advances g c =
    let gains : Gains (one_cross c.args.c.0) c.args.self.now c.keep_cross.new.self = rw (← c.self.view_is) c.keep_cross.ensures in
    advances_by (one_cross c.args.c.0) (c.in_ok-open.ensures.loads.machine ∙ c.in_ok-closed.ensures.loads.machine) (omega (arith, c.in_ok-open.ensures.loads.later, c.in_ok-closed.ensures.loads.later)) (omega (arith, c.in_ok-open.ensures.loads.counted, c.in_ok-closed.ensures.loads.counted)) (λ n k h. c.in_ok-open.ensures.few n k (c.in_ok-closed.ensures.few n k h)) gains
    (λ f e. c.in_ok-closed.ensures.loads.narrows f (c.in_ok-open.ensures.loads.narrows f e)) (λ told. c.in_ok-open.ensures.loads.tells (c.in_ok-closed.ensures.loads.tells told))
    (λ f e h. cross_gain c.args.self.now c.args.config.now.config c.args.c.0 c.requires.closed (c.in_ok-closed.ensures.reads_each f (c.in_ok-open.ensures.loads.narrows f e)) (c.in_ok-open.ensures.reads_each f e) (different_bits _ _ c.if-closed-open.false) f refl)

pub returns-clause-trial : goal.returns-clause-trial
returns-clause-trial g c =
    let gains : Gains (one_cross c.args.c.0) c.args.self.now c.keep_cross.new.self = rw (← c.self.view_is) c.keep_cross.ensures in
    trial_by_gain (one_cross c.args.c.0) c.args.self.now c.keep_cross.new.self gains (λ w. refl)

pub returns-in_err-closed-clause-trial : goal.returns-in_err-closed-clause-trial
returns-in_err-closed-clause-trial g c = trial_same c.self.view_is

pub returns-in_err-closed-clause-advances : goal.returns-in_err-closed-clause-advances
returns-in_err-closed-clause-advances g c = advances_loads c.self.view_is c.read_pin.ensures.loads c.read_pin.ensures.few

pub returns-in_err-closed-clause-loads : goal.returns-in_err-closed-clause-loads
returns-in_err-closed-clause-loads g c = let most = c.read_pin.ensures.loads.loads in omega (arith, most)

pub returns-in_err-closed-clause-cycles : goal.returns-in_err-closed-clause-cycles
returns-in_err-closed-clause-cycles g c = let most = c.read_pin.ensures.made in omega (arith, most)

pub returns-in_err-closed-clause-cause : goal.returns-in_err-closed-clause-cause
returns-in_err-closed-clause-cause g c =
    let p = err_from_is_err_and c.from_residual.result c.from_residual.ensures.1 in
    rw (p.1, p.2) c.in_err-closed.ensures.loads.cause

pub returns-in_err-closed-clause-wanting : goal.returns-in_err-closed-clause-wanting
returns-in_err-closed-clause-wanting g c =
    let p = err_from_is_err_and c.from_residual.result c.from_residual.ensures.1 in
    rw (p.1, p.2) (λ is. inr (c.in_err-closed.ensures.wanting is))

pub returns-in_err-open-clause-trial : goal.returns-in_err-open-clause-trial
returns-in_err-open-clause-trial g c = trial_same c.self.view_is

pub returns-in_err-open-clause-advances : goal.returns-in_err-open-clause-advances
returns-in_err-open-clause-advances g c = advances_loads c.self.view_is (loads_then c.read_pin.ensures.loads c.read_without.ensures.loads) (λ n k h. c.read_without.ensures.few n k (c.read_pin.ensures.few n k h))

pub returns-in_err-open-clause-loads : goal.returns-in_err-open-clause-loads
returns-in_err-open-clause-loads g c = let loads = loads_then c.read_pin.ensures.loads c.read_without.ensures.loads in loads.loads

pub returns-in_err-open-clause-cycles : goal.returns-in_err-open-clause-cycles
returns-in_err-open-clause-cycles g c = let low = c.read_pin.ensures.made in let high = c.read_without.ensures.made in omega (arith, low, high)

pub returns-in_err-open-clause-cause : goal.returns-in_err-open-clause-cause
returns-in_err-open-clause-cause g c =
    let p = err_from_is_err_and c.from_residual-in_err-open.result c.from_residual-in_err-open.ensures.1 in
    rw (p.1, p.2) (loads_then c.read_pin.ensures.loads c.in_err-open.ensures.loads).cause

pub returns-in_err-open-clause-wanting : goal.returns-in_err-open-clause-wanting
returns-in_err-open-clause-wanting g c =
    let p = err_from_is_err_and c.from_residual-in_err-open.result c.from_residual-in_err-open.ensures.1 in
    rw (p.1, p.2) (λ is. inr (c.in_err-open.ensures.wanting is))

pub returns-then-closed-open-clause-trial : goal.returns-then-closed-open-clause-trial
returns-then-closed-open-clause-trial g c = trial_same c.self.view_is

pub returns-then-closed-open-clause-advances : goal.returns-then-closed-open-clause-advances
returns-then-closed-open-clause-advances g c = advances_loads c.self.view_is (loads_then c.read_pin.ensures.loads c.read_without.ensures.loads) (λ n k h. c.read_without.ensures.few n k (c.read_pin.ensures.few n k h))

pub returns-then-closed-open-clause-loads : goal.returns-then-closed-open-clause-loads
returns-then-closed-open-clause-loads g c = let loads = loads_then c.read_pin.ensures.loads c.read_without.ensures.loads in loads.loads

pub returns-then-closed-open-clause-cycles : goal.returns-then-closed-open-clause-cycles
returns-then-closed-open-clause-cycles g c = let low = c.read_pin.ensures.made in let high = c.read_without.ensures.made in omega (arith, low, high)

pub returns-clause-loads : goal.returns-clause-loads
returns-clause-loads g c = let loads = loads_then c.read_pin.ensures.loads c.read_without.ensures.loads in loads.loads

pub returns-clause-cycles : goal.returns-clause-cycles
returns-clause-cycles g c = let low = c.read_pin.ensures.made in let high = c.read_without.ensures.made in omega (arith, low, high)

pub returns-in_default-clause-trial : goal.returns-in_default-clause-trial
returns-in_default-clause-trial g c = trial_same c.self.view_is

pub returns-in_default-clause-advances : goal.returns-in_default-clause-advances
returns-in_default-clause-advances g c = advances_idle c.self.view_is
