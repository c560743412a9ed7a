use Rattle.diag_evidence.proofs.Vocabulary.{◌∙◌, arith, sym, refl, Gains, one_cell, same_bits}
use Rattle.diag_evidence.proofs.{Shown.tells_same, Shown.tells_apart, Advancing.different_bits, Advancing.advances_by, Advancing.cell_gain}
use Rattle.diag_evidence.proofs.{TableTests.cell_shows, Logging.shows_same, Logging.shows_apart, Keeping.trial_by_gain}
use Rattle.std.proofs.lemmas.Result.{err_from_is_err_and}
use Rattle.std.proofs.Common.{inr}
use Rattle.diag_evidence.proofs.Keeping.{advances_itself, trial_itself}
use Rattle.diag_evidence.proofs.{Advancing.advances_idle, Advancing.advances_loads, Advancing.loads_then, Advancing.trial_same}
use Rattle.diag_evidence.proofs.facts.Facts.toggle_cell.Goals as goal

pub returns-then-low-high-clause-exact_each : goal.returns-then-low-high-clause-exact_each
returns-then-low-high-clause-exact_each g c = λ f e.
    let first = rw c.with_cell.ensures at (c.in_ok-low.ensures.reads_each f (c.in_ok-high.ensures.loads.narrows f e)) in
    let second = rw (c.with_cell-2.ensures, c.in_ok-low.ensures.config) at (c.in_ok-high.ensures.reads_each f e) in
    rw (← c.in-Some.ensures) (tells_same first second (same_bits _ _ c.if-low-high.true))

pub returns-then-low-high-clause-logged : goal.returns-then-low-high-clause-logged
returns-then-low-high-clause-logged g c =
    let first = rw c.with_cell.ensures at c.in_ok-low.ensures.logged in
    let second = rw (c.with_cell-2.ensures, c.in_ok-low.ensures.config) at c.in_ok-high.ensures.logged in
    rw (← c.in-Some.ensures) (shows_same first second (same_bits _ _ c.if-low-high.true))

pub returns-then-low-high-clause-passes_each : goal.returns-then-low-high-clause-passes_each
returns-then-low-high-clause-passes_each g c = λ f e.
    let first = rw c.with_cell.ensures at (c.in_ok-low.ensures.reads_each f (c.in_ok-high.ensures.loads.narrows f e)) in
    let second = rw (c.with_cell-2.ensures, c.in_ok-low.ensures.config) at (c.in_ok-high.ensures.reads_each f e) in
    cell_shows c.args.config.now.config c.args.t.0 c.args.address c.in-Some.setting (sym c.in-Some.ensures) (rw c.requires.shape c.requires.at) first second (same_bits _ _ c.if-low-high.true)

pub returns-clause-exact_each : goal.returns-clause-exact_each
returns-clause-exact_each g c = λ f e.
    let first = rw c.with_cell.ensures at (c.in_ok-low.ensures.reads_each f (c.in_ok-high.ensures.loads.narrows f e)) in
    let second = rw (c.with_cell-2.ensures, c.in_ok-low.ensures.config) at (c.in_ok-high.ensures.reads_each f e) in
    rw (← c.in-Some.ensures) (tells_apart first second (different_bits _ _ c.if-low-high.false))

pub returns-clause-logged : goal.returns-clause-logged
returns-clause-logged g c =
    let first = rw c.with_cell.ensures at c.in_ok-low.ensures.logged in
    let second = rw (c.with_cell-2.ensures, c.in_ok-low.ensures.config) at c.in_ok-high.ensures.logged in
    rw (← c.in-Some.ensures) (shows_apart first second (different_bits _ _ c.if-low-high.false))

pub returns-clause-advances : goal.returns-clause-advances
returns-clause-advances g c =
    let gains : Gains (one_cell c.args.t.0 c.args.address) c.args.self.now c.keep_cell.new.self = rw (← c.self.view_is) c.keep_cell.ensures in
    advances_by (one_cell c.args.t.0 c.args.address) (c.in_ok-high.ensures.loads.machine ∙ c.in_ok-low.ensures.loads.machine) (omega (arith, c.in_ok-high.ensures.loads.later, c.in_ok-low.ensures.loads.later)) (omega (arith, c.in_ok-high.ensures.loads.counted, c.in_ok-low.ensures.loads.counted)) (λ n k h. c.in_ok-high.ensures.few n k (c.in_ok-low.ensures.few n k h)) gains
    (λ f e. c.in_ok-low.ensures.loads.narrows f (c.in_ok-high.ensures.loads.narrows f e)) (λ told. c.in_ok-high.ensures.loads.tells (c.in_ok-low.ensures.loads.tells told))
    (λ f e h. cell_gain c.args.self.now c.args.config.now.config c.args.t.0 c.args.address c.in-Some.setting (rw c.with_cell.ensures at (c.in_ok-low.ensures.reads_each f (c.in_ok-high.ensures.loads.narrows f e))) (rw (c.with_cell-2.ensures, c.in_ok-low.ensures.config) at (c.in_ok-high.ensures.reads_each f e)) (different_bits _ _ c.if-low-high.false) f refl)

pub returns-clause-trial : goal.returns-clause-trial
returns-clause-trial g c =
    let gains : Gains (one_cell c.args.t.0 c.args.address) c.args.self.now c.keep_cell.new.self = rw (← c.self.view_is) c.keep_cell.ensures in
    trial_by_gain (one_cell c.args.t.0 c.args.address) c.args.self.now c.keep_cell.new.self gains (λ w. refl)

pub returns-in_err-low-clause-trial : goal.returns-in_err-low-clause-trial
returns-in_err-low-clause-trial g c = trial_same c.self.view_is

pub returns-in_err-low-clause-advances : goal.returns-in_err-low-clause-advances
returns-in_err-low-clause-advances g c = advances_loads c.self.view_is c.read_with.ensures.loads c.read_with.ensures.few

pub returns-in_err-low-clause-loads : goal.returns-in_err-low-clause-loads
returns-in_err-low-clause-loads g c = let most = c.read_with.ensures.loads.loads in omega (arith, most)

pub returns-in_err-low-clause-cycles : goal.returns-in_err-low-clause-cycles
returns-in_err-low-clause-cycles g c = let most = c.read_with.ensures.made in omega (arith, most)

pub returns-in_err-low-clause-cause : goal.returns-in_err-low-clause-cause
returns-in_err-low-clause-cause g c =
    let p = err_from_is_err_and c.from_residual.result c.from_residual.ensures.1 in
    rw (p.1, p.2) c.in_err-low.ensures.loads.cause

pub returns-in_err-low-clause-wanting : goal.returns-in_err-low-clause-wanting
returns-in_err-low-clause-wanting g c =
    let p = err_from_is_err_and c.from_residual.result c.from_residual.ensures.1 in
    rw (p.1, p.2) (λ is. inr (c.in_err-low.ensures.wanting is))

pub returns-in_err-high-clause-trial : goal.returns-in_err-high-clause-trial
returns-in_err-high-clause-trial g c = trial_same c.self.view_is

pub returns-in_err-high-clause-advances : goal.returns-in_err-high-clause-advances
returns-in_err-high-clause-advances g c = advances_loads c.self.view_is (loads_then c.read_with.ensures.loads c.read_with-2.ensures.loads) (λ n k h. c.read_with-2.ensures.few n k (c.read_with.ensures.few n k h))

pub returns-in_err-high-clause-loads : goal.returns-in_err-high-clause-loads
returns-in_err-high-clause-loads g c = let loads = loads_then c.read_with.ensures.loads c.read_with-2.ensures.loads in loads.loads

pub returns-in_err-high-clause-cycles : goal.returns-in_err-high-clause-cycles
returns-in_err-high-clause-cycles g c = let low = c.read_with.ensures.made in let high = c.read_with-2.ensures.made in omega (arith, low, high)

pub returns-in_err-high-clause-cause : goal.returns-in_err-high-clause-cause
returns-in_err-high-clause-cause g c =
    let p = err_from_is_err_and c.from_residual-in_err-high.result c.from_residual-in_err-high.ensures.1 in
    rw (p.1, p.2) (loads_then c.read_with.ensures.loads c.in_err-high.ensures.loads).cause

pub returns-in_err-high-clause-wanting : goal.returns-in_err-high-clause-wanting
returns-in_err-high-clause-wanting g c =
    let p = err_from_is_err_and c.from_residual-in_err-high.result c.from_residual-in_err-high.ensures.1 in
    rw (p.1, p.2) (λ is. inr (c.in_err-high.ensures.wanting is))

pub returns-then-low-high-clause-trial : goal.returns-then-low-high-clause-trial
returns-then-low-high-clause-trial g c = trial_same c.self.view_is

pub returns-then-low-high-clause-advances : goal.returns-then-low-high-clause-advances
returns-then-low-high-clause-advances g c = advances_loads c.self.view_is (loads_then c.read_with.ensures.loads c.read_with-2.ensures.loads) (λ n k h. c.read_with-2.ensures.few n k (c.read_with.ensures.few n k h))

pub returns-then-low-high-clause-loads : goal.returns-then-low-high-clause-loads
returns-then-low-high-clause-loads g c = let loads = loads_then c.read_with.ensures.loads c.read_with-2.ensures.loads in loads.loads

pub returns-then-low-high-clause-cycles : goal.returns-then-low-high-clause-cycles
returns-then-low-high-clause-cycles g c = let low = c.read_with.ensures.made in let high = c.read_with-2.ensures.made in omega (arith, low, high)

pub returns-clause-loads : goal.returns-clause-loads
returns-clause-loads g c = let loads = loads_then c.read_with.ensures.loads c.read_with-2.ensures.loads in loads.loads

pub returns-clause-cycles : goal.returns-clause-cycles
returns-clause-cycles g c = let low = c.read_with.ensures.made in let high = c.read_with-2.ensures.made in omega (arith, low, high)

pub returns-in_default-clause-trial : goal.returns-in_default-clause-trial
returns-in_default-clause-trial g c = trial_itself c.args.self.now

pub returns-in_default-clause-advances : goal.returns-in_default-clause-advances
returns-in_default-clause-advances g c = advances_itself _ c.args.self.now

pub returns-in_default-take-clause-trial : goal.returns-in_default-take-clause-trial
returns-in_default-take-clause-trial g c = trial_same c.self.view_is

pub returns-in_default-take-clause-advances : goal.returns-in_default-take-clause-advances
returns-in_default-take-clause-advances g c = advances_idle c.self.view_is
