use Rattle.std.proofs.Common.{arith}
use Rattle.machine_shape.proofs.{Meeting.meeting, Meeting.met_at, Totals.crosses_are}
use Rattle.machine_shape.proofs.Shape.cross.Goals as goal

pub returns-then-place-bar-clause-none : goal.returns-then-place-bar-clause-none
returns-then-place-bar-clause-none c = λ x h e.
    let m = meeting c.args.self.now c.args.line.0 _ c.requires.line c.line_site-first.ensures.bar c.line_site-first.ensures.fits x c.args.tap.0 h e in
    let p = c.line_site-first.ensures.position in let b = c.if-place-bar.true in omega (arith, m.0)

pub returns-in-None-clause-none : goal.returns-in-None-clause-none
returns-in-None-clause-none c = λ x h e.
    let m = meeting c.args.self.now c.args.line.0 _ c.requires.line c.line_site-first.ensures.bar c.line_site-first.ensures.fits x c.args.tap.0 h e in
    c.in-None.ensures.none _ m.1.0 m.1.1

pub overflow_mul-result : goal.overflow_mul-result
overflow_mul-result c =
    let found = c.in-Some.ensures.found in
    let m = met_at c.args.self.now c.args.line.0 _ c.requires.line c.line_site-first.ensures.bar c.line_site-first.ensures.fits _ _ c.args.tap.0 _ c.line_site-first.ensures.position c.if-place-bar.false found.0 found.1 c.line_site-first.ensures.first in
    let k = crosses_are c.args.self.now in omega (arith, m.0, k.1)

pub overflow_add-result : goal.overflow_add-result
overflow_add-result c =
    let found = c.in-Some.ensures.found in
    let m = met_at c.args.self.now c.args.line.0 _ c.requires.line c.line_site-first.ensures.bar c.line_site-first.ensures.fits _ _ c.args.tap.0 _ c.line_site-first.ensures.position c.if-place-bar.false found.0 found.1 c.line_site-first.ensures.first in
    let k = crosses_are c.args.self.now in omega (arith, m.0, k.1)

pub overflow_add-result-in-Some : goal.overflow_add-result-in-Some
overflow_add-result-in-Some c =
    let found = c.in-Some.ensures.found in
    let m = met_at c.args.self.now c.args.line.0 _ c.requires.line c.line_site-first.ensures.bar c.line_site-first.ensures.fits _ _ c.args.tap.0 _ c.line_site-first.ensures.position c.if-place-bar.false found.0 found.1 c.line_site-first.ensures.first in
    let k = crosses_are c.args.self.now in omega (arith, m.0, k.1)

pub returns-in-Some-clause-found : goal.returns-in-Some-clause-found
returns-in-Some-clause-found c =
    let found = c.in-Some.ensures.found in
    met_at c.args.self.now c.args.line.0 _ c.requires.line c.line_site-first.ensures.bar c.line_site-first.ensures.fits _ _ c.args.tap.0 _ c.line_site-first.ensures.position c.if-place-bar.false found.0 found.1 c.line_site-first.ensures.first
