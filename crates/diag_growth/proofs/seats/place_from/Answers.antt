use Rattle.std.proofs.Common.{◌≡◌, ◌<◌, ◌≤◌, ◌∙◌, Some, length, sym, subst, arith, rules, slice_get}
use Rattle.diag_growth.proofs.Vocabulary.{slice_get_within, at_index, one_more, some_same, IsPlaceAt, Out}
use Rattle.diag_growth.proofs.seats.place_from.Goals as goal

pub lines-init : goal.lines-init
lines-init c = record { none = λ j o less. absurd (let no : ⊥ = omega (arith, less) in no) }

pub place_over-requires-clause-out : goal.place_over-requires-clause-out
place_over-requires-clause-out c =
    let outs = c.args.outs.now.items in
    let o = c.index.result.now in
    let early : c.lines.k < length outs = first_of (omega arith, search rules, grind arith) in
    c.requires.outs.each c.lines.k o (at_index outs c.lines.k o early c.index.ensures)

pub returns-in-Some-clause-place : goal.returns-in-Some-clause-place
returns-in-Some-clause-place c =
    let outs = c.args.outs.now.items in
    let o = c.index.result.now in
    let early : c.lines.k < length outs = first_of (omega arith, search rules, grind arith) in
    record {
      line = o.line.0;
      is_line = (c.requires.outs.each c.lines.k o (at_index outs c.lines.k o early c.index.ensures)).is_line;
      place = rw c.in-Some.is at c.in_ok-place.ensures.place;
    }

pub lines-preserved : goal.lines-preserved
lines-preserved c =
    let outs = c.args.outs.now.items in
    let o = c.index.result.now in
    let early : c.lines.k < length outs = first_of (omega arith, search rules, grind arith) in
    let here = at_index outs c.lines.k o early c.index.ensures in
    let none = rw c.in_default.is at c.in_ok-place.ensures.none in
    record {
      none = λ j p less at. one_more (λ j. (p : Out) → slice_get outs j ≡ Some p → ¬ IsPlaceAt c.args.facts.now c.args.known.now.steps c.args.without.now.steps c.args.t.0 c.args.hub.now.port.0 p.line.0) c.lines.k
          (λ j less p at. c.lines.invariant.none j p less at)
          (λ p at. subst (λ (q : Out). ¬ IsPlaceAt c.args.facts.now c.args.known.now.steps c.args.without.now.steps c.args.t.0 c.args.hub.now.port.0 q.line.0) (some_same (sym here ∙ at)) none) j less p at;
    }

pub returns-clause-none : goal.returns-clause-none
returns-clause-none c = λ line l p.
    let outs = c.args.outs.now.items in
    let within : l.place < length outs = slice_get_within outs l.place l.out l.here in
    let end : length outs ≤ c.lines.k = (let t = c.lines-test.false in let e = c.len-k-end.ensures in let sized = c.args.outs.now.ok.0 in omega (arith, t, e, sized)) in
    c.lines.invariant.none l.place l.out (omega (arith, within, end)) l.here (subst (λ w. IsPlaceAt c.args.facts.now c.args.known.now.steps c.args.without.now.steps c.args.t.0 c.args.hub.now.port.0 w) (sym l.is) p)
