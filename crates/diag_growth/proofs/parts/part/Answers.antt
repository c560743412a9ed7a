use Rattle.std.proofs.Common.{◌≡◌, ◌∙◌, List, sym, subst, arith, vec_len}
use Rattle.diag_growth.proofs.Vocabulary.{nat_tests, nil_from_length, trial_itself, Walk, cross_numbers, IsParting}
use Rattle.diag_growth.proofs.Parting.{none_left, end_on}
use Rattle.diag_growth.proofs.parts.part.Goals as goal

pub returns-then-is_empty-clause-apart : goal.returns-then-is_empty-clause-apart
returns-then-is_empty-clause-apart g c = λ yes. none_left (trial_itself c.args.facts.now)
    (subst (λ (rs : List Walk). IsParting c.args.facts.now c.args.known.now.steps c.args.w.0 c.args.way.now rs (cross_numbers c.in-Ok.beside.ties.items)) (nil_from_length c.in-Ok.beside.walks.items (let e : vec_len c.in-Ok.beside.walks ≡ 0 = grind (arith, nat_tests, sym c.is_empty.ensures ∙ c.if-is_empty.true) in omega (arith, e))) c.in-Ok.ensures)

pub parting-requires-clause-wire : goal.parting-requires-clause-wire
parting-requires-clause-wire g c = c.requires.way.route.wires c.args.w.0 (end_on c.requires.way)
