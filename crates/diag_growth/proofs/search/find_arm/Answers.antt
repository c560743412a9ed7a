use Rattle.diag_growth.proofs.Vocabulary.{◌≡◌, ◌≢◌, ◌∙◌, sym, subst, arith, rules, Shape, line_at, lines_of, IsFreeArm, one_more}
use Rattle.diag_growth.proofs.Searching.{at_shape, no_line_of, line_there, arm_there, no_arm_beside, no_arm_over}
use Rattle.diag_growth.proofs.search.find_arm.Goals as goal

pub lines-init : goal.lines-init
lines-init c = record { none = λ i less. absurd (let no : ⊥ = omega (arith, less) in no) }

pub lines-preserved-then-eq : goal.lines-preserved-then-eq
lines-preserved-then-eq c =
    let same : c.line-line.result.0 ≡ c.args.beside.0 = search rules in
    record {
      none = one_more (λ i. ¬ IsFreeArm c.args.facts.now c.args.known.now.steps c.args.hextant.0 c.args.near.0 c.args.input.0 c.args.beside.0 (line_at c.args.facts.now.shape c.args.hextant.0 i)) c.lines.k c.lines.invariant.none (no_arm_beside (sym (at_shape (λ m. line_at m c.args.hextant.0 c.lines.k) c.shape-shape.ensures c.line-line.ensures.wire) ∙ same));
    }

pub returns-in-Some-clause-arm : goal.returns-in-Some-clause-arm
returns-in-Some-clause-arm c =
    let k = c.args.facts.now in
    let differs : c.line-line.result.0 ≢ c.args.beside.0 = search rules in
    arm_there (line_there c.args.hextant.0 c.lines.k c.line-line.result.0 (c.ports_and_lines_ascend.ensures k.shape) c.shape-shape.ensures c.requires.hextant (let t = c.lines-test.true in let l = c.lines-k-end.ensures.lines in omega (arith, t, l)) c.line-line.ensures.wire)
    differs c.in-Some.ensures.joins c.in-Some.ensures.line c.in-Some.ensures.to_line c.in-Some.ensures.to_input

pub lines-preserved : goal.lines-preserved
lines-preserved c =
    let k = c.args.facts.now in
    record {
      none = one_more (λ i. ¬ IsFreeArm k c.args.known.now.steps c.args.hextant.0 c.args.near.0 c.args.input.0 c.args.beside.0 (line_at k.shape c.args.hextant.0 i)) c.lines.k c.lines.invariant.none
          (subst (λ l. ¬ IsFreeArm k c.args.known.now.steps c.args.hextant.0 c.args.near.0 c.args.input.0 c.args.beside.0 l) (at_shape (λ m. line_at m c.args.hextant.0 c.lines.k) c.shape-shape.ensures c.line-line.ensures.wire) (no_arm_over c.in_default.ensures.none));
    }

pub returns-clause-none : goal.returns-clause-none
returns-clause-none c = λ line p.
    let k = c.args.facts.now in
    let end : c.lines-k-end.result ≡ lines_of k.shape c.args.hextant.0 = subst (λ (m : Shape). c.lines-k-end.result ≡ lines_of m c.args.hextant.0) c.shape-shape.ensures c.lines-k-end.ensures.lines in
    no_line_of c.args.hextant.0 c.lines.k (λ l. IsFreeArm k c.args.known.now.steps c.args.hextant.0 c.args.near.0 c.args.input.0 c.args.beside.0 l) (c.ports_and_lines_ascend.ensures k.shape)
    (let t = c.lines-test.false in omega (arith, t, end)) c.lines.invariant.none line p.is_line p
