use Rattle.std.proofs.Common.{◌≡◌, ◌∙◌, List, sym, ap, inr, subst, arith}
use Rattle.diag_growth.proofs.Vocabulary.{Shape, hextant_of, line_at, lines_of, one_more, AreOuts, IsTold, IsPlaceAt, Out}
use Rattle.diag_growth.proofs.Choosing.{line_there_is, outs_first, outs_next, told_next, all_lines}
use Rattle.diag_growth.proofs.Searching.{line_of}
use Rattle.diag_growth.proofs.seats.outs_of.Goals as goal

pub lines-init : goal.lines-init
lines-init c = record {
  outs = subst (λ (outs : List Out). AreOuts c.args.facts.now c.args.known.now.steps c.args.without.now.steps c.args.t.0 outs) (sym c.new-outs.ensures.items) outs_first;
  told = λ i less. absurd (let no : ⊥ = omega (arith, less) in no);
}

pub out_over-requires-clause-line : goal.out_over-requires-clause-line
out_over-requires-clause-line c =
    line_of c.args.t.0 c.shape-shape.ensures (c.ports_and_lines_ascend.ensures c.args.facts.now.shape) c.hextant_of-hextant.ensures.node c.hextant_of-hextant.ensures.within (let t = c.lines-test.true in let l = c.lines-k-end.ensures.lines in omega (arith, t, l)) c.line.ensures.wire

pub lines-preserved-in_default : goal.lines-preserved-in_default
lines-preserved-in_default c =
    let k = c.args.facts.now in
    let h = hextant_of k.shape c.args.t.0 in
    let there : c.line.result.0 ≡ line_at k.shape h c.lines.k = line_there_is c.args.t.0 c.lines.k c.shape-shape.ensures c.hextant_of-hextant.ensures.node c.line.ensures.wire in
    record {
      outs = c.lines.invariant.outs;
      told = one_more (λ i. IsTold k c.args.known.now.steps c.args.without.now.steps c.args.t.0 c.lines.outs.items (line_at k.shape h i)) c.lines.k c.lines.invariant.told
          (inr (λ near. subst (λ l. ¬ IsPlaceAt k c.args.known.now.steps c.args.without.now.steps c.args.t.0 near l) there (c.in_default.ensures.none near)));
    }

pub lines-preserved : goal.lines-preserved
lines-preserved c =
    let k = c.args.facts.now in
    let h = hextant_of k.shape c.args.t.0 in
    let there : c.line.result.0 ≡ line_at k.shape h c.lines.k = line_there_is c.args.t.0 c.lines.k c.shape-shape.ensures c.hextant_of-hextant.ensures.node c.line.ensures.wire in
    record {
      outs = outs_next c.lines.invariant.outs c.in-Some.ensures.out c.in_ok-push.ensures.items;
      told = told_next _ (line_at k.shape h) c.lines.invariant.told (c.in-Some.ensures.line ∙ there) c.in_ok-push.ensures.items;
    }

pub returns-clause-whole : goal.returns-clause-whole
returns-clause-whole c = λ line is.
    let k = c.args.facts.now in
    let h = hextant_of k.shape c.args.t.0 in
    let node : c.hextant_of-hextant.result.0 ≡ h = subst (λ (m : Shape). c.hextant_of-hextant.result.0 ≡ hextant_of m c.args.t.0) c.shape-shape.ensures c.hextant_of-hextant.ensures.node in
    let end : c.lines-k-end.result ≡ lines_of k.shape h = subst (λ (m : Shape). c.lines-k-end.result ≡ lines_of m c.hextant_of-hextant.result.0) c.shape-shape.ensures c.lines-k-end.ensures.lines ∙ ap (λ n. lines_of k.shape n) node in
    all_lines h c.lines.k (IsTold k c.args.known.now.steps c.args.without.now.steps c.args.t.0 c.lines.outs.items) (c.ports_and_lines_ascend.ensures k.shape)
    (let t = c.lines-test.false in omega (arith, t, end)) c.lines.invariant.told line is
