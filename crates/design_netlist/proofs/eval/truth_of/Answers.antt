use Rattle.design_netlist.proofs.Vocabulary.{ap, sym, arith, ◌∙◌, map, List, [], get_or_default, Lit, matches, cover_of, bit_at}
use Rattle.design_netlist.proofs.EvalLemmas.{some_row, no_row, when_some, when_none}
use Rattle.design_netlist.proofs.eval.truth_of.Goals as goal

pub returns-then-row_matches : goal.returns-then-row_matches
returns-then-row_matches c =
    let row = c.as_slice.ensures ∙ c.index-rows-k.is ∙ get_or_default c.args.rows.now c.rows.k c.index-rows-k.result [] c.rows-test.true in
    when_some (bit_at c.args.values.now) (cover_of c.args.rows.now c.args.off c.args.ins.now) (some_row c.args.rows.now (map (bit_at c.args.values.now) c.args.ins.now) c.rows.k c.rows-test.true
    (sym (c.if-row_matches.ensures ∙ ap (λ (r : List Lit). matches r (map (bit_at c.args.values.now) c.args.ins.now)) row)))

pub returns : goal.returns
returns c = when_none (bit_at c.args.values.now) (cover_of c.args.rows.now c.args.off c.args.ins.now) (no_row c.args.rows.now (map (bit_at c.args.values.now) c.args.ins.now) c.rows.k (omega arith) c.rows.invariant)
