use Rattle.map_eval.proofs.Vocabulary.{◌≡◌, ◌∙◌, false, length, ap, arith, length-replicate, length-map, NetTable, first_values}
use Rattle.map_eval.proofs.starting.first_state.Goals as goal

pub refresh-requires-clause-shaped : goal.refresh-requires-clause-shaped
refresh-requires-clause-shaped c = (
    let n = c.args.plan.now.network in
    let e : c.len.result ≡ length c.args.plan.now.gates.items = omega (arith, c.len.ensures, c.args.plan.now.gates.ok.0) in
    record {
      inputs = ap length (c.in_ok-inputs.ensures.items_if_clones_equal (λ y f. f)) ∙ length-replicate n.inputs false;
      values = ap length (c.in_ok-values.ensures {u = tt} ∙ ap first_values c.as_slice-tables.ensures) ∙ length-map n.tables (λ (t : NetTable). t.init);
      masks = ap length (c.in_ok-masks.ensures.items_if_clones_equal (λ y f. f)) ∙ length-replicate (length c.as_slice-tables.result.now) 0 ∙ ap length c.as_slice-tables.ensures;
      addresses = ap length (c.in_ok-addresses.ensures.items_if_clones_equal (λ y f. f)) ∙ length-replicate (length c.as_slice-tables.result.now) 0 ∙ ap length c.as_slice-tables.ensures;
      marks = ap length (c.in_ok-marks.ensures.items_if_clones_equal (λ y f. f)) ∙ length-replicate c.len.result 0 ∙ e;
    })

pub returns-clause-values : goal.returns-clause-values
returns-clause-values c = c.refresh.ensures.values ∙ c.in_ok-values.ensures {u = tt} ∙ ap first_values c.as_slice-tables.ensures
