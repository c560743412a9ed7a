use Rattle.diag_sweep.proofs.Vocabulary.{◌≡◌, ◌∙◌, ◌++◌, List, ap, flat_map, sym, arith, take_all, Lead, loose_along}
use Rattle.diag_sweep.proofs.Coursing.{part_next}
use Rattle.diag_sweep.proofs.branching.loose_wires.Goals as goal

pub leads-preserved : goal.leads-preserved
leads-preserved c = record {
  items = c.in_ok-add_loose.ensures ∙ ap (λ ws. ws ++ loose_along c.args.forest.now c.index-leads-k.result) c.leads.invariant.items
      ∙ sym (part_next c.args.leads.now c.leads.k c.index-leads-k.result (omega arith) c.index-leads-k.is (loose_along c.args.forest.now));
}

pub returns : goal.returns
returns c = c.leads.invariant.items ∙ ap (λ (ls : List Lead). flat_map (loose_along c.args.forest.now) ls) (take_all c.leads.k c.args.leads.now (omega arith))
