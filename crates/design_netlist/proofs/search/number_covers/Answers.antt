use Rattle.std.proofs.Common.{length, arith}
use Rattle.design_netlist.proofs.StepLemmas.{all_numbered, start_keeps, start_listed, start_handled}
use Rattle.design_netlist.proofs.search.number_covers.Goals as goal

pub returns-clause-numbered : goal.returns-clause-numbered
returns-clause-numbered c = all_numbered c.args.covers.now c.roots.search.states.items c.roots.search.path.items c.roots.search.groups.items c.roots.search.waiting.items (length c.roots.search.order.items) c.roots.invariant.searching.keeps c.roots.invariant.ended (λ u lu. c.roots.invariant.seen u (omega arith))

pub roots-init : goal.roots-init
roots-init c = record {
  searching = record { listed = start_listed c.args.covers.now c.in_ok-vec.field-0.items c.new.result.items c.new-2.result.items c.new-3.result.items c.new-4.result.items (c.in_ok-vec.ensures.items_if_clones_equal (λ y e. e)) c.new.ensures.items c.new-2.ensures.items c.new-3.ensures.items c.new-4.ensures.items; keeps = start_keeps c.args.covers.now c.in_ok-vec.field-0.items c.new.result.items c.new-2.result.items c.new-3.result.items c.new-4.result.items (c.in_ok-vec.ensures.items_if_clones_equal (λ y e. e)) c.new.ensures.items c.new-2.ensures.items c.new-3.ensures.items c.new-4.ensures.items; handled = start_handled c.args.covers.now c.in_ok-vec.field-0.items c.new.result.items c.new-2.result.items c.new-3.result.items c.new-4.result.items (c.in_ok-vec.ensures.items_if_clones_equal (λ y e. e)) c.new.ensures.items c.new-2.ensures.items c.new-3.ensures.items c.new-4.ensures.items (length c.args.covers.now) };
  ended = c.new-2.ensures.items;
  seen = λ u lu. absurd (omega arith);
}
