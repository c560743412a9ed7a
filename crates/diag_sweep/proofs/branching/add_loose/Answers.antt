use Rattle.std.proofs.Common.{◌≡◌, ◌∙◌, ◌++◌, ◌∷◌, [], List, ℕ, not, ap, sym, append_assoc, arith, take}
use Rattle.diag_sweep.proofs.Vocabulary.{filter, append-nil, take_all, is_hung, wires_along}
use Rattle.diag_sweep.proofs.Coursing.{filter_off, filter_on}
use Rattle.diag_sweep.proofs.branching.add_loose.Goals as goal

pub places-init : goal.places-init
places-init c = record { items = sym (append-nil c.args.wires.now.items) }

pub places-preserved-then-hangs : goal.places-preserved-then-hangs
places-preserved-then-hangs c = record {
  items = c.places.invariant.items ∙ ap (λ (ws : List ℕ). c.args.wires.now.items ++ ws)
      (sym (filter_off (λ w. not (is_hung c.args.forest.now w)) (wires_along c.args.lead.now) c.places.k c.wire_at-w.result.0 (omega arith) c.wire_at-w.ensures (ap not (sym c.hangs.ensures ∙ c.if-hangs.true))));
}

pub places-preserved : goal.places-preserved
places-preserved c = record {
  items = c.in_ok-push.ensures.items ∙ ap (λ (ws : List ℕ). ws ++ c.wire_at-w.result.0 ∷ []) c.places.invariant.items
      ∙ append_assoc c.args.wires.now.items (filter (λ w. not (is_hung c.args.forest.now w)) (take c.places.k (wires_along c.args.lead.now))) (c.wire_at-w.result.0 ∷ [])
      ∙ ap (λ (ws : List ℕ). c.args.wires.now.items ++ ws)
      (sym (filter_on (λ w. not (is_hung c.args.forest.now w)) (wires_along c.args.lead.now) c.places.k c.wire_at-w.result.0 (omega arith) c.wire_at-w.ensures (ap not (sym c.hangs.ensures ∙ c.if-hangs.false))));
}

pub returns : goal.returns
returns c = c.places.invariant.items ∙ ap (λ (ws : List ℕ). c.args.wires.now.items ++ filter (λ w. not (is_hung c.args.forest.now w)) ws) (take_all c.places.k (wires_along c.args.lead.now) (omega arith))
