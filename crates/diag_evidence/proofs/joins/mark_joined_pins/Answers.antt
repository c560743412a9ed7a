use Rattle.std.proofs.Common.{◌≡◌, ◌<◌, ◌+◌, ◌&&◌, ◌||◌, true, false, ℕ, List, Bool, length, set, sym, ap, subst, ◌∙◌, arith, ◌==◌}
use Rattle.diag_evidence.proofs.Vocabulary.{list_any, range_with_len, length-set, has_number, pin_wire, wires_of, joins_alone}
use Rattle.diag_evidence.proofs.Marking.{counted_on, counted_not}
use Rattle.diag_evidence.proofs.joins.mark_joined_pins.Goals as goal

pub pins-preserved-then-not-joins_alone : goal.pins-preserved-then-not-joins_alone
pins-preserved-then-not-joins_alone c = record {
  marked = counted_not (pin_wire c.args.forest.now.shape) (joins_alone c.args.forest.now c.args.reads.now.rows) c.pins.k c.pins.apart (has_number c.args.apart.now) c.pins.invariant.marked
      (sym c.joins_alone.ensures ∙ c.if-not-joins_alone.true);
  len_is = c.pins.invariant.len_is;
}

pub pins-preserved : goal.pins-preserved
pins-preserved c =
    let wire = c.pin.ensures.wire ∙ ap (λ m. pin_wire m c.pins.k) c.shape-in-pins.ensures.shape in
    let within : pin_wire c.args.forest.now.shape c.pins.k < length c.pins.apart =
    (let e = wire in let w = c.pin.ensures.within in let m = ap wires_of c.shape-in-pins.ensures.shape in let l = c.pins.invariant.len_is in let a = c.requires.apart in omega (arith, e, w, m, l, a)) in
    record {
      marked = subst (λ (s : List Bool). (w : ℕ) → has_number s w ≡ (list_any (λ k. (pin_wire c.args.forest.now.shape k == w) && joins_alone c.args.forest.now c.args.reads.now.rows k) (range_with_len 0 (c.pins.k + 1)) || has_number c.args.apart.now w))
          (sym (c.insert.ensures ∙ ap (λ w. set c.pins.apart w true) wire))
          (counted_on (pin_wire c.args.forest.now.shape) (joins_alone c.args.forest.now c.args.reads.now.rows) c.pins.k c.pins.apart (has_number c.args.apart.now) c.pins.invariant.marked (sym c.joins_alone.ensures ∙ c.if-not-joins_alone.false) within);
      len_is = ap length c.insert.ensures ∙ length-set c.pins.apart _ true ∙ c.pins.invariant.len_is;
    }
