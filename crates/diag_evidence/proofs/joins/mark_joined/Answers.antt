use Rattle.std.proofs.Common.{◌≡◌, ◌<◌, ◌+◌, ◌&&◌, ◌||◌, true, false, ℕ, List, Bool, length, get_or, set, take, refl, sym, ap, subst, ◌∙◌, arith, ◌==◌}
use Rattle.diag_evidence.proofs.Vocabulary.{list_any, length-set, get_or_default, has_number, WireTest, joins}
use Rattle.diag_evidence.proofs.{Hanging.some_hang, Marking.marked_on, Marking.marked_not}
use Rattle.diag_evidence.proofs.joins.mark_joined.Goals as goal

pub hangs-preserved-then-not-joins : goal.hangs-preserved-then-not-joins
hangs-preserved-then-not-joins c =
    let views = c.args.views.now in
    let hang : WireTest = get_or c.args.hangs.now c.hangs.k some_hang in
    let at : hang ≡ get_or c.args.hangs.now c.hangs.k hang = get_or_default c.args.hangs.now c.hangs.k _ _ c.hangs-test.true in
    record {
      marked = marked_not c.args.hangs.now c.hangs.k hang c.hangs-test.true at (λ (h : WireTest). h.wire.0) (joins c.args.forest.now c.args.hangs.now views.all.rows views.without_over.rows views.without_other.rows)
          c.hangs.apart (has_number c.args.apart.now) c.hangs.invariant.marked (sym c.joins.ensures ∙ c.if-not-joins.true);
      len_is = c.hangs.invariant.len_is;
    }

pub hangs-preserved : goal.hangs-preserved
hangs-preserved c =
    let views = c.args.views.now in
    let hang : WireTest = get_or c.args.hangs.now c.hangs.k some_hang in
    let at : hang ≡ get_or c.args.hangs.now c.hangs.k hang = get_or_default c.args.hangs.now c.hangs.k _ _ c.hangs-test.true in
    let within : hang.wire.0 < length c.hangs.apart =
    (let w = (c.requires.over c.hangs.k some_hang c.hangs-test.true).wire in let l = c.hangs.invariant.len_is in let a = c.requires.apart in omega (arith, w, l, a)) in
    record {
      marked = subst (λ (s : List Bool). (w : ℕ) → has_number s w ≡ (list_any (λ (h : WireTest). (h.wire.0 == w) && joins c.args.forest.now c.args.hangs.now views.all.rows views.without_over.rows views.without_other.rows h) (take (c.hangs.k + 1) c.args.hangs.now) || has_number c.args.apart.now w))
          (sym c.insert.ensures)
          (marked_on c.args.hangs.now c.hangs.k hang c.hangs-test.true at (λ (h : WireTest). h.wire.0) (joins c.args.forest.now c.args.hangs.now views.all.rows views.without_over.rows views.without_other.rows)
          c.hangs.apart (has_number c.args.apart.now) c.hangs.invariant.marked (sym c.joins.ensures ∙ c.if-not-joins.false) within);
      len_is = ap length c.insert.ensures ∙ length-set c.hangs.apart _ true ∙ c.hangs.invariant.len_is;
    }
