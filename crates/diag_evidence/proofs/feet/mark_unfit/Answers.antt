use Rattle.std.proofs.Common.{◌≡◌, ◌<◌, ◌+◌, ◌&&◌, ◌||◌, ◌∙◌, ℕ, Bool, List, true, false, not, length, get_or, take, refl, sym, ap, subst, arith, ◌==◌}
use mathlib.Core.Bool.{beq}
use Rattle.diag_evidence.proofs.Vocabulary.{list_any, length-set, get_or_default, has_number}
use Rattle.diag_evidence.specs.Vocabulary.{Foot, pin_at, others_part, reads_oddly, reads_alike, shows_unfit, shows_unclear, differ, read_under, read_free}
use Rattle.diag_evidence.proofs.{Marking.marked_on, Marking.marked_not, Rows.not_at_second, Rows.all_three, Rows.differ_by, Rows.not_not}
use Rattle.diag_evidence.proofs.feet.mark_unfit.Goals as goal
use Rattle.diag_evidence.proofs.feet.mark_unfit.Goals.{then-read_under-read_free, else-read_under-read_free}

pub feet-preserved-then-not-others_part : goal.feet-preserved-then-not-others_part
feet-preserved-then-not-others_part c =
    let foot : Foot = get_or c.args.feet.now c.feet.k (record { 0 = 0 }, record { 0 = 0 }) in
    let at : foot ≡ get_or c.args.feet.now c.feet.k foot = get_or_default c.args.feet.now c.feet.k _ _ c.feet-test.true in
    let no_ : others_part c.args.forest.now c.args.feet.now c.args.reads.now.rows foot ≡ false = sym c.others_part.ensures ∙ c.if-not-others_part.true in
    let unfit : shows_unfit c.args.forest.now c.args.feet.now c.args.reads.now.rows foot ≡ false = ap (λ t. t && reads_oddly c.args.forest.now c.args.reads.now.rows (pin_at c.args.forest.now foot)) no_ in
    record {
      unfit = marked_not c.args.feet.now c.feet.k foot c.feet-test.true at (λ (f : Foot). f.0.0) (shows_unfit c.args.forest.now c.args.feet.now c.args.reads.now.rows) c.feet.unfit (has_number c.args.unfit.now) c.feet.invariant.unfit unfit;
      unclear = marked_not c.args.feet.now c.feet.k foot c.feet-test.true at (λ (f : Foot). f.0.0) (shows_unclear c.args.forest.now c.args.feet.now c.args.reads.now.rows) c.feet.unclear (has_number c.args.unclear.now) c.feet.invariant.unclear
          (ap (λ t. t && reads_alike c.args.reads.now.rows (pin_at c.args.forest.now foot)) unfit);
      len = c.feet.invariant.len;
      len_too = c.feet.invariant.len_too;
    }

pub feet-preserved-then-not-reads_oddly : goal.feet-preserved-then-not-reads_oddly
feet-preserved-then-not-reads_oddly c =
    let trees = c.args.forest.now in
    let rows = c.args.reads.now.rows in
    let foot : Foot = get_or c.args.feet.now c.feet.k (record { 0 = 0 }, record { 0 = 0 }) in
    let at : foot ≡ get_or c.args.feet.now c.feet.k foot = get_or_default c.args.feet.now c.feet.k _ _ c.feet-test.true in
    let no_ : reads_oddly trees rows (pin_at trees foot) ≡ false = ap (reads_oddly trees rows) (sym c.pin_at-pin.ensures.pin) ∙ sym c.reads_oddly.ensures ∙ c.if-not-reads_oddly.true in
    let unfit : shows_unfit trees c.args.feet.now rows foot ≡ false = not_at_second (others_part trees c.args.feet.now rows foot) (reads_oddly trees rows (pin_at trees foot)) no_ in
    record {
      unfit = marked_not c.args.feet.now c.feet.k foot c.feet-test.true at (λ (f : Foot). f.0.0) (shows_unfit trees c.args.feet.now rows) c.feet.unfit (has_number c.args.unfit.now) c.feet.invariant.unfit unfit;
      unclear = marked_not c.args.feet.now c.feet.k foot c.feet-test.true at (λ (f : Foot). f.0.0) (shows_unclear trees c.args.feet.now rows) c.feet.unclear (has_number c.args.unclear.now) c.feet.invariant.unclear
          (ap (λ t. t && reads_alike rows (pin_at trees foot)) unfit);
      len = c.feet.invariant.len;
      len_too = c.feet.invariant.len_too;
    }

pub feet-preserved : goal.feet-preserved
feet-preserved c =
    let trees = c.args.forest.now in
    let rows = c.args.reads.now.rows in
    let foot : Foot = get_or c.args.feet.now c.feet.k (record { 0 = 0 }, record { 0 = 0 }) in
    let at : foot ≡ get_or c.args.feet.now c.feet.k foot = get_or_default c.args.feet.now c.feet.k _ _ c.feet-test.true in
    let unfit : shows_unfit trees c.args.feet.now rows foot ≡ true = all_three (others_part trees c.args.feet.now rows foot) (reads_oddly trees rows (pin_at trees foot)) (sym c.others_part.ensures ∙ c.if-not-others_part.false)
    (ap (reads_oddly trees rows) (sym c.pin_at-pin.ensures.pin) ∙ sym c.reads_oddly.ensures ∙ c.if-not-reads_oddly.false) in
    let pin = sym c.pin_at-pin.ensures.pin in
    let alike : reads_alike rows (pin_at trees foot) ≡ beq c.read_under.result c.read_free.result =
    ap (reads_alike rows) pin ∙ ap (λ t. not (differ t (read_free rows c.pin_at-pin.result))) (sym c.read_under.ensures) ∙ ap (λ t. not (differ c.read_under.result t)) (sym c.read_free.ensures) ∙ ap not (differ_by c.read_under.result c.read_free.result) ∙ not_not (beq c.read_under.result c.read_free.result) in
    let wire = (c.requires.feet c.feet.k (record { 0 = 0 }, record { 0 = 0 }) c.feet-test.true).wire in
    let within : foot.0.0 < length c.feet.unfit = (let e = c.requires.unfit in let l = c.feet.invariant.len in omega (arith, wire, e, l)) in
    let within_too : foot.0.0 < length c.feet.unclear = (let e = c.requires.unclear in let l = c.feet.invariant.len_too in omega (arith, wire, e, l)) in
    let unfit_now = subst (λ s. (w : ℕ) → has_number s w ≡ (list_any (λ (f : Foot). (f.0.0 == w) && shows_unfit trees c.args.feet.now rows f) (take (c.feet.k + 1) c.args.feet.now) || has_number c.args.unfit.now w)) (sym c.insert.ensures)
    (marked_on c.args.feet.now c.feet.k foot c.feet-test.true at (λ (f : Foot). f.0.0) (shows_unfit trees c.args.feet.now rows) c.feet.unfit (has_number c.args.unfit.now) c.feet.invariant.unfit unfit within) in
    let len = ap length c.insert.ensures ∙ length-set c.feet.unfit foot.0.0 true ∙ c.feet.invariant.len in
    elim c.if-read_under-read_free.branch [
      | then-read_under-read_free w ↦ record {
        unfit = unfit_now;
        unclear = subst (λ s. (w : ℕ) → has_number s w ≡ (list_any (λ (f : Foot). (f.0.0 == w) && shows_unclear trees c.args.feet.now rows f) (take (c.feet.k + 1) c.args.feet.now) || has_number c.args.unclear.now w)) (sym (w.unclear-is ∙ w.insert-then-read_under-read_free.ensures))
            (marked_on c.args.feet.now c.feet.k foot c.feet-test.true at (λ (f : Foot). f.0.0) (shows_unclear trees c.args.feet.now rows) c.feet.unclear (has_number c.args.unclear.now) c.feet.invariant.unclear
            (all_three (shows_unfit trees c.args.feet.now rows foot) (reads_alike rows (pin_at trees foot)) unfit (alike ∙ w.if-read_under-read_free.true)) within_too);
        len = len;
        len_too = ap length (w.unclear-is ∙ w.insert-then-read_under-read_free.ensures) ∙ length-set c.feet.unclear foot.0.0 true ∙ c.feet.invariant.len_too;
      }
      | else-read_under-read_free w ↦ record {
        unfit = unfit_now;
        unclear = subst (λ s. (w : ℕ) → has_number s w ≡ (list_any (λ (f : Foot). (f.0.0 == w) && shows_unclear trees c.args.feet.now rows f) (take (c.feet.k + 1) c.args.feet.now) || has_number c.args.unclear.now w)) (sym w.unclear-is)
            (marked_not c.args.feet.now c.feet.k foot c.feet-test.true at (λ (f : Foot). f.0.0) (shows_unclear trees c.args.feet.now rows) c.feet.unclear (has_number c.args.unclear.now) c.feet.invariant.unclear
            (not_at_second (shows_unfit trees c.args.feet.now rows foot) (reads_alike rows (pin_at trees foot)) (alike ∙ w.if-read_under-read_free.false)));
        len = len;
        len_too = ap length w.unclear-is ∙ c.feet.invariant.len_too;
      }
    ]
