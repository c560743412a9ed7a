use Rattle.std.proofs.Common.{◌≡◌, ◌<◌, ◌+◌, ◌||◌, ◌∙◌, ℕ, Bool, List, length, get_or, take, sym, ap, subst, arith}
use Rattle.diag_evidence.proofs.Vocabulary.{length-set, length-map, get_or-map, has_number, among, Foot, feet_crosses}
use Rattle.diag_evidence.proofs.Marking.{next_marked}
use Rattle.diag_evidence.proofs.facts.mark_crosses.Goals as goal

pub feet-preserved : goal.feet-preserved
feet-preserved c =
    let d : Foot = (record { 0 = 0 }, record { 0 = 0 }) in
    let below = c.feet-test.true in
    let many = length-map c.args.feet.now (λ (foot : Foot). foot.1.0) in
    let within : (get_or c.args.feet.now c.feet.k d).1.0 < length c.feet.crosses = (let w = c.requires c.feet.k d below in let e = c.feet.invariant.len in omega (arith, w, e)) in
    record {
      marked = subst (λ s. (x : ℕ) → has_number s x ≡ (among (take (c.feet.k + 1) (feet_crosses c.args.feet.now)) x || has_number c.args.crosses.now x)) (sym c.insert.ensures)
          (next_marked (feet_crosses c.args.feet.now) c.feet.k _ c.feet.crosses (has_number c.args.crosses.now) (omega (arith, below, many)) (get_or-map (λ (foot : Foot). foot.1.0) c.args.feet.now c.feet.k d 0 below) within c.feet.invariant.marked);
      len = ap length c.insert.ensures ∙ length-set c.feet.crosses _ _ ∙ c.feet.invariant.len;
    }
