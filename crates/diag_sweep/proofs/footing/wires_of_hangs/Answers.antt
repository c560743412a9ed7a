use Rattle.diag_sweep.proofs.Vocabulary.{◌<◌, ◌∙◌, length, refl, arith, WireTest}
use Rattle.diag_sweep.proofs.Footed.{map_more}
use Rattle.diag_sweep.proofs.footing.wires_of_hangs.Goals as goal

pub hangs-preserved : goal.hangs-preserved
hangs-preserved c =
    let below : c.hangs.k < length c.args.hangs.now = omega arith in
    c.in_ok-push.ensures.items ∙ map_more c.args.hangs.now c.hangs.k c.hang_at.result below c.hang_at.ensures (λ (h : WireTest). h.wire.0) c.hangs.wires.items c.hang_at.result.wire.0 c.hangs.invariant refl
