use Rattle.diag_growth.proofs.Vocabulary.{◌∙◌, [], subst, IfOk-weaker, IsDrivenAlone, IsLoopConfig, route_passes, if_ok_so}
use Rattle.diag_evidence.specs.Kept.{Kept, IsMore, KeepsTrial, Gains, these_wires}
use Rattle.diag_growth.proofs.Parting.{end_on, swing_kept, swing_bad}
use Rattle.diag_growth.proofs.parts.test_stuck.Goals as goal

pub keeps_wire-requires : goal.keeps_wire-requires
keeps_wire-requires g c = c.requires.way.route.wires c.args.w.0 (end_on c.requires.way)

pub returns-clause-kept : goal.returns-clause-kept
returns-clause-kept g c = IfOk-weaker c.test_stuck-answer.result _ _ (λ yes gains. λ is_yes.
    rw (c.give_back_drive-2.ensures, c.give_back_drive.ensures, c.give_back.ensures) (swing_kept c.requires.way (subst (λ (k : Kept). Gains (these_wires c.args.way.now.wires) k c.test_stuck-answer.new.self) (c.in_ok-high.ensures.same ∙ c.in_ok-low.ensures.same ∙ c.in_ok-config.ensures.same) (gains is_yes)))) c.test_stuck-answer.ensures.gains

pub returns-clause-bad_each : goal.returns-clause-bad_each
returns-clause-bad_each g c =
    let m = c.args.facts.now.shape in
    let q = c.args.way.now in
    let laid : IsLoopConfig m q q [] c.in_ok-config.config.config = c.in_ok-config.ensures.laid in
    if_ok_so c.test_stuck-answer.result c.test_stuck-answer.ensures.passes_each (λ yes passes f e is_no.
    rw (c.give_back_drive-2.ensures, c.give_back_drive.ensures, c.give_back.ensures)
    (swing_bad c.requires.known c.requires.way
    (route_passes _ m c.in_ok-config.config.config q c.in_ok-low.low c.in_ok-high.high yes laid c.requires.way.route
    (subst (IsDrivenAlone c.in_ok-low.low) c.pin.ensures c.in_ok-low.ensures.alone) c.in_ok-high.ensures.released (passes f e))
    (subst (λ (k : Kept). IsMore k c.test_stuck-answer.new.self) (c.in_ok-high.ensures.same ∙ c.in_ok-low.ensures.same ∙ c.in_ok-config.ensures.same) c.test_stuck-answer.ensures.advances.more) is_no))

pub returns-clause-trial : goal.returns-clause-trial
returns-clause-trial g c = rw (c.give_back_drive-2.ensures, c.give_back_drive.ensures, c.give_back.ensures)
    (subst (λ (k : Kept). KeepsTrial k c.test_stuck-answer.new.self) (c.in_ok-high.ensures.same ∙ c.in_ok-low.ensures.same ∙ c.in_ok-config.ensures.same) c.test_stuck-answer.ensures.trial)
