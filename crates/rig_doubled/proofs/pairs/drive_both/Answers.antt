use Rattle.rig_doubled.proofs.Vocabulary.{rules, ◌≡◌, ◌∙◌, sym, ap, false≢true, GoesOn, Machine, narrows_cycle}
use Rattle.rig_doubled.proofs.Pairing.{reads_alike, explained_reads}
use Rattle.rig_doubled.proofs.pairs.drive_both.Goals as goal

pub returns-clause-caused : goal.returns-clause-caused
returns-clause-caused g c = λ f one other differs.
    let goes : GoesOn c.args.drive.now c.cycle.new.read (g.A.Rig.rig_state c.args.first.now) (g.A.Rig.rig_state c.cycle.new.self) = search rules in
    let also : GoesOn c.args.drive.now c.cycle-2.new.read (g.B.Rig.rig_state c.args.second.now) (g.B.Rig.rig_state c.cycle-2.new.self) = search rules in
    let same : c.cycle.new.read ≡ c.cycle-2.new.read = reads_alike c.requires.paired (ap (λ (m : Machine). m.faults) c.cycle.ensures.machine ∙ one) (ap (λ (m : Machine). m.faults) c.cycle-2.ensures.machine ∙ other)
    c.args.drive.now c.cycle.new.read c.cycle-2.new.read goes also in
    absurd (false≢true (sym differs ∙ c.is_same.ensures.1 same))

pub returns-clause-no_alarm : goal.returns-clause-no_alarm
returns-clause-no_alarm g c = λ f one other differs.
    let goes : GoesOn c.args.drive.now c.cycle.new.read (g.A.Rig.rig_state c.args.first.now) (g.A.Rig.rig_state c.cycle.new.self) = search rules in
    let also : GoesOn c.args.drive.now c.cycle-2.new.read (g.B.Rig.rig_state c.args.second.now) (g.B.Rig.rig_state c.cycle-2.new.self) = search rules in
    let same : c.cycle.new.read ≡ c.cycle-2.new.read = explained_reads c.requires.paired one other c.args.drive.now c.cycle.new.read c.cycle-2.new.read goes also in
    absurd (false≢true (sym differs ∙ c.is_same.ensures.1 same))

pub returns-then-is_err-clause-first_narrows : goal.returns-then-is_err-clause-first_narrows
returns-then-is_err-clause-first_narrows g c = narrows_cycle c.args.drive.now c.cycle.new.read c.cycle.result c.cycle.ensures.machine c.cycle.ensures.cycles c.cycle.ensures.refused

pub returns-then-is_err-2-clause-first_narrows : goal.returns-then-is_err-2-clause-first_narrows
returns-then-is_err-2-clause-first_narrows g c = narrows_cycle c.args.drive.now c.cycle.new.read c.cycle.result c.cycle.ensures.machine c.cycle.ensures.cycles c.cycle.ensures.refused

pub returns-then-is_err-2-clause-second_narrows : goal.returns-then-is_err-2-clause-second_narrows
returns-then-is_err-2-clause-second_narrows g c = narrows_cycle c.args.drive.now c.cycle-2.new.read c.cycle-2.result c.cycle-2.ensures.machine c.cycle-2.ensures.cycles c.cycle-2.ensures.refused

pub returns-clause-first_narrows : goal.returns-clause-first_narrows
returns-clause-first_narrows g c = narrows_cycle c.args.drive.now c.cycle.new.read c.cycle.result c.cycle.ensures.machine c.cycle.ensures.cycles c.cycle.ensures.refused

pub returns-clause-second_narrows : goal.returns-clause-second_narrows
returns-clause-second_narrows g c = narrows_cycle c.args.drive.now c.cycle-2.new.read c.cycle-2.result c.cycle-2.ensures.machine c.cycle-2.ensures.cycles c.cycle-2.ensures.refused
