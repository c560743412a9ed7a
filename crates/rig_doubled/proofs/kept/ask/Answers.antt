use Rattle.rig_doubled.proofs.Vocabulary.{◌∙◌, ap, Machine, narrows_load, narrows_cycles}
use Rattle.rig_doubled.proofs.Repeating.{reads_again, explained_again}
use Rattle.rig_doubled.proofs.kept.ask.Goals as goal

pub returns-clause-same : goal.returns-clause-same
returns-clause-same g c = λ some. c.are_same.ensures.1 (reads_again (g.R.Rig.rig_state c.args.inner.now).machine.faults c.args.config.now.config
    (g.R.Rig.rig_state c.load.new.self) (g.R.Rig.rig_state c.cycles.new.self) c.args.drives.now c.args.readings.now c.cycles.new.reads
    c.requires.told (ap (λ (m : Machine). m.faults) (c.cycles.ensures.machine ∙ c.load.ensures.machine)) c.in_ok-load.ensures.begins.config c.in_ok-load.ensures.begins.cycles c.in_ok-cycles.ensures.cycles some)

pub returns-clause-explained : goal.returns-clause-explained
returns-clause-explained g c = λ f e.
    let cycles = narrows_cycles c.args.drives.now c.cycles.new.reads c.cycles.result c.cycles.ensures.machine c.cycles.ensures.cycles c.cycles.ensures.refused in
    c.are_same.ensures.1 (explained_again f c.args.config.now.config (g.R.Rig.rig_state c.load.new.self) (g.R.Rig.rig_state c.cycles.new.self) c.args.drives.now c.args.readings.now c.cycles.new.reads
    c.in_ok-load.ensures.begins.config c.in_ok-load.ensures.begins.cycles c.in_ok-cycles.ensures.cycles e (c.requires.explained f (narrows_load c.load.ensures.machine c.load.ensures.logged f (cycles f e))))

pub returns-clause-narrows : goal.returns-clause-narrows
returns-clause-narrows g c = λ f e.
    let cycles = narrows_cycles c.args.drives.now c.cycles.new.reads c.cycles.result c.cycles.ensures.machine c.cycles.ensures.cycles c.cycles.ensures.refused in
    narrows_load c.load.ensures.machine c.load.ensures.logged f (cycles f e)

pub returns-in_err-cycles-clause-narrows : goal.returns-in_err-cycles-clause-narrows
returns-in_err-cycles-clause-narrows g c = λ f e.
    let cycles = narrows_cycles c.args.drives.now c.cycles.new.reads c.cycles.result c.cycles.ensures.machine c.cycles.ensures.cycles c.cycles.ensures.refused in
    narrows_load c.load.ensures.machine c.load.ensures.logged f (cycles f e)

pub returns-in_err-load-clause-narrows : goal.returns-in_err-load-clause-narrows
returns-in_err-load-clause-narrows g c = narrows_load c.load.ensures.machine c.load.ensures.logged
