use Rattle.rig_simulated.proofs.Vocabulary.{rules, ◌≡◌, ◌∙◌, sym, ap, arith, tables_of, config_in}
use Rattle.rig_simulated.proofs.Sessions.{config_is, as_many_none, session_begun, running_begun}
use Rattle.rig_simulated.proofs.sim.Sim.load.Goals as goal

pub invariant_of-self-2 : goal.invariant_of-self-2
invariant_of-self-2 c =
    let same_shape : c.args.config.now.config.shape ≡ c.self.inside.faults.shape = c.requires ∙ sym (ap (λ v. v.machine.shape) c.self.view_is) in
    let given : config_in c.self.inside.faults.shape c.load.new.closed.items c.load.new.board.gates.items c.ticks-self-inside.result ≡ c.args.config.now.config =
    config_is c.load.new.board.gates.items c.in_ok-load.ensures.loaded.wired.gates_are c.self.inside.faults.shape c.load.new.closed.items c.ticks-self-inside.result same_shape
    c.in_ok-load.ensures.set (c.shape-shape.ensures.right.tables ∙ ap tables_of same_shape) (sym c.ticks-self-inside.ensures) in
    record {
      sound = c.self.invariant.sound;
      prepared = c.in_ok-load.ensures.prepared;
      as_many = as_many_none (search rules) (search rules);
      listed = c.load.ensures.closed;
      running = λ _. running_begun c.in_ok-load.ensures.loaded c.in_ok-load.ensures.first given (search rules) (search rules);
    }

pub returns-clause-begun : goal.returns-clause-begun
returns-clause-begun c =
    let same_shape : c.args.config.now.config.shape ≡ c.self.inside.faults.shape = c.requires ∙ sym (ap (λ v. v.machine.shape) c.self.view_is) in
    let given : config_in c.self.inside.faults.shape c.load.new.closed.items c.load.new.board.gates.items c.ticks-self-inside.result ≡ c.args.config.now.config =
    config_is c.load.new.board.gates.items c.in_ok-load.ensures.loaded.wired.gates_are c.self.inside.faults.shape c.load.new.closed.items c.ticks-self-inside.result same_shape
    c.in_ok-load.ensures.set (c.shape-shape.ensures.right.tables ∙ ap tables_of same_shape) (sym c.ticks-self-inside.ensures) in
    session_begun given (search rules) (search rules) (omega (arith, c.from-self-inside.ensures))
