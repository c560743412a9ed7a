use Rattle.rig_simulated.proofs.Vocabulary.{◌≡◌, IsSome, length, take, KeepLengths}
use Rattle.rig_simulated.proofs.Turns.{AreUnderWay}
use Rattle.rig_simulated.proofs.sim.Sim.cycles.Given as goal

abbrev pub invariant-turns : goal.invariant-turns
invariant-turns l = record {
  machine : l.self.machine ≡ l.fn.self.machine;
  session : IsSome l.self.session;
  lengths : KeepLengths l.fn.reads l.reads;
  under_way : AreUnderWay l.fn.self.machine.faults (length l.drives) l.k (take l.k l.drives) (take l.k l.reads) l.fn.self.session l.self.session;
}
