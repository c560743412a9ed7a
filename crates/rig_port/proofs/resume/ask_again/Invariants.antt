use Rattle.rig_port.proofs.Vocabulary.{◌≡◌, ◌≤◌, pins_of, KeepLengths, machine_told, HasRows, KeepsSession, StaysLoaded, HasStood, GoOn}
use Rattle.rig_port.proofs.Resumed.{HasShape}
use Rattle.rig_port.proofs.resume.ask_again.Given as goal

abbrev pub invariant-tries : goal.invariant-tries
invariant-tries g l = record {
  machine : machine_told (g.P.Port.port_state l.port) ≡ machine_told (g.P.Port.port_state l.initial.port);
  told : HasShape l.initial.link.set.config.shape (g.P.Port.port_state l.port).device;
  later : (g.P.Port.port_state l.initial.port).failures ≤ (g.P.Port.port_state l.port).failures;
  lengths : KeepLengths l.initial.reads l.reads;
  stays : StaysLoaded l.initial.link l.link;
  rows : HasRows (pins_of l.initial.link.set.config.shape) l.again;
  past : KeepsSession l.initial.again l.again;
  talks : GoOn l.initial.link.set.config.shape l.initial.link.talk l.link.talk (g.P.Port.port_state l.initial.port).talk (g.P.Port.port_state l.port).talk;
  stood : HasStood (g.P.Port.port_state l.initial.port) l.initial.link.talk → HasStood (g.P.Port.port_state l.port) l.link.talk;
  count : l.initial.failures ≤ l.failures;
}
