use Rattle.rig_port.proofs.Vocabulary.{◌≡◌, ◌≤◌, machine_told, KeepsSession, StaysPosted, HasStood, GoOn}
use Rattle.rig_port.proofs.Resumed.{HasCounts}
use Rattle.rig_port.proofs.question.attach_again.Given as goal

abbrev pub invariant-tries : goal.invariant-tries
invariant-tries g l = record {
  machine : machine_told (g.P.Port.port_state l.port) ≡ machine_told (g.P.Port.port_state l.initial.port);
  told : HasCounts l.initial.link.set.config.shape (g.P.Port.port_state l.port).device;
  later : (g.P.Port.port_state l.initial.port).failures ≤ (g.P.Port.port_state l.port).failures;
  stays : StaysPosted l.initial.link l.link;
  past : KeepsSession l.initial.again l.again;
  spare : l.again.spare ≡ l.initial.again.spare;
  talks : GoOn l.initial.link.set.config.shape l.initial.link.talk l.link.talk (g.P.Port.port_state l.initial.port).talk (g.P.Port.port_state l.port).talk;
  stood : HasStood (g.P.Port.port_state l.initial.port) l.initial.link.talk → HasStood (g.P.Port.port_state l.port) l.link.talk;
  count : l.initial.failures ≤ l.failures;
}
