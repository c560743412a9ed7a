use Rattle.std.proofs.Common.{◌≡◌, ◌-◌, ◌<◌, ◌≤◌, false, take, length}
use Rattle.rig_port.proofs.Vocabulary.{KeepLengths, machine_told, HasTurned, IsKeptUp, Turns, StandsTold, Behind, GoOn}
use Rattle.rig_port.proofs.turn.turn_some.Given as goal

abbrev pub invariant-turns : goal.invariant-turns
invariant-turns g l = (machine_told (g.P.Port.port_state l.port) ≡ machine_told (g.P.Port.port_state l.initial.port))
    × ((g.P.Port.port_state l.initial.port).failures ≤ (g.P.Port.port_state l.port).failures)
    × KeepLengths l.initial.reads l.reads
    × IsKeptUp (g.P.Port.port_state l.port) l.initial.link l.link
    × HasTurned (take l.at l.drives) (take l.at l.reads) l.initial.link.due l.initial.link.set.config (g.P.Port.port_state l.initial.port).device
    l.link.due (g.P.Port.port_state l.port).device
    × (l.at ≤ length l.drives)
    × (0 < l.at → l.link.due ≡ false)
    × (l.initial.link.due ≡ false → l.link.due ≡ false)
    × GoOn l.initial.link.set.config.shape l.initial.link.talk l.link.talk (g.P.Port.port_state l.initial.port).talk (g.P.Port.port_state l.port).talk
    × Behind (Turns (take l.at l.drives) (take l.at l.reads) l.initial.link l.link) l.initial.link.talk l.link.talk
    × (StandsTold (g.P.Port.port_state l.initial.port) l.initial.link.talk → StandsTold (g.P.Port.port_state l.port) l.link.talk)

abbrev pub decreases-turns : goal.decreases-turns
decreases-turns g l = length l.drives - l.at
