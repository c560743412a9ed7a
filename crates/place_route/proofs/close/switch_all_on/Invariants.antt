use Rattle.place_route.specs.Closing.{SwitchesOn}
use Rattle.place_route.proofs.close.switch_all_on.Given as goal

abbrev pub invariant-loop-j : goal.invariant-loop-j
invariant-loop-j l = SwitchesOn l.seats l.tables l.j l.fn.config.config l.config.config
