-- What is said of a network that there is no room for.
use Rattle.std.specs.Prelude.{◌≡◌}
use Rattle.machine_shape.specs.declared.Shape.{Shape}
use Rattle.machine_defects.specs.Lists.{DefectList}
use Rattle.map_network.specs.declared.network.Network.{Network}
use Rattle.place_plan.specs.{declared.short.Short.Short, Plans.IsShortInOrder}
use Rattle.cmd_steps.specs.declared.refusal.Refusal.TheVariants as refused
use Rattle.cmd_steps.specs.declared.refusal.Stop.{Stop, TheVariants.Refused}

-- want of room is refused, or there was no memory for its line
abbrev pub IsRefusedFor : Shape → Short → Stop → Type 0
IsRefusedFor m short (Refused (refused.Room place)) = place ≡ record { shape = m; short = short }
IsRefusedFor m short (Refused refused.Memory) = Unit {0}
IsRefusedFor m short stop = ⊥

-- why there is no plan for a network
abbrev pub PlanStops : DefectList → Network → Stop → Type 0
PlanStops d network (Refused (refused.Room place)) = (place.shape ≡ d.shape) × IsShortInOrder d.shape d.list network place.short
PlanStops d network (Refused refused.Memory) = Unit {0}
PlanStops d network stop = ⊥
