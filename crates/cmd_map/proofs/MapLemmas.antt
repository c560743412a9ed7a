-- The steps of the mapper.
use Rattle.cmd_map.proofs.Vocabulary.{◌≡◌, [], refl, Result, Ok, Err, NetlistData, plain_network, HasPlan, MayStandFor, Remapped, Around}
use Rattle.cmd_map.proofs.Vocabulary.{Outside, StepStops, IsCounted, Took, IsExcused, DesignText, took-stop, NotMapped, maps_within}
use Rattle.machine_defects.specs.Lists.{DefectList}
use Rattle.place_design.specs.{Laying.HasRoom, Wants.PlanStops}
use Rattle.cmd_steps.specs.declared.refusal.{Refusal.Refusal, Stop.Stop, Stop.TheVariants.Refused}
use Rattle.cmd_steps.specs.declared.refusal.Refusal.TheVariants as refused

-- a plan of the plain network is room
pub room-of : (d : DefectList) (draft : NetlistData) → HasPlan d draft → HasRoom d draft
room-of d draft h = record { network = plain_network draft; plan = h.plan; plain = refl; fits = h.fits }

-- there is no plan for the design as given, and so no text
fit-stops : (d : DefectList) (read : DesignText) (stop : Stop) → PlanStops d (plain_network read.netlist) stop → StepStops (maps_within d read) stop
fit-stops d read (Refused (refused.Room place)) stops =
    record { network = plain_network read.netlist; plain = refl; shape = stops.0; short = stops.1 }
fit-stops d read (Refused refused.Memory) stops = tt
fit-stops d read stop stops = absurd stops

fit-counted : (d : DefectList) (read : DesignText) (stop : Stop) (o : Outside) → PlanStops d (plain_network read.netlist) stop → IsCounted ⊥ stop o o
fit-counted d read (Refused (refused.Room place)) o stops = tt
fit-counted d read (Refused refused.Memory) o stops = tt
fit-counted d read stop o stops = absurd stops

pub fit-took : (d : DefectList) (read : DesignText) (stop : Stop) (o : Outside) → PlanStops d (plain_network read.netlist) stop → Took {T = Remapped} [] (maps_within d read) (Err stop) o o
fit-took d read stop o stops = took-stop (maps_within d read) stop o (fit-stops d read stop stops) (fit-counted d read stop o stops)

-- lack of memory is excused
pub map-excused : (old new : Around) (refusal : Refusal) → NotMapped refusal → IsExcused refusal old new
map-excused old new refused.Memory stops = tt
map-excused old new refusal stops = absurd stops
