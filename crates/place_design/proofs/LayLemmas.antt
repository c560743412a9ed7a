-- Where a design is laid, and where it isn't.
use Rattle.place_design.proofs.Vocabulary.{◌≡◌, ◌<◌, [], Result, Ok, Err, IfOk, IfErr, Shape, DefectList, NetlistData, Network}
use Rattle.place_design.proofs.Vocabulary.{IsPlainNetwork, Short, InOrderIsShort, IsShortInOrder, lays}
use Rattle.machine_shape.specs.Shape.{nodes_of}
use Rattle.machine_shape.proofs.Totals.{nodes_are}
use Rattle.place_plan.specs.declared.short.Need.{Need}
use Rattle.place_plan.specs.declared.short.Resource.{Resource, TheVariants.Tables, TheVariants.Pins, TheVariants.Ports, TheVariants.Lines}
use Rattle.machine_image.specs.Images.{ImageValue}
use Rattle.cmd_steps.specs.{Vocabulary.Outside, Vocabulary.StepStops, Vocabulary.IsCounted, Vocabulary.Took, declared.refusal.Stop.Stop}
use Rattle.cmd_steps.specs.declared.refusal.Refusal.TheVariants as refused
use Rattle.cmd_steps.specs.declared.refusal.Stop.TheVariants.{Refused}
use Rattle.cmd_steps.proofs.Taking.{took-stop, took-value}
use Rattle.place_design.specs.Wants.{IsRefusedFor, PlanStops}

-- what is short is short at a node of the machine
resource-node : (r : Resource) (m : Shape) (d : _) (n : Network) (tables pins : Need) (s : Short) → InOrderIsShort r m d n tables pins s → s.node.0 < nodes_of m
resource-node Tables m d n tables pins s short = rw short.0 (nodes_are m).2
resource-node Pins m d n tables pins s short = rw short.1 (nodes_are m).2
resource-node Ports m d n tables pins s short = short.2.0.2
resource-node Lines m d n tables pins s short = short.2.0.2

pub short-node : (d : DefectList) (n : Network) (s : Short) → IsShortInOrder d.shape d.list n s → s.node.0 < nodes_of d.shape
short-node d n s short = resource-node s.resource d.shape d.list n short.tables short.pins s short.short

-- there is no plan
pub room-plan : (d : DefectList) (n : Network) (m : Shape) (s : Short) (stop : Stop) → m ≡ d.shape → IsShortInOrder d.shape d.list n s → IsRefusedFor m s stop → PlanStops d n stop
room-plan d n m s (Refused (refused.Room place)) shape short is = rw is (shape, short)
room-plan d n m s (Refused refused.Memory) shape short is = tt
room-plan d n m s stop shape short is = absurd is

-- and no image
pub plan-image : (d : DefectList) (draft : NetlistData) (n : Network) (stop : Stop) → IsPlainNetwork draft n → PlanStops d n stop → StepStops (lays d draft) stop
plan-image d draft n (Refused (refused.Room place)) plain stops = record { network = n; plain = plain; shape = stops.0; short = stops.1 }
plan-image d draft n (Refused refused.Memory) plain stops = tt
plan-image d draft n stop plain stops = absurd stops

-- ---- the step

-- a design that isn't laid has nothing to do with what is around
lay-counted : (d : DefectList) (draft : NetlistData) (stop : Stop) (o : Outside) → StepStops (lays d draft) stop → IsCounted ⊥ stop o o
lay-counted d draft (Refused (refused.Room place)) o stops = tt
lay-counted d draft (Refused refused.Memory) o stops = tt
lay-counted d draft stop o stops = absurd stops

pub lay-took : (d : DefectList) (draft : NetlistData) (result : Result ImageValue Stop) (o : Outside) → IfOk result (lays d draft).gives → IfErr result (StepStops (lays d draft)) → Took [] (lays d draft) result o o
lay-took d draft (Ok i) o found stops = took-value (lays d draft) i o found
lay-took d draft (Err stop) o found stops = took-stop (lays d draft) stop o stops (lay-counted d draft stop o stops)
