-- What the crates above, and the proofs here, speak of.
pub use Rattle.place_plan.specs.Lists.{AreLists, AreThose, IsAmongFirst, IsNth, nth_of, same_number}
pub use Rattle.place_plan.specs.Strands.{Crosses, IsAt, IsInside, IsStrand, Visits, at_child, at_outside, at_own, tap_of}
pub use Rattle.place_plan.specs.Room.{ArePorts, AreShort, CrossesAt, CrossesIn, HasPort, HasTerminal, IsAmong, IsChoiceAt, IsFirstShort}
pub use Rattle.place_plan.specs.Room.{IsFreePort, IsMet, IsShortOf, IsTapOf, IsUnmet, NodeSuffices, Pick, PortsAreShort, PortsSuffice}
pub use Rattle.place_plan.specs.Room.{Serves, Suffices, VisitsAt, by_child, by_port, by_terminal, port_for, visit_for}
pub use Rattle.place_plan.specs.Choices.{AreWires, IsAnswer, IsAssignment, IsShort, IsSite, ask_at, is_shut, is_shut_cross, no_ask}
pub use Rattle.place_plan.specs.Choices.{serves_any, serves_by}
pub use Rattle.place_plan.specs.Layouts.{AreHeld, AreVisits, GoOn, HoldOn, IsBoardOf, IsEnough, IsFirstLack, IsLackOf, IsNodesRoom, IsRoom}
pub use Rattle.place_plan.specs.Layouts.{IsRoomAt, LinesAreShort, NodeIsShort, NodeIsShortOf, SufficeBefore, net_in, pick_of, port_by}
pub use Rattle.place_plan.specs.Layouts.{visit_by, visit_of}
pub use Rattle.place_plan.specs.Plans.{AreNeeds, Fits, FitsInOrder, InOrderIsShort, IsFreePin, IsFreePinOf, IsFreeTableOf, IsInOrder}
pub use Rattle.place_plan.specs.Plans.{IsInOrderOf, IsPlaceFail, IsPlan, IsShortInOrder, IsTerminal, driver_of, drives, net_by, nets_in}
pub use Rattle.place_plan.specs.Plans.{number_of, place_of, places, reads, shows}
pub use Rattle.place_plan.specs.Terminals.{AreGrouped, ArePlanNets, IsSized, all_terminals, drive_by, drive_terminals, first_input, give_by}
pub use Rattle.place_plan.specs.Terminals.{gives_of, read_by, reads_at, reads_of, reads_to, show_by, shows_of, terminal_for}
pub use Rattle.place_plan.specs.Choosing.{HasFreeCross, HasLine, IsChoice, port_in}
pub use Rattle.place_plan.specs.Laying.{FitsWith, IsLaid, IsLayout}
pub use Rattle.place_plan.specs.Trees.{AreHomes, AreParents, IsClimb}
pub use Rattle.place_plan.specs.Touches.{AreTouched, IsSpread, IsSpreadUp, Touches, TouchesOf, is_last, list_at, with_last}
pub use Rattle.place_plan.specs.Search.{ArePicks, AreScanned, AreSeen, AskWithin, GoesOn, IsDeadEnd, IsFree, IsPartial, IsScanning}
pub use Rattle.place_plan.specs.Search.{IsShifted, IsShifting, IsShiftingFor, IsStuck, IsTrail, is_seen, line_at, no_step, owner_at}
pub use Rattle.place_plan.specs.Search.{step_at}
pub use Rattle.place_plan.specs.Taps.{AreAscending, AreAsks, AreAsksOf, AreTaps, IsAskOf, IsBoard, IsFound, IsFreeLine, IsHeld, IsTapAmong}
pub use Rattle.place_plan.specs.Taps.{IsTapBy, IsTapFor, VisitsIn, with_option}
pub use Rattle.place_plan.specs.Enough.{AtLeast, HasEnough, HasSoundParts, HasStandingRoom, IsOpenLineOf, IsSoundPinOf, IsSoundPort}
pub use Rattle.place_plan.specs.Enough.{IsSoundTableOf, IsStandingLineOf, IsStandingPort, IsStandingTableOf, IsWholeLineOf}
