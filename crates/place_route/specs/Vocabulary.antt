-- What the crates above, and the proofs here, speak of.
pub use Rattle.place_route.specs.RightImages.{IsRightForNetwork, IsRightImage, ReadsRows}
pub use Rattle.place_route.specs.RoutedImages.{IsRoutedFor, IsRoutedInOrder}
pub use Rattle.place_route.specs.Layouts.{IsLaidOut, IsSet, IsWired, image_at, reader_of, setting_in, shower_of}
pub use Rattle.place_route.specs.Trees.{AreTerminals, IsLaidOnTree, IsNetTap, IsOfNet, as_line, as_port, as_terminal, by_child, by_port}
pub use Rattle.place_route.specs.Trees.{by_terminal}
pub use Rattle.place_route.specs.Routed.{AreWiresOf, HasPortIn, IsJoined, IsLaidBy, IsRouteOf, IsRouted}
pub use Rattle.place_route.specs.Ticks.{AreTicks}
pub use Rattle.place_route.specs.Owners.{AreLines, AreOwners, HasLine, Holds, HoldsPort, IsClaimedBy, IsMarked, IsPut, line_in, owner_at}
pub use Rattle.place_route.specs.Closing.{Closes, IsJoint, IsJointAt, IsNear, IsOwnedJoint, IsWireJoint, SwitchesOn, no_seat}
