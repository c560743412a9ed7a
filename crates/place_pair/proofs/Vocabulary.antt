-- What the proofs here cite of the layers below, and of the specs.
pub use Rattle.std.proofs.Common.{IfOk, List, ap, get_or, length, map, refl, subst, sym, take, true, ℕ, ◌++◌, ◌<◌, ◌^◌, ◌↔◌, ◌∙◌, ◌≡◌, ◌≤◌}
pub use Rattle.std.proofs.lemmas.Bool.{cases_lt, false≢true}
pub use Rattle.std.proofs.lemmas.List.{append_assoc, get_or-append-add, get_or-map, get_or_append_left, get_or_default, length-append}
pub use Rattle.std.proofs.lemmas.List.{length-map, map_more, take_more}
pub use Rattle.std.proofs.lemmas.List.Elements.{All-contains, Contains-append_left, Contains-push, Contains-push_cases}
pub use Rattle.std.specs.List.{All, AllPairs, Contains, list_any, range_with_len}
pub use Rattle.machine_shape.specs.declared.Cross.{Cross}
pub use Rattle.machine_shape.specs.declared.Shape.{Shape}
unfoldable pub use Rattle.machine_shape.specs.Vocabulary.{crosses_of, ends_of, most_closed, most_ticks, pin_wire, pins_of, table_wire}
unfoldable pub use Rattle.machine_shape.specs.Vocabulary.{tables_of, wires_of}
pub use Rattle.machine_meaning.specs.Vocabulary.{Covers, Defects, Faults, IsFaultless, IsFreeCross, IsFreeTable, IsFreeWire, Pins}
pub use Rattle.machine_config.specs.declared.Setting.{Setting}
pub use Rattle.machine_config.specs.Vocabulary.{Configuration, IsRun, cleared, is_closed, setting_of, with_ticks}
pub use Rattle.map_network.specs.declared.network.NetTable.{NetTable}
pub use Rattle.map_network.specs.declared.network.Network.{Network}
pub use Rattle.map_network.specs.declared.source.Source.{Source}
pub use Rattle.map_network.specs.declared.source.Source.TheVariants.{Input, Table}
pub use Rattle.map_network.specs.Vocabulary.{AreRows, HasOneRows, IsDeepest, IsNetwork, IsSourceOf, no_table, table_at}
pub use Rattle.place_plan.specs.declared.layout.Layout.{Layout}
pub use Rattle.place_plan.specs.declared.plan.Plan.{Plan}
pub use Rattle.place_plan.specs.declared.short.Port.{Port}
pub use Rattle.place_plan.specs.Vocabulary.{AreWires, Fits, FitsInOrder, IsPlan, nets_in, nth_of, number_of, place_of}
pub use Rattle.place_plan.proofs.Those.{different_at}
pub use Rattle.machine_image.specs.Vocabulary.{ImageValue, IsFreeImage, IsImage, Uses, at_line, at_pin, at_table, at_tap, bit_for, drive_of}
pub use Rattle.machine_image.specs.Vocabulary.{image_row, row_at, tables_on}
pub use Rattle.place_route.specs.Vocabulary.{AreOwners, AreWiresOf, Closes, IsRouteOf, IsRoutedFor, SwitchesOn, no_seat}
pub use Rattle.place_route.proofs.Making.{laid_by, layout_of, numbering, some_layout}
pub use Rattle.place_route.proofs.Reading.{right_image, ticks_enough}
pub use Rattle.place_route.proofs.Whole.{none_at, wires_are}
pub use Rattle.place_pair.specs.declared.site.Site.{Site}
pub use Rattle.place_pair.specs.JointNetworks.{AreBothRows, joint_network, moved, moved_table, part}
pub use Rattle.place_pair.specs.Sites.{IsFrom, IsHeldAmong, IsHeldBy, IsMovable, IsOwnSource, IsShare, IsSplit, IsTenant, Owns, StandsIn}
pub use Rattle.place_pair.specs.Sites.{first_site, second_site}
pub use Rattle.place_pair.specs.Tenants.{AreTenants, HasPinsOf, RunsAsAlone, RunsAsAloneOver, StandApart}
