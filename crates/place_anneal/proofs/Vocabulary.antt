-- What the proofs here cite of the layers below, and of the specs.
pub use Rattle.std.proofs.Common.{IfSome, List, None, Option, Some, [], ap, arith, get_or, length, length-take, map, refl, slice_index_or}
pub use Rattle.std.proofs.Common.{subst, sym, take, true, ℕ, ◌*◌, ◌<◌, ◌∙◌, ◌≡◌, ◌≤◌}
pub use Rattle.std.proofs.lemmas.List.Sorted.{All-permutation, IsPermutation-map, length_permutation}
pub use Rattle.std.specs.List.{All, AllPairs, sum_by}
pub use Rattle.machine_shape.specs.declared.Shape.{Shape}
unfoldable pub use Rattle.machine_shape.specs.Vocabulary.{nodes_of, pin_wire, pins_of, tables_of}
pub use Rattle.machine_meaning.specs.Vocabulary.{Defects, IsFreeTable, IsFreeWire}
pub use Rattle.map_network.specs.declared.network.Network.{Network}
pub use Rattle.place_plan.specs.declared.plan.Plan.{Plan}
pub use Rattle.place_plan.specs.Vocabulary.{AreLists, CrossesAt, HasTerminal, IsFreeTableOf, IsPlan, number_of, places}
pub use Rattle.place_anneal.specs.declared.seats.Seat.{Seat}
pub use Rattle.place_anneal.specs.Seats.{AreFreeTables, AreMarked, HasMark, number_at}
