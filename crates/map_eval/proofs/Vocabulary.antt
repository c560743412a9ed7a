-- What the proofs here cite of the layers below, and of the specs.
pub use Rattle.std.proofs.Common.{Bool, IfSome, List, MatchOption, Option, [], ap, arith, bit_and, bit_xor, false, get_or, length, refl}
pub use Rattle.std.proofs.Common.{subst, sym, take, true, w64, ℕ, ◌+◌, ◌-◌, ◌/◌, ◌<◌, ◌==◌, ◌∙◌, ◌∷◌, ◌≡◌, ◌≤◌}
pub use Rattle.std.proofs.lemmas.Bool.{cases_eq, cases_lt, eqb-true}
pub use Rattle.std.proofs.lemmas.List.{ext_get_or, get_or-map, get_or-set_other, get_or-set_same, get_or_default, get_or_past, length-map}
pub use Rattle.std.proofs.lemmas.List.{length-replicate, length-set}
pub use Rattle.std.proofs.lemmas.Nat.{and_le_l, le_or_l, le_or_r, pow_below, xor_lt}
pub use Rattle.std.proofs.lemmas.Nat.Bits.{bit_at-lt, bit_at-pow_other, bit_at-pow_same, bit_at-trailing_zeros, bit_at_xor}
pub use Rattle.std.proofs.lemmas.Nat.Bits.{same_from_bits_below}
pub use Rattle.std.specs.Int.{bit_at}
pub use Rattle.std.specs.List.{All, Contains, range_with_len}
pub use Rattle.std.specs.Vec.{with_items}
pub use Rattle.design_netlist.proofs.BitLemmas.{six_places, two_bits}
pub use Rattle.map_network.specs.declared.network.NetTable.{NetTable}
pub use Rattle.map_network.specs.declared.network.Network.{Network}
pub use Rattle.map_network.specs.declared.source.Source.{Source}
pub use Rattle.map_network.specs.declared.source.Source.TheVariants.{Input, Table}
pub use Rattle.map_network.specs.Vocabulary.{IsCombinational, IsLatched, IsSourceOf, Reads, RowsFrom, bit_of, cell_at, flip, in_tables}
pub use Rattle.map_network.specs.Vocabulary.{named_by, no_table, outputs_in, table_at}
pub use Rattle.map_network.proofs.CellLemmas.{bit_of_cell, cell_and, cell_not, cell_of_number, cell_or, cell_zero, number_of_six}
pub use Rattle.map_eval.specs.declared.pins.Pin.{Pin}
pub use Rattle.map_eval.specs.declared.plan.Plan.{Plan}
pub use Rattle.map_eval.specs.declared.state.State.{State}
pub use Rattle.map_eval.specs.Changes.{AreOthersAsBefore, IsEvaluated, IsTurnedAt, differs_in}
pub use Rattle.map_eval.specs.Evals.{IsFirst, NetworkState, RowsOn}
pub use Rattle.map_eval.specs.Latching.{AreDue, AreDueIn, AreTurnedBy, HaveTaken}
pub use Rattle.map_eval.specs.Marks.{AreMarked, AreMarkedTo, differs, is_marked, number_at}
pub use Rattle.map_eval.specs.Pins.{AreApart, AreInRange, IsAmong, pin_at, pin_of, pins_at, signal_of, source_at}
pub use Rattle.map_eval.specs.Placing.{AreInsInRange, AreInsLower, AreInverse, ArePlaced, IsPlaced, IsStandIn}
pub use Rattle.map_eval.specs.Settling.{AreClear, AreGivenBefore, AreSettled}
pub use Rattle.map_eval.specs.Starting.{HaveAddressesTo, HaveMasksTo, IsAddress, first_values}
pub use Rattle.map_eval.specs.States.{AreGates, HaveMasks, HavePins, IsKept, IsLower, IsOrdered, IsPlan, pin_bit, value_in}
pub use Rattle.map_eval.specs.Turns.{AreLow, ArePinsIn, AreTurned}
pub use Rattle.map_eval.specs.Wires.{AreLatchedSame, AreTablesIn, AreTrueTo, HaveInputs, HaveTakenTo, one_of}
