-- What the proofs here cite of the layers below, and of the specs.
pub use Rattle.std.proofs.Common.{Bool, List, ap, arith, bit_and, drop, false, get_or, length, map, not, refl, subst, sym, take, true, ℕ}
pub use Rattle.std.proofs.Common.{◌%◌, ◌&&◌, ◌*◌, ◌++◌, ◌+◌, ◌-◌, ◌<◌, ◌||◌, ◌∙◌, ◌≡◌, ◌≤◌}
pub use Rattle.std.proofs.Math.Seq.{get_or-append_seam, take-append_seam}
pub use Rattle.std.proofs.lemmas.Bool.{cases_eq, cases_lt, eq-eqb, eqb-true}
pub use Rattle.std.proofs.lemmas.Grind.{get_or_default_zero}
pub use Rattle.std.proofs.lemmas.List.{drop_more, ext_get_or, get_or-map, get_or-replicate, get_or-take, get_or_default, get_or_past}
pub use Rattle.std.proofs.lemmas.List.{length-map, length-replicate, length-set, length-take-le, take-map, take_all}
pub use Rattle.std.proofs.lemmas.Simd.{map-map}
pub use Rattle.std.specs.List.{Contains, flat_map}
pub use Rattle.design_netlist.specs.declared.netlist_data.Cover.{Cover}
pub use Rattle.design_netlist.specs.declared.netlist_data.LatchDef.{LatchDef}
pub use Rattle.design_netlist.specs.declared.netlist_data.NetlistData.{NetlistData}
pub use Rattle.design_netlist.specs.declared.netlist_data.PortDef.{PortDef}
pub use Rattle.design_netlist.specs.Vocabulary.{IsCoverOver, IsOrder, IsSettled, IsSettledTo, bit_at, cover_at, cover_of, is_bit, lane_bits}
pub use Rattle.design_netlist.specs.Vocabulary.{no_cover, number_at, truth}
pub use Rattle.design_netlist.proofs.CheckLemmas.{cover_place, cover_signal, few_covers}
pub use Rattle.design_netlist.proofs.LaneLemmas.{all-bits, and-bit, lane-at, lane-set, no-bit, not-bit, or-bit}
pub use Rattle.design_netlist.proofs.ValuationLemmas.{map_same, same_truth}
pub use Rattle.design_eval.specs.declared.readers.Readers.{Readers}
pub use Rattle.design_eval.specs.declared.turns.Turn.{Turn}
pub use Rattle.design_eval.specs.Bits.{AreApart, AreBelow}
unfoldable pub use Rattle.design_eval.specs.Bits.{bits_put}
pub use Rattle.design_eval.specs.Lanes.{chosen}
unfoldable pub use Rattle.design_eval.specs.Lanes.{addresses}
pub use Rattle.design_eval.specs.Latches.{HaveBits, HavePut}
pub use Rattle.design_eval.specs.Marks.{AreFree, AreKept, AreOthersSame, AreTaken, HasGiven, StillKept, StillTaken}
pub use Rattle.design_eval.specs.Readers.{AreKeys, AreListed, AreReaders, AreStarts, HaveKeys, IsFrom, IsListed, Splits, ins_at, reader_key}
pub use Rattle.design_eval.specs.Smalls.{AreQuick, IsQuick, IsSmall, quick_at}
pub use Rattle.design_eval.specs.Tables.{AreCells, AreWires, IsTable, six_bits, truth_at}
unfoldable pub use Rattle.design_eval.specs.Tables.{address}
pub use Rattle.design_eval.specs.Turns.{AreTurns, IsTurn, places, turn_at}
