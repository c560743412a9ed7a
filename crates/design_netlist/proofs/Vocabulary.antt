-- What the proofs here cite of the layers below, and of the specs.
pub use Rattle.std.proofs.Common.{List, None, Some, [], ap, arith, false, fold, get_or, length, map, not, refl, subst, sum_by, sym, take}
pub use Rattle.std.proofs.Common.{true, vec_len, ℕ, ◌++◌, ◌+◌, ◌-◌, ◌<◌, ◌∙◌, ◌≡◌, ◌≤◌}
pub use Rattle.std.proofs.Math.Dec.{eqb}
pub use Rattle.std.proofs.lemmas.Bool.{cases_eq, cases_lt, eq-eqb, eqb-true, false≢true, ltb-false, ltb-true}
pub use Rattle.std.proofs.lemmas.Grind.{get_or_default_zero}
pub use Rattle.std.proofs.lemmas.List.{append-nil, get_or-append-add, get_or-map, get_or_default, length-append, length-map, length-set}
pub use Rattle.std.proofs.lemmas.List.{map-set, take_all}
pub use Rattle.std.specs.List.{All, Contains, flat_map, list_any, range_with_len}
pub use Rattle.design_netlist.specs.declared.netlist_data.Cover.{Cover}
pub use Rattle.design_netlist.specs.declared.netlist_data.LatchDef.{LatchDef}
pub use Rattle.design_netlist.specs.declared.netlist_data.Lit.{Lit}
pub use Rattle.design_netlist.specs.declared.netlist_data.Lit.TheVariants.{Zero}
pub use Rattle.design_netlist.specs.declared.netlist_data.NetlistData.{NetlistData}
pub use Rattle.design_netlist.specs.declared.netlist_data.PortDef.{PortDef}
pub use Rattle.design_netlist.specs.declared.search.Group.{Group}
pub use Rattle.design_netlist.specs.declared.search.State.{State}
pub use Rattle.design_netlist.specs.declared.search.State.TheVariants.{Done, New, Open}
pub use Rattle.design_netlist.specs.Vocabulary.{AreDriversBelow, AreFirstWords, AreGroups, AreSorted, AreWithin, IsBefore, IsClosed}
pub use Rattle.design_netlist.specs.Vocabulary.{IsCoverOver, IsDoubledIn, IsFirst, IsFoundIn, IsFront, IsJoinedOn, IsKept, IsOnCycle}
pub use Rattle.design_netlist.specs.Vocabulary.{IsSearching, Reaches, Reads, StaysSeen, bit_at, cover_at, cover_characters, cover_drive}
pub use Rattle.design_netlist.specs.Vocabulary.{cover_line, cover_of, cover_reads, driver_at, first_state, fits, front, here, is_bit}
pub use Rattle.design_netlist.specs.Vocabulary.{is_sooner, joined, lane_bits, latch_at, latch_drive, latch_read, left_of, line_at, matches}
pub use Rattle.design_netlist.specs.Vocabulary.{no_cover, number_at, onward, reads_of, row_characters, search_number, signal_at}
pub use Rattle.design_netlist.specs.Vocabulary.{some_matches, sooner, start_at, state_at, targets, texts_of, waits_at, word, word_at}
