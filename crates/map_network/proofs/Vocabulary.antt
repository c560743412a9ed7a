-- What the proofs here cite of the layers below, and of the specs.
pub use Rattle.std.proofs.Common.{Bool, List, MatchOption, None, [], ap, arith, bit_and, drop, false, get_or, if◌then◌else◌, inl, inr}
pub use Rattle.std.proofs.Common.{length, map, nat_lt, not, refl, replicate, slice_index, subst, suc, sum_by, sym, take, true, vec_len}
pub use Rattle.std.proofs.Common.{zero, ℕ, ◌&&◌, ◌*◌, ◌++◌, ◌+◌, ◌-◌, ◌<◌, ◌^◌, ◌||◌, ◌∙◌, ◌∷◌, ◌≡◌, ◌≤◌}
pub use Rattle.std.proofs.Math.Nat.{pow-le-pow_right, suc-mul}
pub use Rattle.std.proofs.lemmas.Bool.{cases_eq, cases_lt, false≢true, lt-ltb}
pub use Rattle.std.proofs.lemmas.Bool.Decides.{nat_tests}
pub use Rattle.std.proofs.lemmas.List.{append_assoc, drop_all, drop_more, ext_get_or, get_or-map, get_or-set_other, get_or-set_same}
pub use Rattle.std.proofs.lemmas.List.{get_or_default, length-append, length-drop, length-map, length-replicate, length_push, map-append}
pub use Rattle.std.proofs.lemmas.List.Elements.{All-filter, All-set, Contains-append_cases, Contains-append_left, Contains-append_right}
pub use Rattle.std.proofs.lemmas.List.Elements.{Contains-get_or, filter-append}
pub use Rattle.std.proofs.lemmas.List.FromFn.{get_or-map-range_with_len, length-map-range_with_len, map-range_with_len_more}
pub use Rattle.std.proofs.lemmas.List.Sums.{count_by-le-length, length-filter, sum_by-cons, sum_by-drop_more, sum_by-le-sum_by, sum_by-set}
pub use Rattle.std.proofs.lemmas.List.Sums.{sum_by-take-le, sum_by_more}
pub use Rattle.std.specs.List.{All, Contains, filter, flat_map, range_with_len}
pub use Rattle.design_netlist.specs.declared.netlist_data.Cover.{Cover}
pub use Rattle.design_netlist.specs.declared.netlist_data.LatchDef.{LatchDef}
pub use Rattle.design_netlist.specs.declared.netlist_data.Lit.{Lit}
pub use Rattle.design_netlist.specs.declared.netlist_data.Lit.TheVariants.{Any, One, Zero}
pub use Rattle.design_netlist.specs.declared.netlist_data.NetlistData.{NetlistData}
pub use Rattle.design_netlist.specs.declared.netlist_data.PortDef.{PortDef}
pub use Rattle.design_netlist.specs.Vocabulary.{cover_at, cover_characters, fits, matches, no_cover, row_characters, some_matches}
pub use Rattle.map_network.specs.declared.network.NetTable.{NetTable}
pub use Rattle.map_network.specs.declared.network.Network.{Network}
pub use Rattle.map_network.specs.declared.source.Source.{Source}
pub use Rattle.map_network.specs.declared.source.Source.TheVariants.{Input, Table}
pub use Rattle.map_network.specs.declared.want.Gate.{Gate}
pub use Rattle.map_network.specs.declared.want.Want.{Want}
pub use Rattle.map_network.specs.Spreading.{begins}
pub use Rattle.map_network.specs.Vocabulary.{AreBelow, AreCovers, AreKept, AreMarks, AreRanks, AreSourcesIn, CanJoin, DoesSame, IsClosed}
pub use Rattle.map_network.specs.Vocabulary.{IsCombinational, IsCompacted, IsDeepest, IsFollowing, IsKept, IsMergedOf, IsMost, IsNetwork}
pub use Rattle.map_network.specs.Vocabulary.{IsNewAmong, IsNoDeeper, IsPath, IsSearching, IsWhole, MayPut, Puts, Spreads, address_by, alone}
pub use Rattle.map_network.specs.Vocabulary.{any, bit_with, cell_at, cover_drives, distinct, every, flip, gate_table, groups, in_tables}
pub use Rattle.map_network.specs.Vocabulary.{input_drives, is_among, is_dropped, is_narrow, is_wanted, kept_tables, latch_drives, level_at}
pub use Rattle.map_network.specs.Vocabulary.{mark_at, marked_in, masks_at, met, named_by, new_table, no_table, none_gone, noted}
pub use Rattle.map_network.specs.Vocabulary.{noted_tables, number, number_of, onward, pin_named, rank, readers_at, renamed, renamed_table}
pub use Rattle.map_network.specs.Vocabulary.{row_size, row_wants, rows_size, rows_wants, source_at, source_in, source_level, table_at}
pub use Rattle.map_network.specs.Vocabulary.{together, tree, tree_size, unread, wants_from, wants_in, written}
unfoldable pub use Rattle.map_network.specs.Vocabulary.{all_readers, cover_size, covers_tables, joined_truth, latch_table, plain_network}
unfoldable pub use Rattle.map_network.specs.Vocabulary.{six_bits, tree_ends, trees}
