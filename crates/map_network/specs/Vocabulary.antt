-- What the crates above, and the proofs here, speak of.
pub use Rattle.map_network.specs.Networks.{IsCombinational, IsDeepest, IsLatched, IsNetwork, IsNoDeeper, IsPath, IsSourceOf, alone}
pub use Rattle.map_network.specs.Networks.{no_table, onward, table_at}
pub use Rattle.map_network.specs.Rows.{AreRows, HasOneRows, HasRowsOf, IsNetworkValuation, RowsFrom, bit_of, cell_at, first_state}
pub use Rattle.map_network.specs.Rows.{next_state, number_of, outputs_in, pins_of, truth}
pub use Rattle.map_network.specs.Depths.{IsDepth}
pub use Rattle.map_network.specs.Plain.{IsPlainNetwork, any, distinct, every, flip, gate_table, groups, is_narrow, met, narrow_table}
pub use Rattle.map_network.specs.Plain.{pin_named, row_wants, rows_wants, sixes, source_of, together, tree, want_table, wants_from}
pub use Rattle.map_network.specs.Plain.{wide_tables}
unfoldable pub use Rattle.map_network.specs.Plain.{cells_where, cover_ends, cover_size, cover_tables, covers_tables, latch_table, levels}
unfoldable pub use Rattle.map_network.specs.Plain.{plain_network, six_bits, source_among, sources_of, tree_ends, trees}
pub use Rattle.map_network.specs.Merging.{CanJoin, IsWhole, Reads, number, numbers_without}
pub use Rattle.map_network.specs.Joining.{DoesSame, IsJoined, IsPut, IsPutOn, IsReduced, IsUnread, MayPut, Puts, address_by, bit_with}
pub use Rattle.map_network.specs.Joining.{in_tables, more, none, noted, noted_one, noted_tables, one_more, readers_at, unread, with_reader}
unfoldable pub use Rattle.map_network.specs.Joining.{all_readers, joined_truth}
pub use Rattle.map_network.specs.Compacting.{AreKept, AreRanks, IsClosed, IsCompacted, IsKept, compacted, is_dropped, kept_tables, named_by}
pub use Rattle.map_network.specs.Compacting.{rank, renamed, renamed_table}
pub use Rattle.map_network.specs.Leading.{AllLead, AreUseless, LeadsToOutput, is_read, is_shown}
pub use Rattle.map_network.specs.Merges.{IsMerge, Merges, StillReads, drops, merges, none_gone, prunes}
pub use Rattle.map_network.specs.Levels.{AreMarks, AreSourcesIn, IsDoneIn, IsLastOf, IsLevel, IsMost, IsNewAmong, IsReadByLast, IsSearch}
pub use Rattle.map_network.specs.Levels.{IsSearching, IsSourceIn, StaysSeen, cost, done_in, if_new, is_done, level_at, level_in, level_of}
pub use Rattle.map_network.specs.Levels.{mark_at, new_table, source_at, source_level, work_of}
pub use Rattle.map_network.specs.Cells.{Give, is_among, masks_at}
pub use Rattle.map_network.specs.Sizes.{is_wanted, row_size, rows_size, tree_size, wants_in}
unfoldable pub use Rattle.map_network.specs.Sizes.{levels_size}
pub use Rattle.map_network.specs.Drives.{Drive, all_drives, cover_drives, input_drives, latch_drives, source_in, written}
pub use Rattle.map_network.specs.Bounds.{AreBelow, AreCovers, AreLatches, ArePorts, latch_at, no_latch}
pub use Rattle.map_network.specs.Passes.{IsFound, IsMergedOf, IsSmaller}
pub use Rattle.map_network.specs.Spreading.{Spreads, puts}
pub use Rattle.map_network.specs.Pruning.{AreUsed, IsAsBefore, IsFollowing, IsPruned, IsTaken, IsUsed, if_marked, marked_in}
