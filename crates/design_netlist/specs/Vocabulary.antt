-- What the crates above, and the proofs here, speak of.
pub use Rattle.design_netlist.specs.Names.{beginning_at, front, joined, no_beginning, text_in, texts_of, whole, with_text}
pub use Rattle.design_netlist.specs.Orders.{IsBefore, IsFirst, is_sooner}
pub use Rattle.design_netlist.specs.Covers.{IsCoverOver, IsOnCycle, Reaches, Reads, cover_at, cover_line, cover_of, fits, here, matches}
pub use Rattle.design_netlist.specs.Covers.{no_cover, onward, some_matches, truth}
pub use Rattle.design_netlist.specs.Drivers.{AreDrivers, AreDriversBelow, IsDriver, IsDriverBelow, driver_at}
pub use Rattle.design_netlist.specs.Drafts.{IsDriven, IsWellMade, cover_characters, cover_drive, cover_reads, drive_words, latch_drive}
pub use Rattle.design_netlist.specs.Drafts.{latch_read, line_at, name_at, reads_of, row_characters, signal_at, word, word_at}
pub use Rattle.design_netlist.specs.Valuations.{HasOneValuation, IsOrder, IsSettled, IsSettledTo, bit_at, number_at}
pub use Rattle.design_netlist.specs.Checks.{IsChecked, IsDoubledIn, IsFirstDoubled, IsFirstUndriven, IsRefusalOf, IsUndriven}
pub use Rattle.design_netlist.specs.Rows.{AreRows, HasOneRight, IsRightValuation, RowsFrom, first_state, next_state, outputs_in}
pub use Rattle.design_netlist.specs.Searches.{AreHandled, AreNumbered, IsClosed, IsFront, IsHandled, IsJoinedOn, IsKept, IsListed, IsOpened}
pub use Rattle.design_netlist.specs.Searches.{IsSearch, IsSource, LeadsTo, StaysSeen, and_target, cost, is_done, is_open, is_spare}
pub use Rattle.design_netlist.specs.Searches.{is_waiting, search_number, start_at, state_at, targets, waits_at, work}
pub use Rattle.design_netlist.specs.States.{IsSearching, left_of}
pub use Rattle.design_netlist.specs.Sorts.{AreSorted}
pub use Rattle.design_netlist.specs.Groups.{AreGroups, numbers_of}
pub use Rattle.design_netlist.specs.Words.{AreBelow, AreFirstWords, AreLatchesBelow, AreWithin, IsDrivenOnce, IsFoundIn, latch_at, nearer}
pub use Rattle.design_netlist.specs.Words.{place_at, sooner}
pub use Rattle.design_netlist.specs.Lanes.{is_bit, lane_bits}
