-- What the crates above, and the proofs here, speak of.
pub use Rattle.diag_evidence.specs.Kept.{Advances, AdvancesButPairs, CanSettle, FewCycles, Gain, Gains, HasFew, HasRetaken}
pub use Rattle.diag_evidence.specs.Kept.{HasSettled, HoldsFor, HoldsUntried, IsButPairs, IsMore, IsMoreButPairs, KeepsNothing}
pub use Rattle.diag_evidence.specs.Kept.{KeepsSet, KeepsTrial, Kept, TakesFewCycles, most_cycles, nothing}
pub use Rattle.diag_evidence.specs.Kept.{one_cell, one_cross, one_register, row_over, these_wires, untried, with_trial}
unfoldable pub use Rattle.diag_evidence.specs.Kept.{in_row, is_apart, keeps_cell, keeps_cross, keeps_pair, keeps_register, keeps_wire}
unfoldable pub use Rattle.diag_evidence.specs.Kept.{on_trial}
pub use Rattle.diag_evidence.specs.Readings.{AllApartPasses, CellPasses, CrossPasses, HasCycled, IsReady, Reads, ReadsOnce}
pub use Rattle.diag_evidence.specs.Readings.{ReadsTwice, RegisterPasses, SwingPasses, TellsApart, TellsFromAll, TellsSwing, wires_over}
pub use Rattle.diag_evidence.specs.Logged.{HasLogged, LogsRows, ShowsApart, ShowsFromAll, ShowsSwing, one_cycle, two_cycles}
pub use Rattle.diag_evidence.specs.Loops.{AreTied, IsLoopBy, LoopPasses, RoutePasses}
pub use Rattle.diag_evidence.specs.Tables.{CellPassesBy, IsCellBy, IsTableBy, IsTied, RegisterPassesBy}
pub use Rattle.diag_evidence.specs.Leads.{BranchFrom, ClosesAlong, HasLed, IsLead, IsLeadOf, KnowsLeads, MarksStuck, ShowsLed, StuckIf}
pub use Rattle.diag_evidence.specs.Leads.{arrives, closes_along, crosses_along, crosses_of_leads, ends_on, held_up_at, is_met, is_only_unkept}
pub use Rattle.diag_evidence.specs.Leads.{led_over, loose_along, these_crosses, wires_along, wires_of_leads}
pub use Rattle.diag_evidence.specs.Forests.{CanLay, HangsOn, IsForest, IsLedOver, IsOfTree, KeepsForest, KnowsForest, MarksHung, Trees, bare}
pub use Rattle.diag_evidence.specs.Forests.{is_hung, is_laid, pin_of, with_laid, with_planted}
pub use Rattle.diag_evidence.specs.Looks.{AreSights, IsLook, IsLookOf, LogsLook, ReadsEach, ShowsSeen, Sights, differ}
pub use Rattle.diag_evidence.specs.Looks.{look_drives, none_driven, one_driven, parts, read_at, read_free, read_under, reads_somewhere}
pub use Rattle.diag_evidence.specs.Looks.{hangs_swinging, joins_alone, parts_from_others, seen_in, swings}
pub use Rattle.diag_evidence.specs.Hangs.{AreAllOf, AreFeet, AreHangs, ClosesForest, ClosesJust, Foot, HasHungOn, HasMarked, HasTold, HasTried, IsFoot}
pub use Rattle.diag_evidence.specs.Hangs.{MarksUnclear, MarksUnfit, StayMarked, UnclearIf, UnfitIf, all_feet, all_hang, answered}
pub use Rattle.diag_evidence.specs.Hangs.{closes, falls_with_others, feet_crosses, is_shown, is_swinging_on, is_unclear_in, is_unfit_in}
pub use Rattle.diag_evidence.specs.Hangs.{joined_by, joins, others, others_part, others_part_from, over_of, overs, parts_from_hung}
pub use Rattle.diag_evidence.specs.Hangs.{pin_at, pin_p, pin_q, reads_alike}
pub use Rattle.diag_evidence.specs.Hangs.{reads_oddly, seen_on, shown, shows_unclear, shows_unfit, silent, some_answers}
pub use Rattle.diag_evidence.specs.Hangs.{LogsThree, ShowsHung, ShowsSilent, ShowsTried, turned}
pub use Rattle.diag_evidence.specs.Plans.{HasLearnt, HasViewed, LogsViews}
pub use Rattle.diag_evidence.specs.TableRows.{AreAddressDrives, AreOpposite, AreTablesOn, HasTabled, IsInputPin, IsTableConfig, IsTableLoad}
pub use Rattle.diag_evidence.specs.TableRows.{IsTableSession, MarksWrong, ShowsTabled, WrongIf, is_one_of, is_right_in}
pub use Rattle.diag_evidence.specs.TableRows.{output_pin, right_parts}
unfoldable pub use Rattle.diag_evidence.specs.TableRows.{is_right_before}
pub use Rattle.diag_evidence.specs.Sheets.{AreAddressesOf, AreTableDrives, HasAddress, HasInputs, HaveWidth, IsPinOf, IsReadTwice}
pub use Rattle.diag_evidence.specs.Sheets.{IsReadyFor, LogsSheet, SwitchesOn, right_cells}
