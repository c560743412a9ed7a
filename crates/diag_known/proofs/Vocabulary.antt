-- What the proofs here cite of the layers below, and of the specs.
pub use Rattle.std.proofs.Common.{List, None, Option, Some, [], ap, arith, false, inl, inr, length, not, refl, rules, slice_get}
pub use Rattle.std.proofs.Common.{slice_index_or, subst, sym, take, true, ℕ, ◌*◌, ◌++◌, ◌+◌, ◌-◌, ◌<◌, ◌∙◌, ◌∷◌, ◌≡◌, ◌≤◌, ◌⊎◌}
pub use Rattle.std.proofs.lemmas.Bool.{and_parts, cases_eq, cases_lt, false≢true, or_left}
pub use Rattle.std.proofs.lemmas.Bool.Decides.{nat_tests}
pub use Rattle.std.proofs.lemmas.List.{append-nil, get_or_past, get_or_read, length-append, length-replicate, length-set, nil_from_length}
pub use Rattle.std.proofs.lemmas.List.{set-set}
pub use Rattle.std.proofs.lemmas.List.Folds.{list_any-append, sum_by-replicate}
pub use Rattle.std.proofs.lemmas.List.Sums.{count_by-le-length, sum_by-cons, sum_by-set}
pub use Rattle.std.proofs.lemmas.Option.{slice_get-get_or, slice_get_past, slice_get_read, slice_get_within}
pub use Rattle.base_bits.specs.Numbers.{has_number, size_of}
pub use Rattle.machine_shape.specs.declared.Cross.{Cross}
pub use Rattle.machine_shape.specs.declared.Shape.{Shape}
pub use Rattle.machine_shape.specs.declared.Wire.{Wire}
pub use Rattle.machine_shape.specs.Vocabulary.{Ends, in_order, turned}
unfoldable pub use Rattle.machine_shape.specs.Vocabulary.{crosses_of, ends_of, pin_wire, pins_of, wires_of}
pub use Rattle.machine_meaning.specs.Vocabulary.{Faults, IsClear, IsFaultless, Pins, Shorted, stuck_cross}
pub use Rattle.machine_meaning.proofs.JoinedLemmas.{Ends-swap, Joined-sym}
pub use Rattle.machine_config.specs.Vocabulary.{Configuration, IsDrivenIn, IsLoop, IsWithin, LeadsTo, among, ends, goes}
pub use Rattle.machine_config.proofs.Grouped.{LeadsTo-end, LeadsTo-start, LeadsTo-within}
pub use Rattle.diag_tests.specs.Vocabulary.{Extends, IsRoute, Walk, at_pin, cross_numbers, other_end}
pub use Rattle.diag_tests.proofs.Longer.{among-push, among_both, at_pin_is}
pub use Rattle.diag_evidence.specs.Vocabulary.{HasRetaken, HoldsFor, IsMore, KeepsSet, Kept}
unfoldable pub use Rattle.diag_evidence.specs.Vocabulary.{is_apart, keeps_cross, keeps_pair, keeps_wire}
pub use Rattle.diag_evidence.proofs.Keeping.{holds_earlier, holds_untried, no_pair_itself, of_told, pair_turned, retaken_cross}
pub use Rattle.diag_evidence.proofs.Keeping.{retaken_shape, retaken_wire, untried_crosses, untried_pairs, untried_wires}
pub use Rattle.diag_evidence.proofs.KeptLemmas.{mark_set, no_mark, pair_apart, pair_differs}
pub use Rattle.diag_evidence.proofs.Lists.{grown, loop_of_lists, or_third}
pub use Rattle.diag_known.specs.declared.beside.Reach.{Reach}
pub use Rattle.diag_known.specs.declared.descents.Down.{Down}
pub use Rattle.diag_known.specs.declared.marks.Marks.{Marks}
pub use Rattle.diag_known.specs.declared.offers.Offer.{Offer}
pub use Rattle.diag_known.specs.declared.verified_wire.Support.{Support}
pub use Rattle.diag_known.specs.declared.verified_wire.SupportedBy.{SupportedBy}
pub use Rattle.diag_known.specs.declared.verified_wire.VerifiedWire.{VerifiedWire}
pub use Rattle.diag_known.specs.Vocabulary.{Adds, AreLost, AreRanks, AreTreeWalks, AreTwo, AreWays, Descends}
pub use Rattle.diag_known.specs.Vocabulary.{Founds, HangsOnNone, HasWire, InSome, IsAt, IsFit, IsFrom, IsFromAt, IsGround, IsHung}
pub use Rattle.diag_known.specs.Vocabulary.{IsKeptUnlessStuck, IsLost, IsOn, IsOnWalk, IsPin, IsReached, IsTried, KnownWires, TakesFew}
pub use Rattle.diag_known.specs.Vocabulary.{fresh, how_many, is_pin, pins_in, rank_in, reach_at, upper_of}
