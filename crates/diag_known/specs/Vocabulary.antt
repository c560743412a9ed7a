-- What the crates above, and the proofs here, speak of.
pub use Rattle.diag_known.specs.Known.{AreApart, AreTwo, HasWire, InSet, IsAt, IsBefore, IsFoot, IsGood, IsKeptCrossOf, IsKnown, KnowsAll}
pub use Rattle.diag_known.specs.Known.{IsKnownStep, KnownWires, Stands, on_feet, on_pin}
pub use Rattle.diag_known.specs.Routes.{AreRoutes, AreRoutesTo, HasFootOn, IsEarly, IsKnownRoute, IsPin, RestsOn, first, is_pin, second}
pub use Rattle.diag_known.specs.Field.{ClosedIf, GrowsIn, IsClosed, IsFieldOf, TakesFew, fresh, how_many, pins_in}
pub use Rattle.diag_known.specs.Gains.{Gets, IsWireBefore}
pub use Rattle.diag_known.specs.Descents.{Descends, DescendsTo, Goes, IsPinAt, IsPinHere, Stays, StepsAlong, StepsDown}
pub use Rattle.diag_known.specs.Ways.{AreFeetOf, AreWays, IsWay, ReachesAll}
pub use Rattle.diag_known.specs.Linked.{AreBelow, AreInField, AreInOrder, AreLinksOf, AreListed, AreOfEarlier, HasLink, HasMore, IsInField, IsRow, MissesRow}
pub use Rattle.diag_known.specs.Linked.{Precedes, by_node, by_number}
pub use Rattle.diag_known.specs.Grounds.{Founds, IsBetween, IsFootTo, IsGround, IsSettled, foot_at}
pub use Rattle.diag_known.specs.Around.{AreLooked, AreLookedAcross, IsLookedAt, IsLookedFrom, across_at, across_of, ends_by}
pub use Rattle.diag_known.specs.Ranks.{AreRanks, rank_in}
pub use Rattle.diag_known.specs.Reaches.{AreBefore, AreTreeWalks, AreTrees, AreWalks, GoesBelow, GoesOn, GoesTo, Hangs, HangsAlong, HangsAt}
pub use Rattle.diag_known.specs.Reaches.{HangsOn, HasTree, IsFrom, IsFromAt, IsOnWalk, IsReached, IsTie, IsTreeWalk, Leads, StayOn}
pub use Rattle.diag_known.specs.Reaches.{by_first, by_second, own, reach_at, upper_of}
pub use Rattle.diag_known.specs.Trials.{IsBad, IsFaulty, IsFit, IsKeptRoute, IsKeptUnlessStuck, IsLinkTo, IsLost, IsTried}
pub use Rattle.diag_known.specs.Offers.{Adds, AreLost, ArePulled, HangsNot, HangsOnNone, HasNoSecond, HasNoneBeside, InSome, IsHanging}
pub use Rattle.diag_known.specs.Offers.{IsHung, IsKeptOther, IsOffer, IsOn, IsPlaced, IsSecond}
pub use Rattle.diag_known.specs.Marked.{AreMarks, AreMarksOver, AreOutside, BarsAtMost, HasTried, IsOfOffer, IsSecondMark, JoinsAtMost}
pub use Rattle.diag_known.specs.Marked.{OffersAtMost, OffersOnly, Spends, SpendsFew, SpendsOn, TakesForWire, barred, barred_pins}
pub use Rattle.diag_known.specs.Marked.{few_loads, is_spent, lost, most_loads}
