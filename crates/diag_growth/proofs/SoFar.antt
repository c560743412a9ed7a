-- What tests over the rig have found, and what they took, so far.
use Rattle.diag_growth.proofs.Vocabulary.{◌≡◌, ℕ, ◌<◌, Some, List, slice_get, RigState, ForEach, Kept, Advances, KeepsTrial}
use Rattle.diag_growth.proofs.Vocabulary.{Field, Support, VerifiedWire, Marks, Offer, AreAllMarks, AreTried, Grows, IsOfField}
use Rattle.diag_known.specs.Vocabulary.{KnownWires, AreMarks, AreMarksOver, Spends, SpendsFew, SpendsOn, AreLost}
use Rattle.diag_growth.proofs.Circling.{HasSpread, IsGrowing}

-- the first n pins were tried
pub record HasGrown (first now : RigState) (j k : Kept) (a : Field) (old known : KnownWires) (marks : Marks) (n : ℕ) : Type 0 where
  pub advances : Advances first now j k
  pub start : Marks
  pub spread : HasSpread j k a old known start marks first.loads now.loads n
  pub growing_each : ForEach now (λ told. IsGrowing told j k a known start marks first.loads now.loads)

-- known wires were looked at, and something else holds
pub record HasLooked (first now : RigState) (j k : Kept) (a : Field) (old known : KnownWires) (from new : Marks) (More : Type 0) : Type 0 where
  pub advances : Advances first now j k
  pub grows : Grows k old known from.barred new.barred
  pub marks : AreMarksOver k.shape new
  pub spends : Spends j (IsOfField a) from new first.loads now.loads
  pub tried_each : ForEach now (λ told. AreAllMarks told j a old.steps from → AreTried told k known.steps from.barred new.barred)
  pub marks_each : ForEach now (λ told. AreAllMarks told j a old.steps from → AreAllMarks told k a known.steps new)
  pub spends_each : ForEach now (λ told. AreAllMarks told j a old.steps from → SpendsFew told j from new first.loads now.loads)
  pub also : More

-- the first n other crosspoints of an offer were tried
pub record HaveTriedOthers (first now : RigState) (j k : Kept) (ss : List VerifiedWire) (o : Offer) (old new : Marks) (n : ℕ) : Type 0 where
  pub advances : Advances first now j k
  pub trial : KeepsTrial j k
  pub marks : AreMarksOver k.shape new
  pub spends : SpendsOn j o old new first.loads now.loads
  pub marks_each : ForEach now (λ told. AreMarks told j ss old → AreMarks told k ss new)
  pub spends_each : ForEach now (λ told. AreMarks told j ss old → SpendsFew told j old new first.loads now.loads)
  pub lost_each : ForEach now (λ told. AreMarks told j ss old → (i : ℕ) (a : Support) → i < n → slice_get o.others.items i ≡ Some a → AreLost told k ss o.wire.0 o.foot.cross.0 a.cross.0)
