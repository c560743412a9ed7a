-- What growth has tried in one call, and the loads that this took.
use Rattle.std.specs.Prelude.{◌≡◌, ◌⊎◌, ℕ, ◌+◌, ◌*◌, ◌≤◌, Bool, true, false, Option, Some, List, length, slice_set, ◌<◌, ◌||◌}
use Rattle.base_bits.specs.Numbers.{has_number}
use Rattle.machine_shape.specs.declared.Shape.{Shape}
use Rattle.machine_shape.specs.Shape.{Ends, ends_of, pin_wire, pins_of, wires_of, crosses_of}
use Rattle.machine_meaning.specs.Faults.{Faults, IsFaultless}
use Rattle.diag_evidence.specs.Kept.{Kept, HoldsFor, HoldsUntried, keeps_cross}
use Rattle.diag_known.specs.{Field.how_many, Offers.InSome, Offers.HasNoSecond, Trials.IsKeptUnlessStuck, Trials.IsLost, Trials.IsTried}
use Rattle.diag_known.specs.Known.{HasWire}
use Rattle.diag_known.specs.declared.{marks.Marks.Marks, offers.Offer.Offer, verified_wire.VerifiedWire.VerifiedWire}

-- the crosspoint was toggled
abbrev pub is_spent : Marks → ℕ → Bool
is_spent s x = has_number s.offered x || (has_number s.second x || has_number s.between x)

-- the loads that marks stand for, whatever the faults, and where there are none
abbrev pub most_loads : Shape → Marks → ℕ
most_loads m s = 4 * how_many (has_number s.offered) (crosses_of m) + 2 * how_many (has_number s.second) (crosses_of m)
    + 2 * how_many (has_number s.between) (crosses_of m) + 3 * how_many (has_number s.barred) (wires_of m)

abbrev pub few_loads : Shape → Marks → ℕ
few_loads m s = 2 * how_many (is_spent s) (crosses_of m) + 3 * how_many (has_number s.barred) (wires_of m)

-- the pins of the machine that are barred, for each of which it is one load less
abbrev pub barred_pins : Shape → Marks → ℕ
barred_pins m s = how_many (λ i. has_number s.barred (pin_wire m i)) (pins_of m)

-- at most three loads were made for a wire, and for a pin of the machine two
pub record TakesForWire (m : Shape) (w before after : ℕ) : Type 0 where
  pub wire : after ≤ before + 3
  pub pin : (i : ℕ) → i < pins_of m → w ≡ pin_wire m i → after ≤ before + 2

-- No more loads were made than the new marks stand for; of crosspoints these alone are marked anew, and none that was kept.
pub record Spends (k : Kept) (these : ℕ → Type 0) (old new : Marks) (before after : ℕ) : Type 0 where
  pub only : (x : ℕ) → is_spent new x ≡ true → (is_spent old x ≡ true) ⊎ these x
  pub fresh : (x : ℕ) → is_spent new x ≡ true → (is_spent old x ≡ true) ⊎ (keeps_cross k x ≡ false)
  pub most : after + barred_pins k.shape new + most_loads k.shape old ≤ before + barred_pins k.shape old + most_loads k.shape new

-- .. where there are no faults
pub record SpendsFew (told : Option Faults) (k : Kept) (old new : Marks) (before after : ℕ) : Type 0 where
  pub few : (f : Faults) → told ≡ Some f → IsFaultless f → HoldsFor k f →
      after + barred_pins k.shape new + few_loads k.shape old ≤ before + barred_pins k.shape old + few_loads k.shape new

-- The crosspoint leads from a known wire to one that is known, unless the crosspoint is kept, or lost.
pub record IsSecondMark (told : Option Faults) (k : Kept) (ss : List VerifiedWire) (x : ℕ) : Type 0 where
  pub from : ℕ
  pub to : ℕ
  pub at : Ends (ends_of k.shape x) from to
  pub known : HasWire ss from
  pub found : (keeps_cross k x ≡ true) ⊎ (HasWire ss to ⊎ IsLost told k ss to x)

-- there is a mark for each wire, and of each kind for each crosspoint
pub record AreMarksOver (m : Shape) (s : Marks) : Type 0 where
  pub barred : length s.barred ≡ wires_of m
  pub offered : length s.offered ≡ crosses_of m
  pub second : length s.second ≡ crosses_of m
  pub between : length s.between ≡ crosses_of m

-- What was toggled between known wires is kept unless it is stuck, and so, without faults, is all that was toggled.
pub record AreMarks (told : Option Faults) (k : Kept) (ss : List VerifiedWire) (s : Marks) : Type 0 where
  pub over : AreMarksOver k.shape s
  pub seconds : (x : ℕ) → has_number s.second x ≡ true → IsSecondMark told k ss x
  pub joined : (x : ℕ) → has_number s.between x ≡ true → IsKeptUnlessStuck told k x
  pub spent : (f : Faults) → told ≡ Some f → IsFaultless f → HoldsUntried k f → (x : ℕ) → is_spent s x ≡ true → keeps_cross k x ≡ true

-- a crosspoint of the offer
abbrev pub IsOfOffer : Offer → ℕ → Type 0
IsOfOffer o x = (o.foot.cross.0 ≡ x) ⊎ InSome o.others.items (λ a x. a.cross.0 ≡ x) x

-- The marks are the same, and no load was made; or this crosspoint, which wasn't kept, is marked as offered, and two were.
pub record IsOffered (k : Kept) (x : ℕ) (old new : Marks) (before after : ℕ) : Type 0 where
  pub fresh : keeps_cross k x ≡ false
  pub marks : new ≡ record old { offered = slice_set old.offered x true }
  pub loads : after ≤ before + 2

abbrev pub OffersAtMost : Kept → ℕ → Marks → Marks → ℕ → ℕ → Type 0
OffersAtMost k x old new before after = ((new ≡ old) × (after ≡ before)) ⊎ IsOffered k x old new before after

-- .. or it is marked as toggled between known wires
pub record IsJoined (k : Kept) (x : ℕ) (old new : Marks) (before after : ℕ) : Type 0 where
  pub fresh : keeps_cross k x ≡ false
  pub unmarked : has_number old.between x ≡ false
  pub marks : new ≡ record old { between = slice_set old.between x true }
  pub loads : after ≤ before + 2

abbrev pub JoinsAtMost : Kept → ℕ → Marks → Marks → ℕ → ℕ → Type 0
JoinsAtMost k x old new before after = ((new ≡ old) × (after ≡ before)) ⊎ IsJoined k x old new before after

-- as offered this crosspoint alone is marked anew
pub record OffersOnly (x : ℕ) (old new : Marks) : Type 0 where
  pub only : (y : ℕ) → has_number new.offered y ≡ true → (has_number old.offered y ≡ true) ⊎ (x ≡ y)

-- crosspoints of the offer alone are marked anew, and as offered its own one alone
pub record SpendsOn (k : Kept) (o : Offer) (old new : Marks) (before after : ℕ) : Type 0 where
  pub spends : Spends k (IsOfOffer o) old new before after
  pub offered : OffersOnly o.foot.cross.0 old new
  pub barred : new.barred ≡ old.barred

-- this wire at most is barred anew
abbrev pub BarsAtMost : ℕ → List Bool → List Bool → Type 0
BarsAtMost w old new = (new ≡ old) ⊎ (new ≡ slice_set old w true)

-- the wire of the offer is barred, and tried; or the crosspoint and each other one are lost
pub data HasTried (told : Option Faults) (k : Kept) (ss : List VerifiedWire) (o : Offer) (old new : Marks) : Type 0 where
  barred : new.barred ≡ slice_set old.barred o.wire.0 true → IsTried told k ss o.wire.0 → HasTried told k ss o old new
  lost : new.barred ≡ old.barred → HasNoSecond told k ss o → HasTried told k ss o old new

-- the wires that aren't of a field
pub record AreOutside (wires barred : List Bool) : Type 0 where
  pub free : (w : ℕ) → has_number wires w ≡ true → has_number barred w ≡ false
  pub field : (w : ℕ) → w < length wires → has_number barred w ≡ false → has_number wires w ≡ true
