-- Looks from a known wire over one crosspoint of the field.
use Rattle.std.specs.Prelude.{◌≡◌, ◌⊎◌, ℕ, ◌<◌, ◌++◌, Bool, true, false, Option, Some, List, length, slice_get}
use Rattle.base_bits.specs.Numbers.{has_number}
use Rattle.machine_meaning.specs.Faults.{Faults}
use Rattle.machine_shape.specs.{declared.Shape.Shape, Shape.Ends, Shape.ends_of, Shape.crosses_of}
use Rattle.diag_evidence.specs.Kept.{Kept}
use Rattle.diag_known.specs.Vocabulary.{IsInField, KnownWires, IsKnown, KnowsAll, IsAt, IsBefore, HasWire, AreMarks}
use Rattle.diag_known.specs.Vocabulary.{AreMarksOver, IsOffer, IsPlaced, AreLost, IsKeptUnlessStuck, IsTried}
use Rattle.diag_known.specs.declared.{field.Field.Field, marks.Marks.Marks}
use Rattle.diag_growth.specs.declared.look.Look.{Look}
use Rattle.diag_known.specs.declared.{offers.Offer.Offer, verified_wire.Support.Support, verified_wire.VerifiedWire.VerifiedWire}

-- the wire stands at this place, and this is a link from it in the field
pub record IsLook (m : Shape) (a : Field) (ss : List VerifiedWire) (l : Look) : Type 0 where
  pub at : IsAt ss l.place l.wire.0
  pub link : IsInField m a l.link.cross.0 l.link.wire.0 l.wire.0

-- .. in plain words
pub record IsLookAt (m : Shape) (ss : List VerifiedWire) (l : Look) : Type 0 where
  pub at : IsAt ss l.place l.wire.0
  pub within : l.link.cross.0 < crosses_of m
  pub ends : Ends (ends_of m l.link.cross.0) l.link.wire.0 l.wire.0

-- a link is put behind others, if its known end came before the place
pub record TakesEarlier (ss : List VerifiedWire) (place : ℕ) (link : Support) (old new : List Support) : Type 0 where
  pub stays : (a : Support) → IsPlaced old a → IsPlaced new a
  pub has : IsBefore ss place link.wire.0 → IsPlaced new link
  pub only : (a : Support) → IsPlaced new a → IsPlaced old a ⊎ ((a ≡ link) × IsBefore ss place link.wire.0)

-- these are the links of the wire whose known ends came before the place
pub record AreEarlier (m : Shape) (a : Field) (ss : List VerifiedWire) (place w : ℕ) (others : List Support) : Type 0 where
  pub right : (b : Support) → IsPlaced others b → IsInField m a b.cross.0 b.wire.0 w × IsBefore ss place b.wire.0
  pub whole : (y v : ℕ) → IsInField m a y v w → IsBefore ss place v → (b : Support) × IsPlaced others b × (b.cross.0 ≡ y)

-- .. of some links the first ones
pub record AreEarlierUpTo (links : List Support) (ss : List VerifiedWire) (place : ℕ) (others : List Support) (n : ℕ) : Type 0 where
  pub right : (b : Support) → IsPlaced others b → IsPlaced links b × IsBefore ss place b.wire.0
  pub whole : (j : ℕ) (b : Support) → j < n → slice_get links j ≡ Some b → IsBefore ss place b.wire.0 → IsPlaced others b

-- The offer of a look: its other links are those of the wire whose known ends came before.
pub record IsOfferOf (m : Shape) (a : Field) (ss : List VerifiedWire) (l : Look) (o : Offer) : Type 0 where
  pub wire : o.wire.0 ≡ l.link.wire.0
  pub cross : o.foot.cross.0 ≡ l.link.cross.0
  pub earlier : AreEarlier m a ss l.place l.link.wire.0 o.others.items

-- What a look has found, from a wire at a place over a crosspoint to another: it is kept unless it is stuck, where the other came
-- before; otherwise the other is known, or barred, or the crosspoint and each other one to a wire before are lost.
pub record IsLooked (told : Option Faults) (k : Kept) (a : Field) (ss : List VerifiedWire) (barred : List Bool)
    (n x w : ℕ) : Type 0 where
  pub between : IsBefore ss n w → IsKeptUnlessStuck told k x
  pub seconds : (y v : ℕ) → IsInField k.shape a y v w → IsBefore ss n v → HasWire ss w ⊎ ((has_number barred w ≡ true) ⊎ AreLost told k ss w x y)

abbrev pub IsLookedOver : Option Faults → Kept → Field → List VerifiedWire → List Bool → Look → Type 0
IsLookedOver told k a ss barred l = IsLooked told k a ss barred l.place l.link.cross.0 l.link.wire.0

-- wires that were barred stay so
pub record StayBarred (old new : List Bool) : Type 0 where
  pub stays : (w : ℕ) → has_number old w ≡ true → has_number new w ≡ true

-- .. and others are barred only once they are tried
pub record AreTried (told : Option Faults) (k : Kept) (ss : List VerifiedWire) (old new : List Bool) : Type 0 where
  pub tried : (w : ℕ) → has_number new w ≡ true → (has_number old w ≡ true) ⊎ IsTried told k ss w

-- Further wires are known, none of which was barred, and all wires of the set are.
pub record Grows (k : Kept) (old new : KnownWires) (barred now : List Bool) : Type 0 where
  pub known : IsKnown k new
  pub all : KnowsAll k new.steps
  pub shape : new.shape ≡ old.shape
  pub more : List VerifiedWire
  pub steps : new.steps ≡ old.steps ++ more
  pub within : (w : ℕ) → HasWire new.steps w → HasWire old.steps w ⊎ ((has_number barred w ≡ false) × (w < length barred))
  pub stays : StayBarred barred now
  pub len : length now ≡ length barred

-- Of the wire to which the crosspoint was offered, from a known wire, all has been found that its look can find.
pub record IsOfferedMark (told : Option Faults) (k : Kept) (a : Field) (ss : List VerifiedWire) (barred : List Bool)
    (x : ℕ) : Type 0 where
  pub place : ℕ
  pub from : ℕ
  pub to : ℕ
  pub at : Ends (ends_of k.shape x) from to
  pub here : IsAt ss place from
  pub looked : IsLooked told k a ss barred place x to

-- the marks are right, also of what was offered
pub record AreAllMarks (told : Option Faults) (k : Kept) (a : Field) (ss : List VerifiedWire) (s : Marks) : Type 0 where
  pub are : AreMarks told k ss s
  pub offers : (x : ℕ) → has_number s.offered x ≡ true → IsOfferedMark told k a ss s.barred x

-- an offer may be tried: the wires are known, the offer is one over them, and each crosspoint has its marks
pub record IsReady (k : Kept) (those : KnownWires) (o : Offer) (s : Marks) : Type 0 where
  pub known : IsKnown k those
  pub offer : IsOffer k.shape those.steps o
  pub marks : AreMarksOver k.shape s

-- the crosspoint of the offer wasn't offered before
abbrev pub IsNewOffer : Offer → Marks → Type 0
IsNewOffer o s = has_number s.offered o.foot.cross.0 ≡ false

-- a crosspoint of the field
abbrev pub IsOfField : Field → ℕ → Type 0
IsOfField a x = (has_number a.crosses x ≡ true)
