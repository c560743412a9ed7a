-- Two feet for a wire, or none.
use Rattle.std.proofs.Common.{◌≡◌, ◌⊎◌, ℕ, ◌+◌, ◌<◌, true, Some, Option, List, length, sym, ap, ◌∙◌, subst, inl, inr, arith, slice_get}
use native.Mathlib.Decide.{ℕ_discrete}
use Rattle.diag_known.proofs.Vocabulary.{Shape, Faults, Walk, Kept, IsMore, keeps_cross, holds_earlier, Offer, Support, VerifiedWire}
use Rattle.diag_known.specs.Vocabulary.{KnownWires, IsFoot, IsKnown, Stands, on_feet, IsOffer, IsSecond, AreLost, HasNoSecond, HasNoneBeside, IsReached, IsFit, IsLinkTo, IsLost, AreWays, AreFeetOf}
use Rattle.diag_known.specs.declared.verified_wire.SupportedBy.TheVariants as stand
use Rattle.diag_known.proofs.Besides.{beside}
use Rattle.diag_known.proofs.Places.{at_within, some_same}

pub lost_all : {told : Option Faults} {k : Kept} {ss : List VerifiedWire} {o : Offer} → IsLost told k ss o.wire.0 o.foot.cross.0 → HasNoSecond told k ss o
lost_all p = record { lost = λ j a here. record { at = λ f t holds fit one other. p.at f t holds fit one } }

pub lost_one : {told : Option Faults} {k : Kept} {ss : List VerifiedWire} {w x y : ℕ} → IsLost told k ss w y → AreLost told k ss w x y
lost_one p = record { at = λ f t holds fit one other. p.at f t holds fit other }

pub lost_still : {told : Option Faults} {k l : Kept} {ss : List VerifiedWire} {w x y : ℕ} → IsMore k l → AreLost told k ss w x y → AreLost told l ss w x y
lost_still {ss = ss} {w = w} more p = record { at = λ f t holds fit one other. p.at f t (holds_earlier more holds) (subst (λ (m : Shape). IsFit m f ss w) more.shape fit) one other }

-- .. place by place
pub lost_next : {told : Option Faults} {k l : Kept} {ss : List VerifiedWire} (others : List Support) (w x n : ℕ) (b : Support) → IsMore k l → slice_get others n ≡ Some b → AreLost told l ss w x b.cross.0 →
    ((j : ℕ) (a : Support) → j < n → slice_get others j ≡ Some a → AreLost told k ss w x a.cross.0) → (j : ℕ) (a : Support) → j < n + 1 → slice_get others j ≡ Some a → AreLost told l ss w x a.cross.0
lost_next {told} {k} {l} {ss} others w x n b more here lost before j a less at = by_place (ℕ_discrete j n)
  where
    by_place : Dec (j ≡ n) → AreLost told l ss w x a.cross.0
    by_place (yes e) = subst (λ (f : Support). AreLost told l ss w x f.cross.0) (some_same (sym here ∙ ap (slice_get others) (sym e) ∙ at)) lost
    by_place (no other) = lost_still more (before j a (omega (arith, less, other)) at)

pub offer_still : {m n : Shape} {ss : List VerifiedWire} {o : Offer} → n ≡ m → IsOffer m ss o → IsOffer n ss o
offer_still {ss = ss} {o = o} same offer = subst (λ (s : Shape). IsOffer s ss o) (sym same) offer

pub second_still : {k l : Kept} {o : Offer} {a : Support} → IsMore k l → IsSecond k o a → IsSecond l o a
second_still {o = o} {a = a} more s = record { own = more.crosses o.foot.cross.0 s.own; other = record { placed = s.other.placed; kept = more.crosses a.cross.0 s.other.kept } }

-- neither beside the one way nor beside the other
pub both_lost : {told : Option Faults} {j k l : Kept} {known : KnownWires} {o : Offer} {p q : Walk} → IsKnown j known → IsOffer j.shape known.steps o → AreWays j known.steps o.foot.wire.0 p q → IsMore k l →
    HasNoneBeside told k known.steps o p → HasNoneBeside told l known.steps o q → HasNoSecond told l known.steps o
both_lost {told} {j} {k} {l} {known} {o} is offer ways more first second = record { lost = λ i a here. by_side i a here (beside is ways first.all second.all a.wire.0 ((offer.others i a here).known) (offer.differ i a here)).either }
  where
    by_side : (i : ℕ) (a : Support) → slice_get o.others.items i ≡ Some a → IsReached first.rs a.wire.0 ⊎ IsReached second.rs a.wire.0 → AreLost told l known.steps o.wire.0 o.foot.cross.0 a.cross.0
    by_side i a here (inl r) = lost_still more (first.lost i a here r)
    by_side i a here (inr r) = second.lost i a here r

-- the two feet of an offer
module _ {k : Kept} {ss : List VerifiedWire} {o : Offer} {a : Support} (offer : IsOffer k.shape ss o) (s : IsSecond k o a) where
  link : IsLinkTo k.shape ss o.wire.0 a
  link = offer.others s.other.placed.place a s.other.placed.here

  foot_of : (f : Support) → IsLinkTo k.shape ss o.wire.0 f → keeps_cross k f.cross.0 ≡ true → IsFoot k ss (length ss) o.wire.0 f
  foot_of f l kept = record { within = l.within; kept = kept; at = l.at; before = record { place = l.known.place; early = at_within l.known.at; at = l.known.at } }

  pub offer_feet : AreFeetOf k ss o.wire.0 o.foot a
  offer_feet = record {
    n = length ss;
    one = foot_of o.foot offer.foot s.own;
    other = foot_of a link s.other.kept;
    differ = λ e. offer.differ s.other.placed.place a s.other.placed.here (sym e);
    late = λ early. offer.new (record { place = early.place; at = early.at });
  }

  pub offer_stands : Stands k ss (length ss) o.wire.0 (stand.Feet o.foot a)
  offer_stands = on_feet (foot_of o.foot offer.foot s.own) (foot_of a link s.other.kept) (λ e. offer.differ s.other.placed.place a s.other.placed.here (sym e))
