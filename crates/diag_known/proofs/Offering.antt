-- What an offer spends, one trial after the other.
use Rattle.std.proofs.Common.{◌≡◌, ◌⊎◌, ℕ, ◌+◌, ◌<◌, ◌≤◌, true, false, Some, Option, List, refl, sym, ap, ◌∙◌, subst, inl, inr, arith, slice_set}
use Rattle.diag_known.proofs.Vocabulary.{false≢true, set-set, has_number, Shape, Faults, holds_untried, Marks, Offer, Support, VerifiedWire}
use Rattle.diag_evidence.specs.Kept.{Kept, HoldsFor, IsMore, keeps_cross}
use Rattle.diag_known.specs.Vocabulary.{barred_pins, is_spent, AreMarks, AreMarksOver, IsOfOffer, OffersAtMost, OffersOnly, SpendsFew, SpendsOn, IsOffer, IsPlaced}
use Rattle.diag_known.proofs.Counting.{set_only}
use Rattle.diag_known.proofs.Marking.{MarksOne, offered_one, spends_none, spends_then, spends_offered, spends_second, most_offered, few_none, few_then, few_offered, few_second}

offers_none : {x : ℕ} {s t : Marks} → t ≡ s → OffersOnly x s t
offers_none same = record { only = λ y on. inl (subst (λ u. has_number u.offered y ≡ true) same on) }

offers_one : (x : ℕ) (s : Marks) {t : Marks} → t ≡ record s { offered = slice_set s.offered x true } → OffersOnly x s t
offers_one x s e = record { only = λ y on. set_only s.offered x y (subst (λ u. has_number u.offered y ≡ true) e on) }

pub offers_then : {x : ℕ} {s t u : Marks} → OffersOnly x s t → OffersOnly x t u → OffersOnly x s u
offers_then {x} {s} {t} {u} p q = record { only = λ y on. by_mid y (q.only y on) }
  where
    by_mid : (y : ℕ) → (has_number t.offered y ≡ true) ⊎ (x ≡ y) → (has_number s.offered y ≡ true) ⊎ (x ≡ y)
    by_mid y (inl e) = p.only y e
    by_mid y (inr e) = inr e

pub spends_on_none : {k : Kept} {o : Offer} {s t : Marks} {before after : ℕ} → t ≡ s → after ≡ before → SpendsOn k o s t before after
spends_on_none same loads = record { spends = spends_none same loads; offered = offers_none same; barred = ap (λ (u : Marks). u.barred) same }

pub spends_on_then : {k l : Kept} {o : Offer} {s t u : Marks} {a b c : ℕ} → IsMore k l → SpendsOn k o s t a b → SpendsOn l o t u b c → SpendsOn k o s u a c
spends_on_then more p q = record { spends = spends_then more p.spends q.spends; offered = offers_then p.offered q.offered; barred = q.barred ∙ p.barred }

-- the crosspoint of the offer is marked as offered
module _ {k : Kept} {ss : List VerifiedWire} {o : Offer} {s t : Marks} {before after : ℕ} (over : AreMarksOver k.shape s) (offer : IsOffer k.shape ss o) where
  pub spends_own : keeps_cross k o.foot.cross.0 ≡ false → has_number s.offered o.foot.cross.0 ≡ false → t ≡ record s { offered = slice_set s.offered o.foot.cross.0 true } → after ≤ before + 2 → SpendsOn k o s t before after
  spends_own fresh off marks loads = record {
    spends = spends_offered before after over offer.foot.within (inl refl) fresh off marks loads;
    offered = offers_one o.foot.cross.0 s marks;
    barred = ap (λ (u : Marks). u.barred) marks;
  }

  -- another one is marked as toggled over it
  pub spends_other : (a : Support) → IsPlaced o.others.items a → keeps_cross k a.cross.0 ≡ false → has_number s.second a.cross.0 ≡ false → t ≡ record s { second = slice_set s.second a.cross.0 true } → after ≤ before + 2 → SpendsOn k o s t before after
  spends_other a placed fresh off marks loads = record {
    spends = spends_second before after over ((offer.others placed.place a placed.here).within) (inr (record { place = placed.place; item = a; here = placed.here; so = refl })) fresh off marks loads;
    offered = record { only = λ y on. inl (subst (λ u. has_number u.offered y ≡ true) marks on) };
    barred = ap (λ (u : Marks). u.barred) marks;
  }

module _ {told : Option Faults} {k : Kept} {ss : List VerifiedWire} {o : Offer} {s t : Marks} {before after : ℕ} (are : AreMarks told k ss s) (offer : IsOffer k.shape ss o) where
  pub few_own : keeps_cross k o.foot.cross.0 ≡ false → t ≡ record s { offered = slice_set s.offered o.foot.cross.0 true } → after ≤ before + 2 → SpendsFew told k s t before after
  few_own fresh marks loads = few_offered before after are offer.foot.within fresh marks loads

  pub few_other : (a : Support) → IsPlaced o.others.items a → keeps_cross k a.cross.0 ≡ false → t ≡ record s { second = slice_set s.second a.cross.0 true } → after ≤ before + 2 → SpendsFew told k s t before after
  few_other a placed fresh marks loads = few_second before after are ((offer.others placed.place a placed.here).within) fresh marks loads

-- beside one way, or beside the first of two
pub spends_first : {k : Kept} {ss : List VerifiedWire} {o : Offer} {s t : Marks} {before after : ℕ} → AreMarksOver k.shape s → IsOffer k.shape ss o → has_number s.offered o.foot.cross.0 ≡ false →
    OffersAtMost k o.foot.cross.0 s t before after → SpendsOn k o s t before after
spends_first over offer off (inl same) = spends_on_none same.0 same.1
spends_first over offer off (inr one) = spends_own over offer one.fresh off one.marks one.loads

pub few_first : {told : Option Faults} {k : Kept} {ss : List VerifiedWire} {o : Offer} {s t : Marks} {before after : ℕ} → AreMarks told k ss s → IsOffer k.shape ss o →
    OffersAtMost k o.foot.cross.0 s t before after → SpendsFew told k s t before after
few_first are offer (inl same) = few_none same.0 same.1
few_first are offer (inr one) = few_own are offer one.fresh one.marks one.loads

-- .. beside both
pub few_both : {told : Option Faults} {k l : Kept} {ss : List VerifiedWire} {o : Offer} {s t u : Marks} (a b c : ℕ) → AreMarks told k ss s → IsOffer k.shape ss o → IsMore k l →
    ((f : Faults) → told ≡ Some f → HoldsFor k f → HoldsFor l f) → AreMarks told l ss t → OffersAtMost k o.foot.cross.0 s t a b → OffersAtMost l o.foot.cross.0 t u b c → SpendsFew told k s u a c
few_both {ss = ss} {o = o} a b c are offer more later mid (inl first) second =
    few_then more later (few_none first.0 first.1) (few_first mid (subst (λ (m : Shape). IsOffer m ss o) (sym more.shape) offer) second)
few_both a b c are offer more later mid (inr first) (inl second) = few_then more later (few_own are offer first.fresh first.marks first.loads) (few_none second.0 second.1)
few_both {o = o} {s = s} a b c are offer more later mid (inr first) (inr second) = record {
  few = λ f is none holds.
      absurd (false≢true (sym second.fresh ∙ mid.spent f is none (holds_untried (later f is holds)) o.foot.cross.0 (subst (λ v. is_spent v o.foot.cross.0 ≡ true) (sym first.marks)
      (offered_one s o.foot.cross.0 (subst (λ n. o.foot.cross.0 < n) (sym are.over.offered) offer.foot.within)).this)));
}

pub spends_both : {k l : Kept} {ss : List VerifiedWire} {o : Offer} {s t u : Marks} (a b c : ℕ) → AreMarksOver k.shape s → IsOffer k.shape ss o → has_number s.offered o.foot.cross.0 ≡ false → IsMore k l →
    AreMarksOver l.shape t → OffersAtMost k o.foot.cross.0 s t a b → OffersAtMost l o.foot.cross.0 t u b c → SpendsOn k o s u a c
spends_both {ss = ss} {o = o} a b c over offer off more mid (inl first) second = spends_on_then more (spends_on_none first.0 first.1)
    (spends_first mid (subst (λ (m : Shape). IsOffer m ss o) (sym more.shape) offer) (ap (λ (v : Marks). has_number v.offered o.foot.cross.0) first.0 ∙ off) second)
spends_both a b c over offer off more mid (inr first) (inl second) = spends_on_then more (spends_own over offer first.fresh off first.marks first.loads) (spends_on_none second.0 second.1)
spends_both {k} {l} {ss} {o} {s} {t} {u} a b c over offer off more mid (inr first) (inr second) = subst (λ v. SpendsOn k o s v a c) (sym same) (record {
  spends = record {
    only = λ y on. by_one y (one.only y on);
    fresh = λ y on. by_fresh y (one.only y on);
    most = sums (barred_pins k.shape s) _ _ (most_offered a c over offer.foot.within off (let p = first.loads in let q = second.loads in omega (arith, p, q)));
  };
  offered = offers_one x s refl;
  barred = refl;
})
  where
    x : ℕ
    x = o.foot.cross.0

    once : Marks
    once = record s { offered = slice_set s.offered x true }

    one : MarksOne x s once
    one = offered_one s x (subst (λ n. x < n) (sym over.offered) offer.foot.within)

    by_one : (y : ℕ) → (is_spent s y ≡ true) ⊎ (x ≡ y) → (is_spent s y ≡ true) ⊎ IsOfOffer o y
    by_one y (inl e) = inl e
    by_one y (inr e) = inr (inl e)

    by_fresh : (y : ℕ) → (is_spent s y ≡ true) ⊎ (x ≡ y) → (is_spent s y ≡ true) ⊎ (keeps_cross k y ≡ false)
    by_fresh y (inl e) = inl e
    by_fresh y (inr e) = inr (ap (keeps_cross k) (sym e) ∙ first.fresh)

    sums : (p v w : ℕ) → c + v ≤ a + w → c + p + v ≤ a + p + w
    sums p v w less = omega (arith, less)

    same : u ≡ once
    same = second.marks ∙ ap (λ (v : Marks). record v { offered = slice_set v.offered x true }) first.marks ∙ ap (λ bits. record s { offered = bits }) (set-set s.offered x true true)
