-- What a look leaves behind: what it found, and the marks.
use Rattle.std.proofs.Common.{◌≡◌, ◌⊎◌, ℕ, ◌+◌, ◌<◌, ◌≤◌, Bool, true, Some, Option, List, length, sym, ap, ◌∙◌, subst, inl, inr, arith, slice_get, slice_set}
use Rattle.diag_growth.proofs.Vocabulary.{slice_get_within, has_number, Shape, IsNumbered, Ends, ends_of, crosses_of, Faults, Ends-swap}
use Rattle.diag_growth.proofs.Vocabulary.{Kept, IsMore, Field, Look, Marks, Offer, Support, VerifiedWire, set_has, few_none, few_between}
use Rattle.diag_growth.proofs.Vocabulary.{spends_none, spends_between, at_within, at_later, before_has, one_place, some_same, ends_same}
use native.Mathlib.Decide.{ℕ_discrete}
use Rattle.diag_known.specs.Vocabulary.{IsInField, AreLinksOf, KnownWires, IsAt, IsBefore, HasWire, IsKnown, AreMarks, AreMarksOver, Spends, SpendsFew, IsOfOffer, JoinsAtMost, OffersOnly, HasTried, barred, lost}
use Rattle.diag_growth.specs.Looks.{IsLook, IsLookAt, IsLooked, IsLookedOver, IsOfferOf, IsOfferedMark, AreAllMarks, AreTried, Grows, IsOfField}
use Rattle.diag_growth.proofs.Growing.{before_old, in_before}
use Rattle.diag_growth.proofs.Looking.{look_within, look_ends, looked_barred, looked_lost}
use Rattle.diag_growth.proofs.Stages.{tried_none, tried_one, looked_on}

-- a look in plain words
pub look_plain : {k : Kept} {known : KnownWires} {field : Field} {l : Look} → IsKnown k known → IsNumbered k.shape → IsLook k.shape field known.steps l → IsLookAt k.shape known.steps l
look_plain is numbered look = record { at = look.at; within = look_within is numbered look; ends = look_ends is numbered look }

-- what was offered was looked at, from the same place
pub looked_offered : {told : Option Faults} {k : Kept} {known : KnownWires} {field : Field} {l : Look} {s : Marks} → IsKnown k known → AreAllMarks told k field known.steps s → IsLookAt k.shape known.steps l → ¬ HasWire known.steps l.link.wire.0 →
    has_number s.offered l.link.cross.0 ≡ true → IsLookedOver told k field known.steps s.barred l
looked_offered {told} {k} {known} {field} {l} {s} is all look new on = by_ends (ends_same mark.at look.ends)
  where
    mark : IsOfferedMark told k field known.steps s.barred l.link.cross.0
    mark = all.offers l.link.cross.0 on

    by_ends : ((mark.from ≡ l.link.wire.0) × (mark.to ≡ l.wire.0)) ⊎ ((mark.from ≡ l.wire.0) × (mark.to ≡ l.link.wire.0)) → IsLookedOver told k field known.steps s.barred l
    by_ends (inl e) = absurd (new (record { place = mark.place; at = subst (IsAt known.steps mark.place) e.0 mark.here }))
    by_ends (inr e) =
        let same : mark.place ≡ l.place = one_place is (subst (IsAt known.steps mark.place) e.0 mark.here) look.at in
        subst (λ n. IsLooked told k field known.steps s.barred n l.link.cross.0 l.link.wire.0) same (subst (λ w. IsLooked told k field known.steps s.barred mark.place l.link.cross.0 w) e.1 mark.looked)

-- the marks stay right
pub offered_later : {told : Option Faults} {k l : Kept} {field : Field} {a b : KnownWires} {x y : List Bool} {c : ℕ} → IsMore k l → Grows l a b x y → IsOfferedMark told k field a.steps x c → IsOfferedMark told l field b.steps y c
offered_later {told} {k} {l} {field} {a} {b} {x} {y} {c} more g m = record {
  place = m.place;
  from = m.from;
  to = m.to;
  at = subst (λ (s : Shape). Ends (ends_of s c) m.from m.to) (sym more.shape) m.at;
  here = subst (λ ss. IsAt ss m.place m.from) (sym g.steps) (at_later g.more m.here);
  looked = looked_on more (let h = at_within m.here in omega (arith, h)) g m.looked;
}

pub all_later : {told : Option Faults} {k l : Kept} {field : Field} {a b : KnownWires} {s t : Marks} → IsMore k l → Grows l a b s.barred t.barred → AreAllMarks told k field a.steps s → AreMarks told l b.steps t →
    ((x : ℕ) → has_number t.offered x ≡ true → (has_number s.offered x ≡ true) ⊎ IsOfferedMark told l field b.steps t.barred x) → AreAllMarks told l field b.steps t
all_later {told} {k} {l} {field} {a} {b} {s} {t} more g all are only = record { are = are; offers = λ x on. by_old x (only x on) }
  where
    by_old : (x : ℕ) → (has_number s.offered x ≡ true) ⊎ IsOfferedMark told l field b.steps t.barred x → IsOfferedMark told l field b.steps t.barred x
    by_old x (inl on) = offered_later more g (all.offers x on)
    by_old x (inr m) = m

-- a look at a known wire
pub joins_spent : {k : Kept} (field : Field) {s t : Marks} {x before after : ℕ} → AreMarksOver k.shape s → x < crosses_of k.shape → IsOfField field x → JoinsAtMost k x s t before after → Spends k (IsOfField field) s t before after
joins_spent field over within linking (inl same) = spends_none same.0 same.1
joins_spent field {before = before} {after = after} over within linking (inr one) = spends_between before after over within linking one.fresh one.unmarked one.marks one.loads

pub joins_few : {told : Option Faults} {k : Kept} {ss : List VerifiedWire} {s t : Marks} {x before after : ℕ} → AreMarks told k ss s → x < crosses_of k.shape → JoinsAtMost k x s t before after → SpendsFew told k s t before after
joins_few are within (inl same) = few_none same.0 same.1
joins_few {before = before} {after = after} are within (inr one) = few_between before after are within one.fresh one.marks one.loads

pub joins_barred : {k : Kept} {s t : Marks} {x before after : ℕ} → JoinsAtMost k x s t before after → t.barred ≡ s.barred
joins_barred (inl same) = ap (λ (u : Marks). u.barred) same.0
joins_barred (inr one) = ap (λ (u : Marks). u.barred) one.marks

pub joins_offered : {k : Kept} {s t : Marks} {x before after : ℕ} → JoinsAtMost k x s t before after → t.offered ≡ s.offered
joins_offered (inl same) = ap (λ (u : Marks). u.offered) same.0
joins_offered (inr one) = ap (λ (u : Marks). u.offered) one.marks

-- a look at a wire that isn't known: an offer
not_before : {m : Shape} {l : Kept} {field : Field} {old new : KnownWires} {x y : List Bool} {look : Look} → IsLook m field old.steps look → ¬ HasWire old.steps look.link.wire.0 → Grows l old new x y → IsBefore new.steps look.place look.link.wire.0 → ⊥
not_before {look = look} is_look fresh g b =
    fresh (before_has (before_old g.more (let h = at_within is_look.at in omega (arith, h)) (subst (λ ss. IsBefore ss look.place look.link.wire.0) g.steps b)))

pub looked_tried : {told : Option Faults} {k l : Kept} {field : Field} {old new : KnownWires} {s t : Marks} {look : Look} {o : Offer} → IsMore k l → IsLook k.shape field old.steps look → IsOfferOf k.shape field old.steps look o → ¬ HasWire old.steps look.link.wire.0 →
    look.link.wire.0 < length s.barred → Grows l old new s.barred t.barred → HasTried told l new.steps o s t → IsLookedOver told l field new.steps t.barred look
looked_tried {s = s} {look = look} more is_look of_look fresh low g (barred set tried) = looked_barred (not_before is_look fresh g)
    (ap (λ bits. has_number bits look.link.wire.0) set ∙ ap (λ w. has_number (slice_set s.barred w true) look.link.wire.0) of_look.wire ∙ set_has s.barred look.link.wire.0 low)
looked_tried {old = old} {new = new} more is_look of_look fresh low g (lost same none) = looked_lost more.shape old new (let h = at_within is_look.at in omega (arith, h)) g.more g.steps fresh of_look none

pub tried_tried : {told : Option Faults} {l : Kept} {ss : List VerifiedWire} {s t : Marks} {o : Offer} → HasTried told l ss o s t → AreTried told l ss s.barred t.barred
tried_tried (barred set tried) = tried_one set tried
tried_tried (lost same none) = tried_none same

pub offered_marks : {told : Option Faults} {k l : Kept} {field : Field} {old new : KnownWires} {s t : Marks} {look : Look} {o : Offer} → IsLook k.shape field old.steps look → IsOfferOf k.shape field old.steps look o → Grows l old new s.barred t.barred → IsMore k l →
    AreAllMarks told k field old.steps s → AreMarks told l new.steps t → OffersOnly o.foot.cross.0 s t → IsLookedOver told l field new.steps t.barred look → AreAllMarks told l field new.steps t
offered_marks {told} {k} {l} {field} {old} {new} {s} {t} {look} {o} is_look of_look g more all are only looked = all_later more g all are (λ x on. by_own x (only.only x on))
  where
    own : IsOfferedMark told l field new.steps t.barred look.link.cross.0
    own = record {
      place = look.place;
      from = look.wire.0;
      to = look.link.wire.0;
      at = subst (λ (n : Shape). Ends (ends_of n look.link.cross.0) look.wire.0 look.link.wire.0) (sym more.shape) (Ends-swap is_look.link.at);
      here = subst (λ ss. IsAt ss look.place look.wire.0) (sym g.steps) (at_later g.more is_look.at);
      looked = looked;
    }

    by_own : (x : ℕ) → (has_number s.offered x ≡ true) ⊎ (o.foot.cross.0 ≡ x) → (has_number s.offered x ≡ true) ⊎ IsOfferedMark told l field new.steps t.barred x
    by_own x (inl on) = inl on
    by_own x (inr e) = inr (subst (IsOfferedMark told l field new.steps t.barred) (sym of_look.cross ∙ e) own)

-- its crosspoints are of the field
pub offer_links : {m : Shape} {field : Field} {ss : List VerifiedWire} {l : Look} {o : Offer} → IsLook m field ss l → IsOfferOf m field ss l o → (x : ℕ) → IsOfOffer o x → IsOfField field x
offer_links {field = field} look of_look x (inl e) = subst (IsOfField field) (sym of_look.cross ∙ e) look.link.has
offer_links {field = field} look of_look x (inr p) = subst (IsOfField field) p.so (of_look.earlier.right p.item (record { place = p.place; here = p.here })).0.has

-- looks over the links of a wire, one after the other
pub looks_next : {told : Option Faults} {k l : Kept} {field : Field} {a b : KnownWires} {x y : List Bool} (place n : ℕ) (links : List Support) (link : Support) → IsMore k l → Grows l a b x y → place ≤ length a.steps → slice_get links n ≡ Some link →
    IsLooked told l field b.steps y place link.cross.0 link.wire.0 → ((i : ℕ) (f : Support) → i < n → slice_get links i ≡ Some f → IsLooked told k field a.steps x place f.cross.0 f.wire.0) →
    (i : ℕ) (f : Support) → i < n + 1 → slice_get links i ≡ Some f → IsLooked told l field b.steps y place f.cross.0 f.wire.0
looks_next {told} {k} {l} {field} {a} {b} {x} {y} place n links link more g le here this before i f less at = by_place (ℕ_discrete i n)
  where
    by_place : Dec (i ≡ n) → IsLooked told l field b.steps y place f.cross.0 f.wire.0
    by_place (yes e) = subst (λ (h : Support). IsLooked told l field b.steps y place h.cross.0 h.wire.0) (some_same (sym here ∙ ap (slice_get links) (sym e) ∙ at)) this
    by_place (no other) = looked_on more le g (before i f (omega (arith, less, other)) at)

-- .. over all links that it had in the field before
pub looks_all : {told : Option Faults} {j k : Kept} {field : Field} {ss : List VerifiedWire} {x : List Bool} {w : ℕ} {links : List Support} (place n : ℕ) → AreLinksOf j.shape field w links → IsMore j k → length links ≤ n →
    ((i : ℕ) (f : Support) → i < n → slice_get links i ≡ Some f → IsLooked told k field ss x place f.cross.0 f.wire.0) → (c v : ℕ) → IsInField k.shape field c v w → IsLooked told k field ss x place c v
looks_all {told} {j} {k} {field} {ss} {x} {w} {links} place n of more le all c v i =
    let p = of.whole c v (in_before more i) in
    subst (λ d. IsLooked told k field ss x place d v) p.cross (subst (λ u. IsLooked told k field ss x place p.link.cross.0 u) p.wire (all p.place p.link (let h = slice_get_within links p.place p.link p.here in omega (arith, h, le)) p.here))
