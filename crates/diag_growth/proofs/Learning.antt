-- One more wire is known, or none.
use Rattle.std.proofs.Common.{◌≡◌, ◌⊎◌, ◌==◌, ◌||◌, ℕ, Bool, true, false, Option, Some, [], ◌∷◌, length, refl, sym, ap, ◌∙◌, subst, inl, inr, arith, IsTrue, slice_set}
use Rattle.diag_growth.proofs.Vocabulary.{or_cases, or_left, nat_tests, has_number, Faults, Kept, IsMore, CanSettle, HasSettled, is_apart}
use Rattle.diag_growth.proofs.Vocabulary.{IsLearnt, IsOneMore, IsParted, Marks, Offer, VerifiedWire, good_of, known_later, stands_later}
use Rattle.diag_growth.proofs.Vocabulary.{learnt, get_last, has_later, offer_still, marks_later}
use Rattle.diag_growth.specs.Looks.{IsReady}
use Rattle.diag_known.specs.Vocabulary.{KnownWires, HasWire, IsKnown, KnowsAll, Stands, AreMarks, AreMarksOver, OffersOnly}

pub none_more : {a b : KnownWires} (w : ℕ) → b ≡ a → IsOneMore a b w
none_more {a} w same = subst (λ known. IsOneMore a known w) (sym same) (record { shape = refl; steps = inl refl })

pub learnt_more : {a b : KnownWires} {s : VerifiedWire} → IsLearnt a b s → IsOneMore a b s.wire.0
learnt_more {s = s} l = record { shape = l.shape; steps = inr (s, refl, l.steps) }

pub learnt_has : {a b : KnownWires} {s : VerifiedWire} → IsLearnt a b s → HasWire b.steps s.wire.0
learnt_has {a} {b} {s} l = subst (λ ss. HasWire ss s.wire.0) (sym l.steps) (record { place = length a.steps; at = record { step = s; here = get_last a.steps s; wire = refl } })

-- The wire that is parted is settled.
module _ {k l : Kept} {w : ℕ} (result : Bool) (settled : IsTrue result → HasSettled k l) (refused : result ≡ false → CanSettle k → ⊥) (parted : IsParted k w) where
  has_settled : HasSettled k l
  has_settled = by result refl
    where
      by : (t : Bool) → result ≡ t → HasSettled k l
      by true e = settled e
      by false e = absurd (refused e parted.can)

  this : has_settled.can.wire ≡ w
  this = some_same (sym has_settled.can.tried ∙ parted.can.tried) ∙ parted.this
    where
      some_same : {x y : ℕ} → ◌≡◌ {A = Option ℕ} (Some x) (Some y) → x ≡ y
      some_same e = cc

  set_after : (u : ℕ) → is_apart l u ≡ ((w == u) || is_apart k u)
  set_after u = has_settled.apart u ∙ ap (λ v. (v == u) || is_apart k u) this

  of_it : is_apart l w ≡ true
  of_it = set_after w ∙ or_left (w == w) (is_apart k w) (let same : (w == w) ≡ true = grind (arith, nat_tests) in same)

-- .. once it is learnt
pub settled_known : {k l : Kept} {a b : KnownWires} {s : VerifiedWire} (result : Bool) → (IsTrue result → HasSettled k l) → (result ≡ false → CanSettle k → ⊥) → IsMore k l → IsParted k s.wire.0 → IsKnown k a → ¬ HasWire a.steps s.wire.0 →
    Stands k a.steps (length a.steps) s.wire.0 s.stand → IsLearnt a b s → IsKnown l b
settled_known {s = s} result settled refused more parted is new stands p =
    learnt (known_later more is) (good_of (known_later more is) new (more.wires s.wire.0 parted.kept) (of_it result settled refused parted)) (stands_later more stands) p.shape p.steps

pub settled_all : {k l : Kept} {a b : KnownWires} {s : VerifiedWire} (result : Bool) → (IsTrue result → HasSettled k l) → (result ≡ false → CanSettle k → ⊥) → IsParted k s.wire.0 → KnowsAll k a.steps → IsLearnt a b s → KnowsAll l b.steps
settled_all {k} {l} {a} {b} {s} result settled refused parted all p u on = by (or_cases (s.wire.0 == u) (is_apart k u) (sym (set_after result settled refused parted u) ∙ on))
  where
    by : ((s.wire.0 == u) ≡ true) ⊎ (is_apart k u ≡ true) → HasWire b.steps u
    by (inl e) = subst (HasWire b.steps) (let same : s.wire.0 ≡ u = grind (arith, nat_tests, e) in same) (learnt_has p)
    by (inr h) = subst (λ ss. HasWire ss u) (sym p.steps) (has_later (s ∷ []) (all u h))

pub learnt_marks : {told : Option Faults} {k l : Kept} {a b : KnownWires} {s : VerifiedWire} {m : Marks} → IsMore k l → IsLearnt a b s → AreMarks told k a.steps m → AreMarks told l b.steps m
learnt_marks {told} {k} {l} {a} {b} {s} {m} more p are = subst (λ ss. AreMarks told l ss m) (sym p.steps) (marks_later (s ∷ []) more are)

-- an offer may still be tried after tests
pub ready_later : {k l : Kept} {those : KnownWires} {o : Offer} {s t : Marks} → IsMore k l → IsReady k those o s → AreMarksOver l.shape t → IsReady l those o t
ready_later more ready marks = record {
  known = known_later more ready.known;
  offer = offer_still more.shape ready.offer;
  marks = marks;
}

-- a barred wire changes no other mark
pub offers_barred : {x : ℕ} {s t u : Marks} (w : ℕ) → OffersOnly x s t → u ≡ record t { barred = slice_set t.barred w true } → OffersOnly x s u
offers_barred w p same = record { only = λ y on. p.only y (subst (λ v. has_number v.offered y ≡ true) same on) }

pub barred_twice : (s : Marks) {t u : Marks} (w : ℕ) → t.barred ≡ s.barred → u ≡ record t { barred = slice_set t.barred w true } → u.barred ≡ slice_set s.barred w true
barred_twice s w before same = ap (λ (v : Marks). v.barred) same ∙ ap (λ bits. slice_set bits w true) before
