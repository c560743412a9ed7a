-- Steps of a sweep, one after the other.
use Rattle.std.proofs.Common.{◌≡◌, ◌⊎◌, ℕ, ◌+◌, ◌≤◌, Bool, true, Result, Ok, Err, OnOk, OnErr, List, [], sym, ap, ◌∙◌, subst, inl, inr, arith}
use Rattle.diag_sweep.proofs.Vocabulary.{has_number, Table, crosses_of, Kept, IsMore, Advances, HasRetaken, KeepsSet, is_apart, RigState}
use Rattle.diag_sweep.proofs.Vocabulary.{ForEach, Narrows, Field, VerifiedWire, known_later, known_retaken, retaken_all, HasTable, MarksIn}
use Rattle.diag_sweep.proofs.Vocabulary.{TrueIf, Hand, Goes, GoesYet, IsHand, IsHandYet, Settles, in_hand, DefectMarks, LoadBudget}
use Rattle.diag_evidence.proofs.Keeping.{advances_itself, advances_then, holds_retaken, retaken_cross, retaken_shape, retaken_still}
use Rattle.diag_evidence.proofs.KeptLemmas.{more_itself}
use Rattle.diag_known.specs.Vocabulary.{KnownWires, HasWire, IsKnown, KnowsAll, IsFieldOf, GrowsIn}
use Rattle.diag_sweep.proofs.Marking.{marks_itself, marks_then, marks_for, true_later, true_back}
use Rattle.diag_sweep.proofs.Paying.{funded_test, funded_back}

pub grows_itself : (a : Field) (ss : List VerifiedWire) → GrowsIn a ss ss
grows_itself a ss = record { stays = λ w has. has; within = λ w has. inl has }

pub grows_then : {a : Field} {x y z : List VerifiedWire} → GrowsIn a x y → GrowsIn a y z → GrowsIn a x z
grows_then {a} {x} {y} p q = record { stays = λ w has. q.stays w (p.stays w has); within = λ w has. by w (q.within w has) }
  where
    by : (w : ℕ) → HasWire y w ⊎ (has_number a.wires w ≡ true) → HasWire x w ⊎ (has_number a.wires w ≡ true)
    by w (inl has) = p.within w has
    by w (inr on) = inr on

pub goes_itself : {now : RigState} {a : Field} {tables : List Table} {h : Hand} → IsHand a h → Goes now a tables h h
goes_itself {a = a} {tables = tables} {h = h} is = record {
  hand = is;
  grows = grows_itself a h.known.steps;
  marks = marks_itself a tables h.bad;
  holds = λ f e t. t;
  funded = λ limit f. f;
}

pub goes_then : {now : RigState} {a : Field} {tables : List Table} {x y z : Hand} → Goes now a tables x y → Goes now a tables y z → Goes now a tables x z
goes_then p q = record {
  hand = q.hand;
  grows = grows_then p.grows q.grows;
  marks = marks_then p.marks q.marks;
  holds = λ f e t. q.holds f e (p.holds f e t);
  funded = λ limit f. q.funded limit (p.funded limit f);
}

-- a step after others, whose log is longer: what explains it explained the one before
goes_later : {r s : RigState} {a : Field} {tables : List Table} {x y : Hand} → Narrows r s → Goes r a tables x y → Goes s a tables x y
goes_later narrows p = record { hand = p.hand; grows = p.grows; marks = p.marks; holds = λ f e. p.holds f (narrows f e); funded = p.funded }

pub goes_on : {a : Field} {tables : List Table} {x y z : Hand} {r s : RigState} {k l : Kept} → Goes r a tables x y → Advances r s k l → Goes s a tables y z → Goes s a tables x z
goes_on p on q = goes_then (goes_later on.narrows p) q

-- more tables might have been marked
pub goes_wider : {now : RigState} {a : Field} {x y : Hand} (tables : List Table) → Goes now a [] x y → Goes now a tables x y
goes_wider {now} {a} {x} {y} tables g = record {
  hand = g.hand;
  grows = g.grows;
  marks = record {
    stuck = g.marks.stuck;
    unfit = g.marks.unfit;
    unclear = g.marks.unclear;
    wrong = record { len = g.marks.wrong.len; stays = g.marks.wrong.stays; within = λ i on. by i (g.marks.wrong.within i on) };
  };
  holds = g.holds;
  funded = g.funded;
}
  where
    none : (i : ℕ) → HasTable [] i → ⊥
    none i has = (let here = has.here in cc)

    by : (i : ℕ) → (has_number x.bad.wrong i ≡ true) ⊎ HasTable [] i → (has_number x.bad.wrong i ≡ true) ⊎ HasTable tables i
    by i (inl on) = inl on
    by i (inr has) = absurd (none i has)

-- a step whose hand knows all of the set, and back
pub goes_whole : {now : RigState} {a : Field} {tables : List Table} {x y : Hand} → KnowsAll y.kept y.known.steps → GoesYet now a tables x y → Goes now a tables x y
goes_whole all g = record {
  hand = record { known = g.hand.known; all = all; field = g.hand.field; marks = g.hand.marks; budget = g.hand.budget };
  grows = g.grows;
  marks = g.marks;
  holds = g.holds;
  funded = g.funded;
}

pub hand_yet : {a : Field} {h : Hand} → IsHand a h → IsHandYet a h
hand_yet is = record { known = is.known; field = is.field; marks = is.marks; budget = is.budget }

pub yet_itself : {now : RigState} {a : Field} {tables : List Table} {h : Hand} → IsHand a h → GoesYet now a tables h h
yet_itself {a = a} {tables = tables} {h = h} is = record {
  hand = hand_yet is;
  grows = grows_itself a h.known.steps;
  marks = marks_itself a tables h.bad;
  holds = λ f e t. t;
  funded = λ limit f. f;
}

pub yet_then : {now : RigState} {a : Field} {tables : List Table} {x y z : Hand} → GoesYet now a tables x y → GoesYet now a tables y z → GoesYet now a tables x z
yet_then p q = record {
  hand = q.hand;
  grows = grows_then p.grows q.grows;
  marks = marks_then p.marks q.marks;
  holds = λ f e t. q.holds f e (p.holds f e t);
  funded = λ limit f. q.funded limit (p.funded limit f);
}

-- the set stays as it was by what a test shows, or what it leaves where it ends early
pub set_of : {k l : Kept} → l ≡ k → KeepsSet k l
set_of still w = ap (λ (n : Kept). is_apart n w) still

pub set_by : {T E : Type 0} (k l : Kept) (r : Result T E) → OnOk r (KeepsSet k l) → OnErr r (l ≡ k) → KeepsSet k l
set_by k l (Ok v) same still = same
set_by k l (Err e) same still = set_of still

-- a test that marks, and was paid for
pub goes_tested : {now : RigState} {a : Field} {tables : List Table} {k l : Kept} {known : KnownWires} {bad new : DefectMarks} {budget : LoadBudget} {before after : ℕ} (n : ℕ) → IsHand a (in_hand k known bad budget before) → before + n ≤ budget.most → after ≤ before + n → IsMore k l →
    MarksIn a tables bad new → ForEach now (λ told. TrueIf told k known.steps bad → TrueIf told l known.steps new) → GoesYet now a tables (in_hand k known bad budget before) (in_hand l known new budget after)
goes_tested {a = a} {known = known} n hand can took more marked holds = record {
  hand = record {
    known = known_later more hand.known;
    field = subst (λ m. IsFieldOf m a) (sym more.shape) hand.field;
    marks = marks_for more.shape hand.marks marked;
    budget = hand.budget ∙ ap crosses_of (sym more.shape);
  };
  grows = grows_itself a known.steps;
  marks = marked;
  holds = holds;
  funded = funded_test n can took more marked.stuck.stays;
}

-- what tests over the rig have made of what is in hand so far
pub record HasGone (first now : RigState) (j k : Kept) (a : Field) (tables : List Table) (old new : Hand) : Type 0 where
  pub hand : IsHand a new
  pub goes : Goes now a tables old new
  pub advances : Advances first now j k

pub gone_none : {r : RigState} {k : Kept} {a : Field} {tables : List Table} {h : Hand} → IsHand a h → HasGone r r k k a tables h h
gone_none {r} {k} hand = record { hand = hand; goes = goes_itself hand; advances = advances_itself r k }

pub gone_on : {r s t : RigState} {j k l : Kept} {a : Field} {tables : List Table} {x y z : Hand} → HasGone r s j k a tables x y → Goes t a tables y z → Advances s t k l → HasGone r t j l a tables x z
gone_on p q on = record { hand = q.hand; goes = goes_on p.goes on q; advances = advances_then p.advances on }

-- The set is taken back to what is known: a step that advances, seen from what was known before.
pub advances_back : {a : Field} {k l n : Kept} {ss ts : List VerifiedWire} {wires : List Bool} {r s : RigState} → KnowsAll k ss → GrowsIn a ss ts → ((w : ℕ) → HasWire ts w → has_number wires w ≡ true) → HasRetaken wires l n → Advances r s k l → Advances r s k n
advances_back all grows whole ret adv = record {
  machine = adv.machine;
  later = adv.later;
  counted = adv.counted;
  few = adv.few;
  more = retaken_still ret adv.more (λ w on. whole w (grows.stays w (all w on)));
  narrows = adv.narrows;
  tells = adv.tells;
  explained = λ f e h. holds_retaken ret f (adv.explained f e h);
}

pub goes_back : {now : RigState} {a : Field} {tables : List Table} {j l n : Kept} {old new : KnownWires} {bad found : DefectMarks} {budget purse : LoadBudget} {before after : ℕ} {wires : List Bool} → ((w : ℕ) → HasWire new.steps w → has_number wires w ≡ true) →
    ((w : ℕ) → has_number wires w ≡ true → HasWire new.steps w) → HasRetaken wires l n → GoesYet now a tables (in_hand j old bad budget before) (in_hand l new found purse after) → Goes now a tables (in_hand j old bad budget before) (in_hand n new found purse after)
goes_back {now} {a} {tables} {j} {l} {n} {old} {new} {bad} {found} whole known ret g = record {
  hand = record {
    known = known_retaken ret whole g.hand.known;
    all = retaken_all ret known;
    field = subst (λ m. IsFieldOf m a) (sym (retaken_shape ret)) g.hand.field;
    marks = marks_for (retaken_shape ret) g.hand.marks (marks_itself a tables found);
    budget = g.hand.budget ∙ ap crosses_of (sym (retaken_shape ret));
  };
  grows = g.grows;
  marks = g.marks;
  holds = λ f e t. true_back (retaken_shape ret) (λ h _. holds_retaken ret h) (g.holds f e t);
  funded = λ limit f. funded_back (retaken_cross ret) (g.funded limit f);
}

-- a purse that is settled anew
pub yet_settled : {now : RigState} {a : Field} {tables : List Table} {k : Kept} {known : KnownWires} {bad : DefectMarks} {old new : LoadBudget} {loads : ℕ} → IsHandYet a (in_hand k known bad old loads) → Settles k bad old new →
    GoesYet now a tables (in_hand k known bad old loads) (in_hand k known bad new loads)
yet_settled {now} {a} {tables} {k} {known} {bad} {old} {new} {loads} hand s = record {
  hand = record { known = hand.known; field = hand.field; marks = hand.marks; budget = s.len ∙ hand.budget };
  grows = grows_itself a known.steps;
  marks = marks_itself a tables bad;
  holds = λ f e t. t;
  funded = λ limit f. record {
    paid = (let paid = f.paid in let more = s.most in omega (arith, paid, more));
    within = (let within = f.within in let less = s.within in omega (arith, within, less));
    whole = λ x on is. s.whole x (f.whole x on is) is;
  };
}

pub goes_settled : {now : RigState} {a : Field} {tables : List Table} {k : Kept} {known : KnownWires} {bad : DefectMarks} {old new : LoadBudget} {loads : ℕ} → IsHand a (in_hand k known bad old loads) → Settles k bad old new →
    Goes now a tables (in_hand k known bad old loads) (in_hand k known bad new loads)
goes_settled hand s = goes_whole hand.all (yet_settled (hand_yet hand) s)

-- more is known
pub yet_learnt : {now : RigState} {a : Field} {tables : List Table} {k : Kept} {old new : KnownWires} {bad : DefectMarks} {budget : LoadBudget} {loads : ℕ} → IsHandYet a (in_hand k old bad budget loads) → IsKnown k new → GrowsIn a old.steps new.steps →
    GoesYet now a tables (in_hand k old bad budget loads) (in_hand k new bad budget loads)
yet_learnt {now} {a} {tables} {k} {old} {new} {bad} {budget} {loads} hand known grows = record {
  hand = record { known = known; field = hand.field; marks = hand.marks; budget = hand.budget };
  grows = grows;
  marks = marks_itself a tables bad;
  holds = λ f e t. true_later (more_itself k) (λ g is h. h) grows.stays t;
  funded = λ limit f. record { paid = f.paid; within = f.within; whole = f.whole };
}
