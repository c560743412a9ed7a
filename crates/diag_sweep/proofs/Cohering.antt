-- What is shown stays coherent, and true of what explains the log.
use Rattle.std.proofs.Common.{◌≡◌, ℕ, ◌+◌, Bool, true, false, Option, List, length, subst, sym, ◌∙◌}
use Rattle.diag_evidence.proofs.Keeping.{advances_but, advances_itself, advances_rest, rest_itself, rest_then}
use Rattle.diag_evidence.specs.Vocabulary.{Advances, HoldsFor, IsButPairs, Kept}
use Rattle.diag_known.specs.Vocabulary.{IsKnown, KnowsAll}
use Rattle.diag_sweep.proofs.Vocabulary.{Faults, Shape, crosses_of, false≢true, has_number, ForEach, RigState, Field, IsFieldOf, Table, AreMarksFor, TrueIf, VerifiedWire}
use Rattle.diag_sweep.proofs.Vocabulary.{DefectMarks, Knowledge, LoadBudget, Goes, IsHand, IsCoherent, Progress, ProgressButPairs, TrueOf, hand_of}

pub coherent_hand : {a : Field} {k : Knowledge} {budget : LoadBudget} {loads : ℕ} → IsHand a (hand_of k budget loads) → IsCoherent k
coherent_hand hand = record { known = hand.known; all = hand.all; marks = hand.marks }

pub hand_coherent : {a : Field} {k : Knowledge} {budget : LoadBudget} {loads : ℕ} → IsCoherent k → IsFieldOf k.facts.shape a → length budget.unsettled ≡ crosses_of k.facts.shape → IsHand a (hand_of k budget loads)
hand_coherent c field budget = record { known = c.known; all = c.all; field = field; marks = c.marks; budget = budget }

-- nothing was done
pub progress_itself : (r : RigState) {k : Knowledge} → IsCoherent k → Progress r r k k
progress_itself r {k} coherent = record { coherent = coherent; holds = λ f e t. t; advances = advances_itself r k.facts }

pub but_pairs_itself : (r : RigState) {k : Knowledge} → IsCoherent k → ProgressButPairs r r k k
but_pairs_itself r {k} coherent = record { coherent = coherent; holds = λ f e t. t; advances = rest_itself r k.facts }

-- a step of a sweep
pub progress_goes : {r s : RigState} {a : Field} {tables : List Table} {k l : Knowledge} {b c : LoadBudget} {n m : ℕ} → Goes s a tables (hand_of k b n) (hand_of l c m) → Advances r s k.facts l.facts → Progress r s k l
progress_goes goes advances = record { coherent = coherent_hand goes.hand; holds = goes.holds; advances = advances }

pub but_pairs_goes : {r s : RigState} {a : Field} {tables : List Table} {k l : Knowledge} {b c : LoadBudget} {n m : ℕ} → Goes s a tables (hand_of k b n) (hand_of l c m) → Advances r s k.facts l.facts → ProgressButPairs r s k l
but_pairs_goes goes advances = record { coherent = coherent_hand goes.hand; holds = goes.holds; advances = advances_rest advances }

-- .. behind which wires give way
pub but_pairs_given : {r s : RigState} {a : Field} {tables : List Table} {k l m : Knowledge} {b c : LoadBudget} {n o : ℕ} → Goes s a tables (hand_of k b n) (hand_of l c o) → Advances r s k.facts l.facts →
    IsCoherent m → IsButPairs l.facts m.facts → ((f : Faults) → HoldsFor l.facts f → HoldsFor m.facts f) → ((told : Option Faults) → TrueOf told l → TrueOf told m) → ProgressButPairs r s k m
but_pairs_given goes advances coherent but explained right = record {
  coherent = coherent;
  holds = λ f e t. right _ (goes.holds f e t);
  advances = advances_but _ but explained advances;
}

-- what is known grows, and marks stay as they were
pub coherent_grown : {k l : Knowledge} → IsCoherent k → l.facts.shape ≡ k.facts.shape → IsKnown l.facts l.verified → KnowsAll l.facts l.verified.steps → l.marks ≡ k.marks → IsCoherent l
coherent_grown {k} {l} c shape known all same = record { known = known; all = all; marks = subst (λ (b : DefectMarks). AreMarksFor l.facts.shape b) (sym same) (subst (λ (m : Shape). AreMarksFor m k.marks) (sym shape) c.marks) }

-- one call after the other
pub but_pairs : {r s : RigState} {k l : Knowledge} → Progress r s k l → ProgressButPairs r s k l
but_pairs p = record { coherent = p.coherent; holds = p.holds; advances = advances_rest p.advances }

pub but_then : {r s t : RigState} {k l m : Knowledge} → ProgressButPairs r s k l → ProgressButPairs s t l m → ProgressButPairs r t k m
but_then p q = record { coherent = q.coherent; holds = λ f e h. q.holds f e (p.holds f (q.advances.narrows f e) h); advances = rest_then p.advances q.advances }

pub truth_on : {r s : RigState} {k l : Knowledge} → ProgressButPairs r s k l → ForEach r (λ told. TrueOf told k) → ForEach s (λ told. TrueOf told l)
truth_on p truth f e = p.holds f e (truth f (p.advances.narrows f e))

-- Nothing is marked, and what is kept is true.
pub true_of_none : {k : Kept} (ss : List VerifiedWire) {b : DefectMarks} → ((f : Faults) → HoldsFor k f) → ((x : ℕ) → has_number b.stuck x ≡ false) → ((w : ℕ) → has_number b.unfit w ≡ false) → ((w : ℕ) → has_number b.unclear w ≡ false) → ((t : ℕ) → has_number b.wrong t ≡ false) →
    (told : Option Faults) → TrueIf told k ss b
true_of_none ss holds stuck unfit unclear wrong told = record {
  at = λ f e. (
    holds f,
    record {
      stuck = λ x on. absurd (false≢true (sym (stuck x) ∙ on));
      unfit = λ w on. absurd (false≢true (sym (unfit w) ∙ on));
      unclear = λ w on. absurd (false≢true (sym (unclear w) ∙ on));
      wrong = λ t on. absurd (false≢true (sym (wrong t) ∙ on));
    },
  );
}
