-- Marks stay true as more is kept and more is known.
use Rattle.diag_sweep.proofs.Vocabulary.{◌≡◌, ◌⊎◌, ℕ, Bool, true, Option, Some, List, refl, sym, ap, ◌∙◌, subst, inl, inr, has_number}
use Rattle.diag_sweep.proofs.Vocabulary.{Shape, Table, Faults, wires_of, crosses_of, tables_of, Kept, IsMore, HoldsFor, HasWire, Field}
use Rattle.diag_sweep.proofs.Vocabulary.{VerifiedWire, AreMarksFor, AreTrueMarks, HasTable, MarksIn, MarksSome, TrueIf, DefectMarks}

pub some_itself : (these : ℕ → Type 0) (was : List Bool) → MarksSome these was was
some_itself these was = record { len = refl; stays = λ i on. on; within = λ i on. inl on }

pub some_then : {these : ℕ → Type 0} {x y z : List Bool} → MarksSome these x y → MarksSome these y z → MarksSome these x z
some_then {these} {x} {y} p q = record { len = q.len ∙ p.len; stays = λ i on. q.stays i (p.stays i on); within = λ i on. by i (q.within i on) }
  where
    by : (i : ℕ) → (has_number y i ≡ true) ⊎ these i → (has_number x i ≡ true) ⊎ these i
    by i (inl on) = p.within i on
    by i (inr is) = inr is

pub marks_itself : (a : Field) (tables : List Table) (b : DefectMarks) → MarksIn a tables b b
marks_itself a tables b = record { stuck = some_itself _ b.stuck; unfit = some_itself _ b.unfit; unclear = some_itself _ b.unclear; wrong = some_itself _ b.wrong }

pub marks_then : {a : Field} {tables : List Table} {x y z : DefectMarks} → MarksIn a tables x y → MarksIn a tables y z → MarksIn a tables x z
marks_then p q = record { stuck = some_then p.stuck q.stuck; unfit = some_then p.unfit q.unfit; unclear = some_then p.unclear q.unclear; wrong = some_then p.wrong q.wrong }

pub marks_for : {m n : Shape} {a : Field} {tables : List Table} {b c : DefectMarks} → n ≡ m → AreMarksFor m b → MarksIn a tables b c → AreMarksFor n c
marks_for same are in_ = record {
  stuck = in_.stuck.len ∙ are.stuck ∙ ap crosses_of (sym same);
  unfit = in_.unfit.len ∙ are.unfit ∙ ap wires_of (sym same);
  unclear = in_.unclear.len ∙ are.unclear ∙ ap wires_of (sym same);
  wrong = in_.wrong.len ∙ are.wrong ∙ ap tables_of (sym same);
}

-- less of the set is kept: the same marks stay true
pub true_back : {told : Option Faults} {k l : Kept} {ss : List VerifiedWire} {b : DefectMarks} → l.shape ≡ k.shape → ((f : Faults) → told ≡ Some f → HoldsFor k f → HoldsFor l f) → TrueIf told k ss b → TrueIf told l ss b
true_back {ss = ss} {b = b} shape explained t = record { at = λ f e. (explained f e (t.at f e).0, subst (λ (m : Shape). AreTrueMarks m f (HasWire ss) b) (sym shape) (t.at f e).1) }

-- more is kept and more is known: the same marks stay true
pub true_later : {told : Option Faults} {k l : Kept} {ss ts : List VerifiedWire} {b : DefectMarks} → IsMore k l → ((f : Faults) → told ≡ Some f → HoldsFor k f → HoldsFor l f) → ((w : ℕ) → HasWire ss w → HasWire ts w) → TrueIf told k ss b → TrueIf told l ts b
true_later {told} {k} {l} {ss} {ts} {b} more explained known t = record { at = λ f e. (explained f e (t.at f e).0, subst (λ (m : Shape). AreTrueMarks m f (HasWire ts) b) (sym more.shape) (at f (t.at f e).1)) }
  where
    at : (f : Faults) → AreTrueMarks k.shape f (HasWire ss) b → AreTrueMarks k.shape f (HasWire ts) b
    at f old = record {
      stuck = old.stuck;
      unfit = λ w on clear alone. old.unfit w on clear (λ u has. alone u (known u has));
      unclear = old.unclear;
      wrong = old.wrong;
    }
