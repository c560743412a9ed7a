-- What a load of tables leaves.
use Rattle.std.proofs.Common.{◌≡◌, ◌⊎◌, inl, inr, ℕ, suc, ◌≤◌, ◌+◌, Bool, true, false, not, ◌&&◌, Result, Ok, Err, List, [], ◌∷◌, length, refl, sym, ◌∙◌, subst, arith, All, OnOk, OnErr, ◌==◌}
use Rattle.diag_sweep.proofs.Vocabulary.{false≢true, or_cases, and_parts, or_right, nat_tests, has_number, Table, Faults, Explains}
use Rattle.diag_sweep.proofs.Vocabulary.{RigState, ForEach, advances_itself, advances_then, of_told, trial_by_gain, KnownWires, Field}
use Rattle.diag_sweep.proofs.Vocabulary.{HasTable, MarksSome, MarksIn, TrueIf, Goes, GoesYet, Hand, IsHand, in_hand, DefectMarks}
use Rattle.diag_sweep.proofs.Vocabulary.{LoadBudget}
use Rattle.diag_evidence.specs.Vocabulary.{Trees, Kept, Advances, HoldsFor, IsMore, KeepsForest, KeepsSet, ShowsTabled, WrongIf, is_one_of, is_right_before, output_pin, right_parts}
use Rattle.diag_sweep.proofs.Going.{goes_itself, goes_on, goes_tested}
use Rattle.diag_sweep.proofs.Marking.{true_later, some_itself}

-- one of these tables is one of the given ones
given : {tables : List Table} (ts : List Table) → All (λ t. HasTable tables t.0) ts → (t : ℕ) → is_one_of ts t ≡ true → HasTable tables t
given [] all t on = absurd (false≢true on)
given {tables} (a ∷ ts) all t on = by (given ts (λ i d below. all (suc i) d (omega (arith, below))) t) (or_cases (a.0 == t) (is_one_of ts t) on)
  where
    same : (a.0 == t) ≡ true → a.0 ≡ t
    same e = grind (arith, nat_tests, e)

    by : (is_one_of ts t ≡ true → HasTable tables t) → ((a.0 == t) ≡ true) ⊎ (is_one_of ts t ≡ true) → HasTable tables t
    by later (inl here) = subst (HasTable tables) (same here) (all 0 a (omega arith))
    by later (inr more) = later more

pub wrong_marks : (trees : Trees) (tables ts : List Table) (before after : RigState) (k l : Kept) (was is : List Bool) {T E : Type 0} (r : Result T E) → All (λ t. HasTable tables t.0) ts → length is ≡ length was →
    OnOk r (ShowsTabled trees ts before after k l was is) → OnErr r (is ≡ was) → MarksSome (HasTable tables) was is
wrong_marks trees tables ts before after k l was is (Ok v) of len tabled same = record {
  len = len;
  stays = λ t on. tabled.marks t ∙ or_right (is_one_of ts t && not (is_right_before tabled.setting tabled.reads tabled.opposite (output_pin trees t) 65)) (has_number was t) on;
  within = λ t on. by t (or_cases (is_one_of ts t && not (is_right_before tabled.setting tabled.reads tabled.opposite (output_pin trees t) 65)) (has_number was t) (sym (tabled.marks t) ∙ on));
}
  where
    by : (t : ℕ) → ((is_one_of ts t && not (is_right_before tabled.setting tabled.reads tabled.opposite (output_pin trees t) 65)) ≡ true) ⊎ (has_number was t ≡ true) → (has_number was t ≡ true) ⊎ HasTable tables t
    by t (inl new) = inr (given ts of t (and_parts (is_one_of ts t) (not (is_right_before tabled.setting tabled.reads tabled.opposite (output_pin trees t) 65)) new).0)
    by t (inr on) = inl on
wrong_marks trees tables ts before after k l was is (Err e) of len tabled same = subst (MarksSome (HasTable tables) was) (sym same) (some_itself (HasTable tables) was)

-- no wire joins the set by it
pub tabled_set : {trees : Trees} {ts : List Table} {before after : RigState} {k l : Kept} {was is : List Bool} → ShowsTabled trees ts before after k l was is → KeepsSet k l
tabled_set {trees} {ts} {k = k} {l = l} t = (trial_by_gain (right_parts trees ts t.setting t.reads t.opposite) k l t.gains (λ w. refl)).apart

pub table_goes : {now : RigState} {a : Field} {k l : Kept} {known : KnownWires} {bad : DefectMarks} {wrong : List Bool} {budget : LoadBudget} {before after : ℕ} (tables : List Table) → IsHand a (in_hand k known bad budget before) → before + 2 ≤ budget.most →
    after ≤ before + 2 → IsMore k l → ((f : Faults) → Explains f now → HoldsFor k f → HoldsFor l f) → MarksSome (HasTable tables) bad.wrong wrong → ForEach now (λ told. WrongIf told k bad.wrong → WrongIf told l wrong) →
    GoesYet now a tables (in_hand k known bad budget before) (in_hand l known (record bad { wrong = wrong }) budget after)
table_goes {now} {a} {k} {l} {known} {bad} {wrong} {budget} {before} {after} tables hand can took more explained marks true_ = goes_tested 2 hand can took more marked holds
  where
    marked : MarksIn a tables bad (record bad { wrong = wrong })
    marked = record {
      stuck = some_itself _ bad.stuck;
      unfit = some_itself _ bad.unfit;
      unclear = some_itself _ bad.unclear;
      wrong = marks;
    }

    holds : ForEach now (λ told. TrueIf told k known.steps bad → TrueIf told l known.steps (record bad { wrong = wrong }))
    holds s x t = record {
      at = λ f e. let both = (true_later more (of_told (λ g. HoldsFor k g → HoldsFor l g) (explained s x)) (λ u on. on) t).at f e in (
        both.0,
        record {
          stuck = both.1.stuck;
          unfit = both.1.unfit;
          unclear = both.1.unclear;
          wrong = true_ s x (λ f e h. (t.at f e).1.wrong) f e both.0;
        },
      );
    }

-- a step after calls that left the tables as they were
pub table_on : {a : Field} {ts us : List Table} {x y z : Hand} {r s : RigState} {k l : Kept} → us ≡ ts → Goes r a ts x y → Advances r s k l → Goes s a us y z → Goes s a ts x z
table_on {a = a} {y = y} {z = z} {s = s} same p on q = goes_on p on (subst (λ (t : List Table). Goes s a t y z) same q)

-- what tests of tables have made of what is in hand so far; the tables are as they were, and the forest is kept
pub record HasTested (first now : RigState) (j k : Kept) (a : Field) (given : List Table) (old new : Hand) {T : Type 0} (was is : T) (trees : Trees) : Type 0 where
  pub hand : IsHand a new
  pub goes : Goes now a given old new
  pub tables : is ≡ was
  pub advances : Advances first now j k
  pub forest : KeepsForest k trees

pub tested_none : {r : RigState} {k : Kept} {a : Field} {given : List Table} {h : Hand} {T : Type 0} {was : T} {trees : Trees} → IsHand a h → KeepsForest k trees → HasTested r r k k a given h h was was trees
tested_none {r} {k} hand keeps = record { hand = hand; goes = goes_itself hand; tables = refl; advances = advances_itself r k; forest = keeps }

pub tested_on : {r s t : RigState} {j k l : Kept} {a : Field} {given those : List Table} {x y z : Hand} {T : Type 0} {was is more : T} {trees new : Trees} → HasTested r s j k a given x y was is trees → those ≡ given → Goes t a those y z → more ≡ is → Advances s t k l → KeepsForest l new →
    HasTested r t j l a given x z was more new
tested_on p same q tables on keeps = record { hand = q.hand; goes = table_on same p.goes on q; tables = tables ∙ p.tables; advances = advances_then p.advances on; forest = keeps }
